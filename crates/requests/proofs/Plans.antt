-- What a plan is, by the tests of its table. Assumes nothing.
use Prim.Native.Nat.{ℕ, ◌+◌, ◌-◌, ◌%◌, ◌≤◌}
use mathlib.Core.Path.{◌≡◌, refl}
use mathlib.Core.Bool.{true, false, ◌&&◌, and-false}
use mathlib.Core.List.{List}
use native.Mathlib.Omega.{arith}
use lib.ListN.{length, get_or}
use borrow.Author.Tests.{leb-true, ne_eqb, eqb-true}
use lib.Dec.{leb, ltb, eqb}
use Rattle.message.specs.Header.{action_of}
use Rattle.message.proofs.Tests.{and_l, and_r, cases}
use Rattle.ring.specs.Ring.{allowed}
use Rattle.ring.specs.Numbers.{need}
use Rattle.ring.proofs.Chains.{passed, passed_rest}
use Rattle.requests.specs.declared.record.Record.{Record}
use Rattle.requests.specs.declared.asking.Ask.{Ask}
use Rattle.requests.specs.declared.state.State.{State}
use Rattle.requests.specs.Fence.{next_fence}
use Rattle.requests.specs.Table.{free_record, still_open, fence_twice, allowed_length, lowest_free, place_of, set_aside}
use Rattle.requests.specs.Calls.{fresh_number, is_reply, open_record, record_after, answer_of}
use Rattle.requests.specs.Plan.{refused_plan, open_plan, reply_plan, plan_of, last_kept}

-- an allowed length
pub allowed-most : (n : ℕ) → allowed_length n ≡ true → n ≤ 256
unfolding allowed_length
allowed-most n e = leb-true n 256 (and_r (leb 1 n) (leb n 256) e)

-- and an allowed N
pub allowed_least : (n : ℕ) → allowed n ≡ true → 1 ≤ n
unfolding allowed
allowed_least n e =
    let l = leb-true 1024 n (and_r (eqb (n % 1024) 0) (leb 1024 n) (and_l (eqb (n % 1024) 0 && leb 1024 n) (leb n 16384) e)) in
    omega arith

-- a reply
module _ (t : List Record) (last : ℕ) {n : ℕ} (kind fence : ℕ) (s : length t ≡ n) where
  pub reply-closed : still_open t fence ≡ false → reply_plan t last kind fence ≡ refused_plan 27 n last
  unfolding reply_plan
  reply-closed o = rw (o, s)

  pub reply-other : is_reply kind ≡ false → reply_plan t last kind fence ≡ refused_plan 27 n last
  unfolding reply_plan
  reply-other k = rw (k, and-false, s)

  pub reply-there :
      still_open t fence ≡ true → is_reply kind ≡ true
      → reply_plan t last kind fence
      ≡ record {
        at = place_of fence t;
        stored = record_after kind (get_or t (place_of fence t) free_record);
        answer = answer_of kind (get_or t (place_of fence t) free_record);
        was = last;
        last = last;
      }
  unfolding reply_plan
  reply-there o k = rw (o, k)

module _ (t : List Record) (s : State) where
  -- an opening
  module _ (room action : ℕ) where
    -- 26, then 28
    abbrev pub open_code : ℕ
    open_code = need (ltb (lowest_free t) (length t)) 26 (need (leb (set_aside t + room) (s.n - 1)) 28 0)

    pub plan_unopened : (open_code ≡ 0 → ⊥) → open_plan t s room action ≡ refused_plan open_code (length t) s.last
    unfolding open_plan need
    plan_unopened h =
        cases (ltb (lowest_free t) (length t))
        (λ f. cases (leb (set_aside t + room) (s.n - 1)) (λ r. absurd (h (rw (f, r)))) (λ r. rw (f, r)))
        (λ f. rw f)

    pub plan_free :
        open_code ≡ 0
        → let fence = next_fence (still_open t) s.last in
        open_plan t s room action
        ≡ record {
          at = lowest_free t;
          stored = open_record fence action room;
          answer = record { code = 0; kind = 0; fence = fence; action = 0; count = 0 };
          was = s.last;
          last = fence;
        }
    unfolding open_plan
    plan_free h =
        let rest = passed_rest (ltb (lowest_free t) (length t)) 26 (need (leb (set_aside t + room) (s.n - 1)) 28 0) 0 refl h in
        rw (passed (ltb (lowest_free t) (length t)) 26 _ 0 refl h, passed (leb (set_aside t + room) (s.n - 1)) 28 0 0 refl rest)

  -- what is asked of a table
  module _ (n : ℕ) (a : Ask) where
    pub plan_unfit : allowed_length n ≡ false → plan_of t n s a ≡ refused_plan 35 n s.last
    unfolding plan_of
    plan_unfit e = rw e

    pub plan_twice : fence_twice t ≡ true → plan_of t n s a ≡ refused_plan 35 n s.last
    unfolding plan_of
    plan_twice e = rw (e, and-false)

    -- of a fit table: 2, what refuses it already, an opening, and a reply
    module _ (e : allowed_length n ≡ true) (f : fence_twice t ≡ false) where
      pub plan_bad-n : allowed s.n ≡ false → plan_of t n s a ≡ refused_plan 2 n s.last
      unfolding plan_of
      plan_bad-n g = rw (e, f, g)

      module _ (g : allowed s.n ≡ true) where
        pub plan_refused : (a.code ≡ 0 → ⊥) → plan_of t n s a ≡ refused_plan a.code n s.last
        unfolding plan_of
        plan_refused c = rw (e, f, g, ne_eqb a.code 0 c)

        pub plan_opens :
            a.code ≡ 0 → a.opening ≡ true → plan_of t n s a ≡ open_plan t s a.room (action_of a.word)
        unfolding plan_of
        plan_opens c o = rw (e, f, g, c, o)

        pub plan_replies : a.code ≡ 0 → a.opening ≡ false → plan_of t n s a ≡ reply_plan t s.last a.kind a.fence
        unfolding plan_of
        plan_replies c o = rw (e, f, g, c, o)

-- ---- the state's words

-- the N of a wall that is made fits its word
pub begun-small : (records n : ℕ) → fresh_number records n ≡ 0 → n ≤ 16384
unfolding fresh_number allowed
begun-small records n e =
    let rest : need (allowed n) 2 0 ≡ 0 = passed_rest (allowed_length records) 35 (need (allowed n) 2 0) 0 refl e in
    let ok : allowed n ≡ true = passed (allowed n) 2 0 0 refl rest in
    leb-true n 16384 (and_r (eqb (n % 1024) 0 && leb 1024 n) (leb n 16384) ok)

-- where the word was the last fence, it is afterwards
pub kept-last : (was last : ℕ) → last_kept was last was ≡ last
unfolding last_kept
kept-last was last = cases (eqb was last) (λ e. rw e (eqb-true was last e)) (λ e. rw e)
