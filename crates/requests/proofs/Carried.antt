-- A plan carried out is the call: the crate that holds the table stores the planned record, and sends a request before.
-- Assumes nothing.
use Prim.Native.Nat.{ℕ, ◌+◌, ◌-◌, ◌≤◌}
use mathlib.Core.Path.{◌≡◌, sym, ap, ◌∙◌}
use mathlib.Core.Bool.{false, not, ◌&&◌, cond}
use mathlib.Core.List.{List}
use native.Mathlib.Omega.{arith}
use lib.ListN.{length, take}
use lib.Seq.{set_out}
use lib.Dec.{eqb, leb, ltb}
use Rattle.message.specs.Header.{is_request}
use Rattle.message.proofs.Tests.{cases}
use Rattle.ring.specs.Ring.{allowed}
use Rattle.ring.specs.Numbers.{need}
use Rattle.requests.specs.declared.record.Record.{Record}
use Rattle.requests.specs.declared.asking.Ask.{Ask}
use Rattle.requests.specs.declared.asking.Heard.{Heard}
use Rattle.requests.specs.declared.planning.Plan.{Plan}
use Rattle.requests.specs.declared.state.State.{State}
use Rattle.requests.specs.Table.{free_record, still_open, fence_twice, allowed_length, usable, lowest_free, set_aside}
use Rattle.requests.specs.Calls.{Wall, wall_needs, refused, open_number, open_by, picked_fence, is_reply}
use Rattle.requests.specs.Calls.{replying, reply_number, reply_by, reply_at}
use Rattle.requests.specs.Words.{records_with}
use Rattle.requests.specs.Plan.{asks_request, asks_reply, carried, refused_plan, open_plan, reply_plan, plan_of, sent_plan}
use Rattle.requests.proofs.Plans.{allowed-most, plan_unfit}

-- the words that hold the table, as far as they do: a table of more records than 256 is refused unread
pub planned_words :
    (words rooms : List ℕ) (t : List Record) (n : ℕ) (s : State) (a : Ask)
    → (n ≤ 256 → take n (records_with words rooms) ≡ t)
    → plan_of (take n (records_with words rooms)) n s a ≡ plan_of t n s a
planned_words words rooms t n s a same =
    cases (allowed_length n)
    (λ h. rw (same (allowed-most n h)))
    (λ h. plan_unfit (take n (records_with words rooms)) s n a h ∙ sym (plan_unfit t s n a h))

module _ (w : Wall) where
  abbrev t : List Record
  t = w.table

  abbrev state : State
  state = record { last = w.last; n = w.n }

  -- a refusal leaves the wall
  pub refusing : (c : ℕ) → carried (refused_plan c (length t) w.last) w ≡ refused c w
  unfolding carried refused
  refusing c = rw (set_out t (length t) free_record (omega arith))

  -- a reply
  pub carries_reply : (h : Heard) → carried (plan_of t (length t) state (asks_reply h)) w ≡ replying w h
  unfolding carried plan_of asks_reply reply_plan reply_by reply_number wall_needs reply_at usable need refused
  carries_reply h =
      let out = set_out t (length t) free_record (omega arith) in
      cases (allowed_length (length t) && not (fence_twice t))
      (λ u. cases (allowed w.n)
      (λ g. cases (eqb h.code 0)
      (λ z. cases (still_open t h.fence && is_reply h.kind) (λ k. rw (u, g, z, k)) (λ k. rw (u, g, z, k, out)))
      (λ z. rw (u, g, z, z, out)))
      (λ g. rw (u, g, out)))
      (λ u. rw (u, out))

  -- and the last fence stays
  pub reply-last : (h : Heard) → (plan_of t (length t) state (asks_reply h)).last ≡ w.last
  unfolding plan_of asks_reply reply_plan
  reply-last h =
      cases (allowed_length (length t) && not (fence_twice t))
      (λ u. cases (allowed w.n)
      (λ g. cases (eqb h.code 0)
      (λ z. cases (still_open t h.fence && is_reply h.kind) (λ k. rw (u, g, z, k)) (λ k. rw (u, g, z, k)))
      (λ z. rw (u, g, z)))
      (λ g. rw (u, g)))
      (λ u. rw u)

  -- an opening's plan: its number is the wall's, and carried out, where the ring answers c, it is the opening
  module _ (room : ℕ) (m : List ℕ) where
    abbrev plan : Plan
    plan = plan_of t (length t) state (asks_request room m)

    pub plan_number : plan.answer.code ≡ open_number w room m
    unfolding plan_of asks_request open_plan open_number wall_needs usable need
    plan_number =
        cases (allowed_length (length t) && not (fence_twice t))
        (λ u. cases (allowed w.n)
        (λ g. cases (leb room 256)
        (λ r. cases (is_request m)
        (λ q. cases (ltb (lowest_free t) (length t))
        (λ l. cases (leb (set_aside t + room) (w.n - 1)) (λ k. rw (u, g, r, q, l, k)) (λ k. rw (u, g, r, q, l, k)))
        (λ l. rw (u, g, r, q, l)))
        (λ q. rw (u, g, r, q)))
        (λ r. rw (u, g, r)))
        (λ g. rw (u, g)))
        (λ u. rw u)

    pub plan_was : plan.was ≡ w.last
    unfolding plan_of asks_request open_plan need
    plan_was =
        cases (allowed_length (length t) && not (fence_twice t))
        (λ u. cases (allowed w.n)
        (λ g. cases (leb room 256)
        (λ r. cases (is_request m)
        (λ q. cases (ltb (lowest_free t) (length t))
        (λ l. cases (leb (set_aside t + room) (w.n - 1)) (λ k. rw (u, g, r, q, l, k)) (λ k. rw (u, g, r, q, l, k)))
        (λ l. rw (u, g, r, q, l)))
        (λ q. rw (u, g, r, q)))
        (λ r. rw (u, g, r)))
        (λ g. rw (u, g)))
        (λ u. rw u)

    -- the fence that it picked
    pub plan_picked : open_number w room m ≡ 0 → plan.last ≡ picked_fence w
    unfolding plan_of asks_request open_plan open_number picked_fence wall_needs usable need
    plan_picked e =
        cases (allowed_length (length t) && not (fence_twice t))
        (λ u. cases (allowed w.n)
        (λ g. cases (leb room 256)
        (λ r. cases (is_request m)
        (λ q. cases (ltb (lowest_free t) (length t))
        (λ l. cases (leb (set_aside t + room) (w.n - 1)) (λ k. rw (u, g, r, q, l, k))
        (λ k. absurd (omega (arith, rw (u, g, r, q, l, k) at e))))
        (λ l. absurd (omega (arith, rw (u, g, r, q, l) at e))))
        (λ q. absurd (omega (arith, rw (u, g, r, q) at e))))
        (λ r. absurd (omega (arith, rw (u, g, r) at e))))
        (λ g. absurd (omega (arith, rw (u, g) at e))))
        (λ u. absurd (omega (arith, rw u at e)))

    refused_by_fact : (c : ℕ) → eqb c 0 ≡ false → open_by c w room m ≡ refused c w
    unfolding open_by
    refused_by_fact c z = rw z

    plan_carried : carried plan w ≡ open_by (open_number w room m) w room m
    unfolding carried plan_of asks_request open_plan open_number open_by picked_fence wall_needs usable need refused
    plan_carried =
        let out = set_out t (length t) free_record (omega arith) in
        cases (allowed_length (length t) && not (fence_twice t))
        (λ u. cases (allowed w.n)
        (λ g. cases (leb room 256)
        (λ r. cases (is_request m)
        (λ q. cases (ltb (lowest_free t) (length t))
        (λ l. cases (leb (set_aside t + room) (w.n - 1)) (λ k. rw (u, g, r, q, l, k)) (λ k. rw (u, g, r, q, l, k, out)))
        (λ l. rw (u, g, r, q, l, out)))
        (λ q. rw (u, g, r, q, out)))
        (λ r. rw (u, g, r, out)))
        (λ g. rw (u, g, out)))
        (λ u. rw (u, out))

    -- a plan after its request was sent, or was not
    pub carries_opening :
        (r : Plan) → r ≡ cond (eqb plan.answer.code 0) (sent_plan r.answer.code (length t) plan) plan
        → carried r w ≡ open_by r.answer.code w room m
    unfolding sent_plan
    carries_opening r e =
        cases (eqb plan.answer.code 0)
        (λ z.
        let sent : r ≡ cond (eqb r.answer.code 0) plan (refused_plan r.answer.code (length t) plan.was) = rw z at e in
        cases (eqb r.answer.code 0)
        (λ y.
        let same : r ≡ plan = rw y at sent in
        ap (λ (p : Plan). carried p w) same ∙ plan_carried
        ∙ ap (λ (c : ℕ). open_by c w room m) (sym (ap (λ (p : Plan). p.answer.code) same ∙ plan_number)))
        (λ y.
        let same : r ≡ refused_plan r.answer.code (length t) plan.was = rw y at sent in
        ap (λ (p : Plan). carried p w) same
        ∙ ap (λ (l : ℕ). carried (refused_plan r.answer.code (length t) l) w) plan_was
        ∙ refusing r.answer.code ∙ sym (refused_by_fact r.answer.code y)))
        (λ z.
        let same : r ≡ plan = rw z at e in
        ap (λ (p : Plan). carried p w) same ∙ plan_carried
        ∙ ap (λ (c : ℕ). open_by c w room m) (sym (ap (λ (p : Plan). p.answer.code) same ∙ plan_number)))

    -- the last fence before it
    pub sent_was :
        (r : Plan) → r ≡ cond (eqb plan.answer.code 0) (sent_plan r.answer.code (length t) plan) plan → r.was ≡ w.last
    unfolding sent_plan
    sent_was r e =
        cases (eqb plan.answer.code 0)
        (λ z.
        let sent : r ≡ cond (eqb r.answer.code 0) plan (refused_plan r.answer.code (length t) plan.was) = rw z at e in
        cases (eqb r.answer.code 0)
        (λ y. let same : r ≡ plan = rw y at sent in ap (λ (p : Plan). p.was) same ∙ plan_was)
        (λ y.
        let same : r ≡ refused_plan r.answer.code (length t) plan.was = rw y at sent in
        ap (λ (p : Plan). p.was) same ∙ plan_was))
        (λ z. let same : r ≡ plan = rw z at e in ap (λ (p : Plan). p.was) same ∙ plan_was)
