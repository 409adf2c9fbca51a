-- What a call does to a wall with a good table, whichever it is: it refuses, opens a record, or answers an open one; and
-- what each of the three keeps. Assumes nothing.
use Prim.Native.Nat.{ℕ, ◌+◌, ◌<◌}
use mathlib.Core.Path.{◌≡◌, refl, sym, ◌∙◌}
use mathlib.Core.Bool.{true, false, ◌&&◌}
use mathlib.Core.List.{List}
use mathlib.Core.Option.{none, some}
use native.Mathlib.Omega.{arith}
use borrow.Author.Tests.{eqb-true, ltb-true, eq-eqb, ne_eqb}
use lib.ListN.{length, get_or, length-set}
use lib.Dec.{eqb}
use Rattle.message.specs.Types.{type_of}
use Rattle.message.specs.Header.{action_of}
use Rattle.message.specs.declared.Message.{Message}
use Rattle.message.proofs.Tests.{and_l, cases}
use Rattle.ring.specs.Ring.{allowed}
use Rattle.ring.proofs.Chains.{true_false}
use Rattle.requests.specs.declared.record.Record.{Record}
use Rattle.requests.specs.Table.{free_record, is_open, still_open, lowest_free, place_of}
use Rattle.requests.specs.Calls.{Wall, Outcome, refused, open_number, picked_fence, is_reply, reply_at, heard_of}
use Rattle.requests.specs.Calls.{record_after, count_after, answer_of}
use Rattle.matching.specs.Lists.{Call, open_call, reply_call, outcome, plain_outcome, opens_one, closes_one}
use Rattle.matching.specs.Matching.{at, Good, entry_in, open_records, plain_of, Opened, Answered}
use Rattle.matching.proofs.Maps.{put_other}
use Rattle.matching.proofs.Tables.{has_open, lowest_free_lem, lower_open, place_inside, place_has}
use Rattle.matching.proofs.Sets.{each_set, open_set, stored-entry}
use Rattle.matching.proofs.Openings.{as_plain, stored-good, record_for, opened, fence_below, open_is_open, open_stores}
use Rattle.matching.proofs.Openings.{open_refused, open_rings, open_opens, Passes, passes, open_same}
use Rattle.matching.proofs.Replies.{reply-stores, reply-buffer, reply-malformed, reply_no, reply_yes, reply_same}

-- every call does on a wall what it does on the plain map of its table
pub step_same : (w : Wall) → Good w.table → (c : Call) → plain_outcome (plain_of w) c ≡ as_plain (outcome w c)
step_same w g (open_call room m ring) = open_same w g room m ring
step_same w g (reply_call r) = reply_same w g r

-- ---- the three things that a call does

pub data Did (w : Wall) : Call → Outcome → Type 0 where
  refuses : (c : Call) (n : ℕ) → eqb n 0 ≡ false → Did w c (refused n w)
  opens : (room : ℕ) (m : List ℕ) (ring : ℕ) → Passes w room m → Did w (open_call room m ring) (opened w room m)
  answers :
      (m : Message) → still_open w.table m.fence ≡ true
      → Did w (reply_call (some m)) (reply_at (place_of m.fence w.table) (type_of m.body) w)

pub did : (w : Wall) → Good w.table → (c : Call) → Did w c (outcome w c)
unfolding heard_of
did w g (open_call room m ring) =
    cases (eqb (open_number w room m) 0)
    (λ e. cases (eqb ring 0)
    (λ r. rw (open_opens w room m ring e r) (opens room m ring (passes w room m (eqb-true _ 0 e))))
    (λ r. rw (open_rings w room m ring e r) (refuses (open_call room m ring) ring r)))
    (λ e. rw (open_refused w room m ring e) (refuses (open_call room m ring) (open_number w room m) e))
did w g (reply_call none) =
    cases (allowed w.n)
    (λ a. rw (reply-malformed w g 0 a) (refuses (reply_call none) 4 refl))
    (λ a. rw (reply-buffer w g 0 (heard_of none) a) (refuses (reply_call none) 2 refl))
did w g (reply_call (some m)) =
    cases (allowed w.n)
    (λ a. cases (still_open w.table m.fence && is_reply (type_of m.body))
    (λ e. rw (reply_yes w g m.fence a (type_of m.body) e) (answers m (and_l _ _ e)))
    (λ e. rw (reply_no w g m.fence a (type_of m.body) e) (refuses (reply_call (some m)) 27 refl)))
    (λ a. rw (reply-buffer w g 0 (heard_of (some m)) a) (refuses (reply_call (some m)) 2 refl))

-- ---- what they keep

-- free records are all zeros
abbrev pub ZeroIfFree : Record → Type 0
ZeroIfFree r = is_open r ≡ false → r ≡ free_record

abbrev pub Zeros : List Record → Type 0
Zeros t = (i : ℕ) → ZeroIfFree (at t i)

-- the record after a reply: open where it was and is busy, free and all zeros else
pub after_open : (kind : ℕ) (r : Record) → is_open r ≡ true → is_open (record_after kind r) ≡ eqb kind 3
unfolding record_after is_open
after_open kind r o = cases (eqb kind 3) (λ e. rw e o) (λ e. rw e)

after-zeros : (kind : ℕ) (r : Record) → is_open r ≡ true → ZeroIfFree (record_after kind r)
unfolding record_after
after-zeros kind r o f =
    cases (eqb kind 3)
    (λ e. true_false (sym e ∙ sym (after_open kind r o) ∙ f))
    (λ e. rw e)

after_below : (kind : ℕ) (r : Record) → r.fence < 65536 → (record_after kind r).fence < 65536
unfolding record_after
after_below kind r h = cases (eqb kind 3) (λ e. rw e h) (λ e. rw e (omega arith))

-- the request that an opening stores is open
pub stored_open : (w : Wall) (room : ℕ) (m : List ℕ) → is_open (record_for w room m) ≡ true
stored_open w room m = open_is_open (picked_fence w) (action_of (get_or m 1 0)) room

module _ (w : Wall) (g : Good w.table) where
  abbrev t : List Record
  t = w.table

  pub did_good : (c : Call) (x : Outcome) → Did w c x → Good x.wall.table
  unfolding refused reply_at
  did_good c x (refuses _ n e) = g
  did_good c x (opens room m ring p) =
      stored-good t _ _ _ g (open_stores w g room m p.is_free) (fence_below w g)
  did_good c x (answers m s) =
      stored-good t _ _ _ g (reply-stores w g m.fence (type_of m.body) s)
      (after_below (type_of m.body) _ (g.sixteen_bits _))

  pub did_size : (c : Call) (x : Outcome) → Did w c x → length x.wall.table ≡ length t
  unfolding refused reply_at
  did_size c x (refuses _ n e) = refl
  did_size c x (opens room m ring p) = length-set t _ _
  did_size c x (answers m s) = length-set t _ _

  -- no call changes the reply buffer's N
  pub did_buffer : (c : Call) (x : Outcome) → Did w c x → x.wall.n ≡ w.n
  unfolding refused reply_at
  did_buffer c x (refuses _ n e) = refl
  did_buffer c x (opens room m ring p) = refl
  did_buffer c x (answers m s) = refl

  pub did_zeros : (c : Call) (x : Outcome) → Did w c x → Zeros t → Zeros x.wall.table
  unfolding refused reply_at
  did_zeros c x (refuses _ n e) z = z
  did_zeros c x (opens room m ring p) z = each_set ZeroIfFree t _ _ z (λ f. true_false (sym (stored_open w room m) ∙ f))
  did_zeros c x (answers m s) z =
      each_set ZeroIfFree t _ _ z (after-zeros (type_of m.body) _ (has_open m.fence _ (place_has t m.fence s)))

  -- what is open grows by an opening and shrinks by a closing
  pub did_count :
      (c : Call) (x : Outcome) → Did w c x
      → open_records t + opens_one c x.answer ≡ closes_one c x.answer + open_records x.wall.table
  unfolding refused reply_at answer_of
  did_count c x (refuses (open_call room m ring) n e) = rw e (omega arith)
  did_count c x (refuses (reply_call r) n e) = rw e (omega arith)
  did_count c x (opens room m ring p) =
      let q = open_set t (lowest_free t) (record_for w room m) (ltb-true (lowest_free t) (length t) p.is_free) in
      let k = rw (lowest_free_lem t, stored_open w room m) at q in
      omega arith
  did_count c x (answers m s) =
      let i : ℕ = place_of m.fence t in
      let k : ℕ = type_of m.body in
      let o : is_open (at t i) ≡ true = has_open m.fence (at t i) (place_has t m.fence s) in
      let q = rw (o, after_open k (at t i) o) at (open_set t i (record_after k (at t i)) (place_inside t m.fence s)) in
      cases (eqb k 3)
      (λ e. let p = rw e at q in rw e (omega arith))
      (λ e. let p = rw e at q in rw e (omega arith))

  -- a reply touches no fence but its own
  pub did_other :
      (m : Message) (x : Outcome) → Did w (reply_call (some m)) x → (f : ℕ) → (f ≡ m.fence → ⊥)
      → entry_in x.wall.table f ≡ entry_in t f
  unfolding refused reply_at
  did_other m x (refuses _ n e) f d = refl
  did_other m x (answers _ s) f d =
      stored-entry t _ _ m.fence (reply-stores w g m.fence (type_of m.body) s) f
      ∙ put_other (entry_in t) m.fence _ f d

  -- an opening stores its request at the lowest free place
  pub did_open :
      (room : ℕ) (m : List ℕ) (ring : ℕ) (x : Outcome) → Did w (open_call room m ring) x → x.answer.code ≡ 0
      → Opened t x.wall.table x.answer.fence (action_of (get_or m 1 0)) room
  unfolding refused
  did_open room m ring x (refuses _ n e) z = true_false (sym (eq-eqb n 0 z) ∙ e)
  did_open room m ring x (opens _ _ _ p) z =
      record {
        i = lowest_free t;
        inside = ltb-true (lowest_free t) (length t) p.is_free;
        free = lowest_free_lem t;
        lower_open = λ j l. lower_open t j (omega (arith, l));
        stored = refl;
      }

  -- a reply stores at the place of the record with its fence
  pub did_answer :
      (m : Message) (x : Outcome) → Did w (reply_call (some m)) x → x.answer.code ≡ 0
      → Answered t x.wall.table m.fence x.answer
  unfolding refused reply_at answer_of record_after count_after
  did_answer m x (refuses _ n e) z = true_false (sym (eq-eqb n 0 z) ∙ e)
  did_answer m x (answers _ s) z =
      record {
        i = place_of m.fence t;
        inside = place_inside t m.fence s;
        its_own = place_has t m.fence s;
        closed = λ n. rw (ne_eqb (type_of m.body) 3 n);
        busy = λ e. rw (eq-eqb (type_of m.body) 3 e);
      }
