-- What the table sets aside is what the history holds, after every call on a wall that was made fresh. Assumes nothing.
use Prim.Native.Nat.{ℕ, zero, suc, ◌+◌, ◌-◌, ◌≤◌}
use mathlib.Core.Path.{◌≡◌, refl, sym, ap, ◌∙◌, subst}
use mathlib.Core.Bool.{true, cond}
use mathlib.Core.List.{List, [], ◌∷◌}
use mathlib.Core.Option.{Option, none, some}
use native.Mathlib.Omega.{arith}
use borrow.Author.Tests.{eqb-true, eqb-false, ne_eqb}
use lib.ListN.{length, get_or, set}
use lib.Dec.{eqb}
use Rattle.message.specs.Types.{type_of}
use Rattle.message.specs.Header.{action_of}
use Rattle.message.proofs.Tests.{cases}
use Rattle.requests.specs.declared.record.Record.{Record}
use Rattle.requests.specs.Table.{free_record, is_open, still_open, lowest_free, place_of, set_aside}
use Rattle.requests.specs.Calls.{Wall, Outcome, refused, picked_fence, reply_at, answer_of, record_after}
use Rattle.matching.specs.Map.{Entry, there, room_of, busier}
use Rattle.matching.specs.Lists.{Call, open_call, reply_call, outcome, run, end}
use Rattle.matching.specs.History.{Held, held_for, without, held_after, held_from, still_held, sum_of}
use Rattle.matching.specs.Matching.{Good, entry_in, open_records, ByHistory}
use Rattle.matching.proofs.Maps.{put_same, put_other}
use Rattle.matching.proofs.Tables.{entry_of, has_open, free-closed, closed_none, lowest_free_lem, place_has, place_entry}
use Rattle.matching.proofs.Sets.{Stores, open_set, aside-set, stored-entry}
use Rattle.matching.proofs.Openings.{record_for, opened, open_entry, fence-closed, open_stores, Passes}
use Rattle.matching.proofs.Replies.{answered, free-entry, busy-entry, reply-stores}
use Rattle.matching.proofs.Steps.{Did, refuses, opens, answers, did, did_good, did_buffer, stored_open}

-- ---- what is held for a fence, each request with a number of its own: its room, or 1

value_for : (Held → ℕ) → ℕ → List Held → ℕ
value_for v f [] = 0
value_for v f (h ∷ hs) = cond (eqb h.fence f) (v h) 0 + value_for v f hs

abbrev room_held : Held → ℕ
room_held h = h.room

abbrev one_held : Held → ℕ
one_held h = 1

without-sum : (f : ℕ) (hs : List Held) → sum_of (without f hs) + value_for room_held f hs ≡ sum_of hs
unfolding sum_of without value_for
without-sum f [] = refl
without-sum f (h ∷ hs) =
    let i = without-sum f hs in
    cases (eqb h.fence f) (λ e. rw e (omega arith)) (λ e. rw e (omega arith))

without-length : (f : ℕ) (hs : List Held) → length (without f hs) + value_for one_held f hs ≡ length hs
unfolding without value_for
without-length f [] = refl
without-length f (h ∷ hs) =
    let i = without-length f hs in
    cases (eqb h.fence f) (λ e. rw e (omega arith)) (λ e. rw e (omega arith))

module _ (v : Held → ℕ) where
  without-own : (f : ℕ) (hs : List Held) → value_for v f (without f hs) ≡ 0
  unfolding without value_for
  without-own f [] = refl
  without-own f (h ∷ hs) =
      let i = without-own f hs in
      cases (eqb h.fence f) (λ e. rw e i) (λ e. rw (e, e) (omega arith))

  without_other : (f g : ℕ) (hs : List Held) → (g ≡ f → ⊥) → value_for v g (without f hs) ≡ value_for v g hs
  unfolding without value_for
  without_other f g [] n = refl
  without_other f g (h ∷ hs) n =
      let i = without_other f g hs n in
      cases (eqb h.fence f)
      (λ e. rw (e, ne_eqb h.fence g (λ q. n (sym q ∙ eqb-true h.fence f e))) (omega arith))
      (λ e. rw (e, i))

-- each of at most 256
abbrev Narrow : List Held → Type 0
Narrow [] = Unit {0}
Narrow (h ∷ hs) = (h.room ≤ 256) × Narrow hs

without_narrow : (f : ℕ) (hs : List Held) → Narrow hs → Narrow (without f hs)
unfolding without
without_narrow f [] n = n
without_narrow f (h ∷ hs) n =
    cases (eqb h.fence f)
    (λ e. rw e (without_narrow f hs n.1))
    (λ e. rw e (n.0, without_narrow f hs n.1))

each_narrow : (hs : List Held) → Narrow hs → (i : ℕ) → (get_or hs i (held_for 0 0)).room ≤ 256
each_narrow [] n i = omega arith
each_narrow (h ∷ hs) n zero = n.0
each_narrow (h ∷ hs) n (suc i) = each_narrow hs n.1 i

-- ---- what the history holds is what the table does

-- the same two numbers of what a fence has in the table
abbrev one_of : Option Entry → ℕ
one_of e = cond (there e) 1 0

-- what is held for each fence is what the table has for it
abbrev ByFence : (Held → ℕ) → (Option Entry → ℕ) → List Record → List Held → Type 0
ByFence v u t hs = (f : ℕ) → value_for v f hs ≡ u (entry_in t f)

record Kept (w : Wall) (hs : List Held) : Type 0 where
  sum : set_aside w.table ≡ sum_of hs
  as_many : open_records w.table ≡ length hs
  rooms : ByFence room_held room_of w.table hs
  ones : ByFence one_held one_of w.table hs
  narrow : Narrow hs
  within : sum_of hs ≤ w.n - 1

-- a store, by fence
module _ (v : Held → ℕ) (u : Option Entry → ℕ) (t : List Record) (hs : List Held) (k : ByFence v u t hs)
    (i : ℕ) (r : Record) (f : ℕ) (s : Stores t i r f) where
  abbrev after : List Record
  after = set t i r

  store_own : u (entry_in after f) ≡ u (entry_in (r ∷ []) f)
  store_own = ap u (stored-entry t i r f s f ∙ put_same (entry_in t) f (entry_in (r ∷ []) f))

  store_other : (h : ℕ) → (h ≡ f → ⊥) → u (entry_in after h) ≡ u (entry_in t h)
  store_other h n = ap u (stored-entry t i r f s h ∙ put_other (entry_in t) f (entry_in (r ∷ []) f) h n)

  -- of a request that is new
  store_new :
      (n : Held) → n.fence ≡ f → value_for v f hs ≡ 0 → u (entry_in (r ∷ []) f) ≡ v n → ByFence v u after (n ∷ hs)
  unfolding value_for
  store_new n q z e h =
      cases (eqb n.fence h)
      (λ c.
      let y : f ≡ h = sym q ∙ eqb-true n.fence h c in
      let none : value_for v h hs ≡ 0 = subst (λ (x : ℕ). value_for v x hs ≡ 0) y z in
      let own : u (entry_in after h) ≡ u (entry_in (r ∷ []) f) =
      subst (λ (x : ℕ). u (entry_in after x) ≡ u (entry_in (r ∷ []) f)) y store_own in
      rw c (omega (arith, none, e, own)))
      (λ c.
      let d : h ≡ f → ⊥ = λ y. eqb-false n.fence h c (q ∙ sym y) in
      rw c (omega (arith, k h, store_other h d)))

  -- of one that stays
  store_same : u (entry_in (r ∷ []) f) ≡ u (entry_in t f) → ByFence v u after hs
  store_same e h =
      cases (eqb h f)
      (λ c. let y : h ≡ f = eqb-true h f c in rw y (k f ∙ sym (store_own ∙ e)))
      (λ c. k h ∙ sym (store_other h (eqb-false h f c)))

  -- of one that goes
  store_gone : u (entry_in (r ∷ []) f) ≡ 0 → ByFence v u after (without f hs)
  store_gone e h =
      cases (eqb h f)
      (λ c. let y : h ≡ f = eqb-true h f c in rw y (without-own v f hs ∙ sym (store_own ∙ e)))
      (λ c.
      let d : h ≡ f → ⊥ = eqb-false h f c in
      without_other v f h hs d ∙ k h ∙ sym (store_other h d))

module _ (w : Wall) (g : Good w.table) (hs : List Held) (k : Kept w hs) where
  abbrev t : List Record
  t = w.table

  kept_open : (room : ℕ) (m : List ℕ) → Passes w room m → Kept (opened w room m).wall (held_for (picked_fence w) room ∷ hs)
  unfolding sum_of
  kept_open room m p =
      let f : ℕ = picked_fence w in
      let i : ℕ = lowest_free t in
      let r : Record = record_for w room m in
      let n : Held = held_for f room in
      let s : Stores t i r f = open_stores w g room m p.is_free in
      let a = rw (lowest_free_lem t, stored_open w room m) at (aside-set t i r s.inside) in
      let c = rw (lowest_free_lem t, stored_open w room m) at (open_set t i r s.inside) in
      let none_yet : entry_in t f ≡ none = closed_none t f (fence-closed w g) in
      let own = open_entry f (action_of (get_or m 1 0)) room in
      record {
        sum = omega (arith, a, k.sum);
        as_many = omega (arith, c, k.as_many);
        rooms = store_new room_held room_of t hs k.rooms i r f s n refl (k.rooms f ∙ ap room_of none_yet) (ap room_of own);
        ones = store_new one_held one_of t hs k.ones i r f s n refl (k.ones f ∙ ap one_of none_yet) (ap one_of own);
        narrow = (p.narrow, k.narrow);
        within = omega (arith, p.fits, k.sum);
      }

  module _ (f : ℕ) (s : still_open t f ≡ true) where
    -- the place of the record that a reply answers, and the record
    abbrev i : ℕ
    i = place_of f t

    abbrev r : Record
    r = answered w g f

    opened_already : is_open r ≡ true
    opened_already = has_open f r (place_has t f s)

    its_entry : entry_in t f ≡ some (entry_of r)
    its_entry = place_entry t f s

    kept-busy : Kept (record { table = set t i (record_after 3 r); last = w.last; n = w.n }) hs
    kept-busy =
        let b : Record = record_after 3 r in
        let z : Stores t i b f = reply-stores w g f 3 s in
        let o : is_open b ≡ true = unfold is_open record_after in opened_already in
        let a = rw (opened_already, o) at (aside-set t i b z.inside) in
        let c = rw (opened_already, o) at (open_set t i b z.inside) in
        let same : b.room ≡ r.room = unfold record_after in refl in
        let own : entry_in (b ∷ []) f ≡ some (busier (entry_of r)) = busy-entry f r (place_has t f s) in
        let room : room_of (entry_in (b ∷ []) f) ≡ r.room = ap room_of own ∙ (unfold busier in refl) in
        record {
          sum = omega (arith, a, same, k.sum);
          as_many = omega (arith, c, k.as_many);
          rooms = store_same room_held room_of t hs k.rooms i b f z (room ∙ sym (ap room_of its_entry));
          ones = store_same one_held one_of t hs k.ones i b f z (ap one_of own ∙ sym (ap one_of its_entry));
          narrow = k.narrow;
          within = k.within;
        }

    kept-closed : Kept (record { table = set t i free_record; last = w.last; n = w.n }) (without f hs)
    kept-closed =
        let z : Stores t i free_record f = unfold record_after in reply-stores w g f 5 s in
        let a = rw (opened_already, free-closed) at (aside-set t i free_record z.inside) in
        let c = rw (opened_already, free-closed) at (open_set t i free_record z.inside) in
        let room : value_for room_held f hs ≡ r.room = k.rooms f ∙ ap room_of its_entry in
        let one : value_for one_held f hs ≡ 1 = k.ones f ∙ ap one_of its_entry in
        let own : entry_in (free_record ∷ []) f ≡ none = free-entry f in
        record {
          sum = omega (arith, a, k.sum, room, without-sum f hs);
          as_many = omega (arith, c, k.as_many, one, without-length f hs);
          rooms = store_gone room_held room_of t hs k.rooms i free_record f z (ap room_of own);
          ones = store_gone one_held one_of t hs k.ones i free_record f z (ap one_of own);
          narrow = without_narrow f hs k.narrow;
          within = omega (arith, k.within, without-sum f hs);
        }

  did_kept : (c : Call) (x : Outcome) → Did w c x → Kept x.wall (held_after hs c x.answer)
  unfolding refused reply_at answer_of
  did_kept c x (refuses (open_call room m ring) n e) = rw e k
  did_kept c x (refuses (reply_call none) n e) = k
  did_kept c x (refuses (reply_call (some m)) n e) = rw e k
  did_kept c x (opens room m ring p) = kept_open room m p
  did_kept c x (answers m s) =
      cases (eqb (type_of m.body) 3)
      (λ e. let q : type_of m.body ≡ 3 = eqb-true _ 3 e in rw (e, q) (kept-busy m.fence s))
      (λ e. rw e (unfold record_after in (rw e (kept-closed m.fence s))))

-- ---- over every list

pub after-good : (w : Wall) → Good w.table → (c : Call) → Good (outcome w c).wall.table
after-good w g c = did_good w g c _ (did w g c)

list_kept :
    (list : List Call) (w : Wall) → Good w.table → (hs : List Held) → Kept w hs
    → Kept (end w list) (held_from hs list (run w list))
unfolding end run held_from
list_kept [] w g hs k = k
list_kept (c ∷ cs) w g hs k =
    list_kept cs (outcome w c).wall (after-good w g c) (held_after hs c (outcome w c).answer) (did_kept w g hs k c _ (did w g c))

pub list_buffer : (list : List Call) (w : Wall) → Good w.table → (end w list).n ≡ w.n
unfolding end
list_buffer [] w g = refl
list_buffer (c ∷ cs) w g =
    list_buffer cs (outcome w c).wall (after-good w g c) ∙ did_buffer w g c _ (did w g c)

pub by_history :
    (w : Wall) (list : List Call) → Good w.table → set_aside w.table ≡ 0 → open_records w.table ≡ 0
    → ((f : ℕ) → entry_in w.table f ≡ none)
    → ByHistory w list
unfolding sum_of value_for
by_history w list g z o n =
    let k : Kept (end w list) (still_held list (run w list)) =
    list_kept list w g [] (record {
      sum = z;
      as_many = o;
      rooms = λ f. sym (ap room_of (n f));
      ones = λ f. sym (ap one_of (n f));
      narrow = tt;
      within = omega arith;
    }) in
    record {
      sum = k.sum;
      as_many = k.as_many;
      within = omega (arith, k.within, list_buffer list w g);
      each = each_narrow (still_held list (run w list)) k.narrow;
    }
