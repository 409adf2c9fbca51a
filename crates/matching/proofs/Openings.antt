-- An opening on a wall does what it does on the plain map of its table. Assumes nothing.
use Prim.Native.Nat.{ℕ, ◌+◌, ◌-◌, ◌≤◌, ◌<◌}
use mathlib.Core.Path.{◌≡◌, refl, sym, ap, fun_ext, ◌∙◌}
use mathlib.Core.Bool.{true, false, cond}
use mathlib.Core.List.{List, [], ◌∷◌}
use mathlib.Core.Option.{Option, some}
use native.Mathlib.Omega.{arith}
use borrow.Author.Tests.{eqb-true, ltb-true, leb-true}
use lib.ListN.{length, get_or, set, length-set}
use lib.Dec.{eqb, leb, ltb}
use Rattle.message.specs.Header.{is_request, action_of}
use Rattle.message.proofs.Tests.{cases}
use Rattle.ring.specs.Ring.{allowed}
use Rattle.ring.specs.Numbers.{need}
use Rattle.ring.proofs.Chains.{passed, passed_rest}
use Rattle.requests.specs.declared.record.Record.{Record}
use Rattle.requests.specs.declared.planning.Answer.{Answer}
use Rattle.requests.specs.Table.{is_open, still_open, usable, lowest_free, set_aside}
use Rattle.requests.specs.Calls.{Wall, Outcome, refused, wall_needs, open_number, picked_fence, open_by, open_record, opening}
use Rattle.matching.specs.Map.{Entry, Plain, PlainOutcome, is_open_in, how_many, aside_of, refused_by, with_entry, needs}
use Rattle.matching.specs.Map.{picked, is_request_message, plain_open, plain_open_at}
use Rattle.matching.specs.Matching.{at, Good, entry_in, open_records, plain_of}
use Rattle.matching.proofs.Tables.{has_own, has_other, has_closed, still_there, closed_at, lowest_free_lem, open_most, room}
use Rattle.matching.proofs.Sets.{Stores, each_set, stored-entry, stored-once}
use Rattle.matching.proofs.Once.{as_many_below, as_aside_below, once_told, usable_told}
use Rattle.matching.proofs.Fences.{next-picked, picked_below, picked-closed}

-- an outcome on a wall, in the map's words
abbrev pub gives : Answer → Plain → PlainOutcome
gives a p = record { answer = a; next = p }

abbrev pub as_plain : Outcome → PlainOutcome
as_plain x = gives x.answer (plain_of x.wall)

-- ---- a record stored in a good table

pub stored-good :
    (t : List Record) (i : ℕ) (r : Record) (f : ℕ) → Good t → Stores t i r f → r.fence < 65536 → Good (set t i r)
stored-good t i r f g s h =
    record {
      taken =
          record {
            some_records = rw length-set g.taken.some_records;
            not_too_many = rw length-set g.taken.not_too_many;
            no_fence-twice = stored-once t i r f s g.taken.no_fence-twice;
          };
      sixteen_bits = each_set (λ (x : Record). x.fence < 65536) t i r g.sixteen_bits h;
    }

-- the wall with a record stored at a place
abbrev pub stored_in : Wall → ℕ → Record → ℕ → Wall
stored_in w i r last = record { table = set w.table i r; last = last; n = w.n }

pub stored-map :
    (w : Wall) (i : ℕ) (r : Record) (f : ℕ) (e : Option Entry) (next : ℕ) → Stores w.table i r f
    → entry_in (r ∷ []) f ≡ e
    → with_entry (plain_of w) f e next ≡ plain_of (stored_in w i r next)
stored-map w i r f e next s q =
    rw (← q)
    (λ k. record {
      most = sym (length-set w.table i r) k;
      n = w.n;
      requests = fun_ext (λ g. sym (stored-entry w.table i r f s g)) k;
      last = next;
    })

-- ---- what an opening gives, by its number

-- the record that it stores, and what it gives where nothing refuses
abbrev pub record_for : Wall → ℕ → List ℕ → Record
record_for w aside m = open_record (picked_fence w) (action_of (get_or m 1 0)) aside

abbrev pub opened : Wall → ℕ → List ℕ → Outcome
opened w aside m =
    record {
      answer = record { code = 0; kind = 0; fence = picked_fence w; action = 0; count = 0 };
      wall = stored_in w (lowest_free w.table) (record_for w aside m) (picked_fence w);
    }

module _ (w : Wall) (aside : ℕ) (m : List ℕ) (ring : ℕ) where
  pub open_refused : eqb (open_number w aside m) 0 ≡ false → opening w aside m ring ≡ refused (open_number w aside m) w
  unfolding open_by
  open_refused e = rw (e, e)

  pub open_rings : eqb (open_number w aside m) 0 ≡ true → eqb ring 0 ≡ false → opening w aside m ring ≡ refused ring w
  unfolding open_by
  open_rings e r = rw (e, r)

  pub open_opens : eqb (open_number w aside m) 0 ≡ true → eqb ring 0 ≡ true → opening w aside m ring ≡ opened w aside m
  unfolding open_by
  open_opens e r = rw (e, r)

-- what the wall asks of an opening that it does not refuse
pub record Passes (w : Wall) (aside : ℕ) (m : List ℕ) : Type 0 where
  pub is_allowed : allowed w.n ≡ true
  pub narrow : aside ≤ 256
  pub is_request_fact : is_request m ≡ true
  pub is_free : ltb (lowest_free w.table) (length w.table) ≡ true
  pub fits : set_aside w.table + aside ≤ w.n - 1

module _ (w : Wall) (aside : ℕ) (m : List ℕ) (e : open_number w aside m ≡ 0) where
  -- the numbers of an opening from each test on
  abbrev from_28 : ℕ
  from_28 = need (leb (set_aside w.table + aside) (w.n - 1)) 28 0

  abbrev from_26 : ℕ
  from_26 = need (ltb (lowest_free w.table) (length w.table)) 26 from_28

  abbrev from_27 : ℕ
  from_27 = need (is_request m) 27 from_26

  abbrev from_14 : ℕ
  from_14 = need (leb aside 256) 14 from_27

  e_2 : need (allowed w.n) 2 from_14 ≡ 0
  unfolding open_number wall_needs
  e_2 = passed_rest (usable w.table) 35 (need (allowed w.n) 2 from_14) 0 refl e

  e_14 : from_14 ≡ 0
  e_14 = passed_rest (allowed w.n) 2 from_14 0 refl e_2

  e_27 : from_27 ≡ 0
  e_27 = passed_rest (leb aside 256) 14 from_27 0 refl e_14

  e_26 : from_26 ≡ 0
  e_26 = passed_rest (is_request m) 27 from_26 0 refl e_27

  e_28 : from_28 ≡ 0
  e_28 = passed_rest (ltb (lowest_free w.table) (length w.table)) 26 from_28 0 refl e_26

  pub passes : Passes w aside m
  passes =
      record {
        is_allowed = passed (allowed w.n) 2 from_14 0 refl e_2;
        narrow = leb-true aside 256 (passed (leb aside 256) 14 from_27 0 refl e_14);
        is_request_fact = passed (is_request m) 27 from_26 0 refl e_27;
        is_free = passed (ltb (lowest_free w.table) (length w.table)) 26 from_28 0 refl e_26;
        fits = leb-true _ _ (passed (leb (set_aside w.table + aside) (w.n - 1)) 28 0 0 refl e_28);
      }

-- ---- on the map

pub open_is_open : (f a k : ℕ) → is_open (open_record f a k) ≡ true
unfolding is_open
open_is_open f a k = refl

pub open_entry : (f a k : ℕ) → entry_in (open_record f a k ∷ []) f ≡ some (record { action = a; count = 0; room = k })
unfolding entry_in
open_entry f a k = rw (has_own (open_record f a k) (open_is_open f a k))

same_request : (m : List ℕ) → is_request_message m ≡ is_request m
unfolding is_request_message is_request
same_request m = refl

module _ (w : Wall) (g : Good w.table) where
  abbrev t : List Record
  t = w.table

  pub is_usable : usable t ≡ true
  is_usable = (usable_told t).1 g.taken

  pub as_many_open : open_records t ≡ how_many (entry_in t)
  unfolding how_many
  as_many_open = as_many_below 65536 t (once_told t g.taken.no_fence-twice) g.sixteen_bits

  pub as_aside : set_aside t ≡ aside_of (entry_in t)
  unfolding aside_of
  as_aside = as_aside_below 65536 t (once_told t g.taken.no_fence-twice) g.sixteen_bits

  few_open : how_many (entry_in t) < 65536
  few_open = omega (arith, as_many_open, open_most t, g.taken.not_too_many)

  -- the map is full exactly when no record is free
  has_free : ltb (how_many (entry_in t)) (length t) ≡ ltb (lowest_free t) (length t)
  has_free = ap (λ (n : ℕ). ltb n (length t)) (sym as_many_open) ∙ sym (room t)

  abbrev fence : ℕ
  fence = picked_fence w

  pub fence-picked : fence ≡ picked (entry_in t) w.last
  unfolding picked_fence
  fence-picked = next-picked (still_open t) (entry_in t) (still_there t) w.last

  pub fence_below : fence < 65536
  fence_below = rw fence-picked (picked_below (entry_in t) w.last)

  pub fence-closed : still_open t fence ≡ false
  fence-closed =
      still_there t fence ∙ ap (is_open_in (entry_in t)) fence-picked ∙ picked-closed (entry_in t) w.last few_open

  module _ (aside : ℕ) (m : List ℕ) where
    pub open_stores : ltb (lowest_free t) (length t) ≡ true → Stores t (lowest_free t) (record_for w aside m) fence
    open_stores e =
        record {
          inside = ltb-true (lowest_free t) (length t) e;
          was = λ h n. has_closed h (at t (lowest_free t)) (lowest_free_lem t);
          now = λ h n. has_other h (record_for w aside m) (λ q. n (sym q));
          elsewhere = λ k n. closed_at t fence k fence-closed;
        }

    module _ (ring : ℕ) where
      -- where the wall does not refuse, the map asks the ring
      abbrev asks_ring : PlainOutcome
      asks_ring = needs (eqb ring 0) ring (plain_of w) (plain_open_at (picked (entry_in t) w.last) (plain_of w) aside m)

      open_number_fact :
          plain_open (plain_of w) aside m ring
          ≡ cond (eqb (open_number w aside m) 0) asks_ring (refused_by (open_number w aside m) (plain_of w))
      unfolding plain_open open_number wall_needs need
      open_number_fact =
          cases (allowed w.n)
          (λ a. cases (leb aside 256)
          (λ b. cases (is_request m)
          (λ c. cases (ltb (lowest_free t) (length t))
          (λ d. cases (leb (set_aside t + aside) (w.n - 1))
          (λ e. rw (is_usable, a, b, same_request m, c, has_free, d, ← as_aside, e))
          (λ e. rw (is_usable, a, b, same_request m, c, has_free, d, ← as_aside, e)))
          (λ d. rw (is_usable, a, b, same_request m, c, has_free, d)))
          (λ c. rw (is_usable, a, b, same_request m, c)))
          (λ b. rw (is_usable, a, b)))
          (λ a. rw (is_usable, a))

      pub open_same : plain_open (plain_of w) aside m ring ≡ as_plain (opening w aside m ring)
      unfolding plain_open_at refused
      open_same =
          cases (eqb (open_number w aside m) 0)
          (λ e. cases (eqb ring 0)
          (λ r.
          let p : Passes w aside m = passes w aside m (eqb-true _ 0 e) in
          let s = stored-map w (lowest_free t) (record_for w aside m) fence _ fence (open_stores p.is_free)
          (open_entry fence (action_of (get_or m 1 0)) aside) in
          rw (open_opens w aside m ring e r, open_number_fact, e, r, ← fence-picked) (ap (gives (opened w aside m).answer) s))
          (λ r. rw (open_rings w aside m ring e r, open_number_fact, e, r)))
          (λ e. rw (open_refused w aside m ring e, open_number_fact, e))
