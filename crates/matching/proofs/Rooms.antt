-- A reply of at most the dwords set aside finds room. Assumes nothing.
use Prim.Native.Nat.{ℕ, zero, suc, ◌+◌, ◌-◌, ◌≤◌, ◌<◌}
use mathlib.Core.Path.{◌≡◌, refl, sym, ap, ◌∙◌}
use mathlib.Core.Bool.{Bool, true, false, cond}
use mathlib.Core.List.{List, [], ◌∷◌}
use native.Mathlib.Nat.{mod-lt}
use native.Mathlib.Omega.{arith}
use borrow.Author.Tests.{eqb-true, eqb-false, eq-eqb, ne_eqb, leb-false}
use lib.ListN.{length, get_or, take, drop, length-append, length-drop, take-append-drop}
use lib.Dec.{eqb, leb}
use Rattle.message.specs.Header.{total_length, starts_message}
use Rattle.message.proofs.Tests.{cases}
use Rattle.runs.specs.Buffer.{window}
use Rattle.runs.proofs.Ring.{window-length}
use Rattle.ring.specs.Ring.{allowed, used, free, head, tail, status}
use Rattle.ring.specs.Numbers.{need, look_needs, send_look_needs, send_decision, number_at}
use Rattle.ring.proofs.Chains.{true_false, passed_rest, Entered, entered, entered_rest}
use Rattle.channel.specs.State.{idle}
use Rattle.channel.specs.Send
use Rattle.requests.specs.declared.record.Record.{Record}
use Rattle.requests.specs.Table.{is_open, still_open, set_aside}
use Rattle.requests.specs.Calls.{Wall}
use Rattle.delivery.specs.Demand.{cut, unread}
use Rattle.matching.specs.Map.{room_of}
use Rattle.matching.specs.Lists.{Call, end}
use Rattle.matching.specs.Matching.{Good, entry_in, open_records, ByHistory, made_fresh}
use Rattle.matching.specs.Room.{fence_of, dwords_for, OnlyReplies, FindsRoom, RoomForReplies}
use Rattle.matching.proofs.Tables.{has_own, has_other, has_closed, fresh_open}
use Rattle.matching.proofs.Histories.{list_buffer}
use Rattle.matching.proofs.Theorem.{clear, clear_good, fresh_made, empty-table}
use Rattle.matching.proofs.Mixing.{whole_code}

-- ---- how many dwords messages have

total : List (List ℕ) → ℕ
total [] = 0
total (m ∷ ms) = length m + total ms

-- cutting loses none
cut_total : (most : ℕ) (dwords : List ℕ) → length dwords ≤ most → total (cut most dwords) ≡ length dwords
unfolding cut total
cut_total zero [] l = refl
cut_total zero (h ∷ t) l = absurd (omega arith)
cut_total (suc most) [] l = refl
cut_total (suc most) (h ∷ t) l =
    let xs : List ℕ = h ∷ t in
    let k : ℕ = total_length h in
    let d : length (drop k xs) ≡ length xs - k = length-drop k xs in
    let i = cut_total most (drop k xs) (omega arith) in
    let p : length (take k xs) + length (drop k xs) ≡ length xs =
    sym (length-append (take k xs) (drop k xs)) ∙ ap length (take-append-drop k xs) in
    omega arith

used_below : (n hd tl : ℕ) → 0 < n → used n hd tl < n
unfolding used
used_below n hd tl l = mod-lt (tl + n - hd) l

unread_total : (d b : List ℕ) → 0 < length b → total (unread d b) ≡ used (length b) (head d) (tail d)
unfolding unread
unread_total d b l =
    let n : ℕ = length b in
    let u : ℕ = used n (head d) (tail d) in
    let e = window-length b n (head d) u in
    let s = used_below n (head d) (tail d) l in
    cut_total n (window b n (head d) u) (omega arith) ∙ e

-- ---- those of one fence, and the others

others : ℕ → List (List ℕ) → List (List ℕ)
others f [] = []
others f (m ∷ ms) = cond (eqb (fence_of m) f) (others f ms) (m ∷ others f ms)

others_total : (f : ℕ) (ms : List (List ℕ)) → total (others f ms) + dwords_for f ms ≡ total ms
unfolding total others dwords_for
others_total f [] = refl
others_total f (m ∷ ms) =
    let i = others_total f ms in
    cases (eqb (fence_of m) f) (λ e. rw e (omega arith)) (λ e. rw e (omega arith))

others-own : (f : ℕ) (ms : List (List ℕ)) → dwords_for f (others f ms) ≡ 0
unfolding others dwords_for
others-own f [] = refl
others-own f (m ∷ ms) =
    let i = others-own f ms in
    cases (eqb (fence_of m) f) (λ e. rw e i) (λ e. rw (e, e) (omega arith))

others-other : (f g : ℕ) (ms : List (List ℕ)) → (g ≡ f → ⊥) → dwords_for g (others f ms) ≡ dwords_for g ms
unfolding others dwords_for
others-other f g [] n = refl
others-other f g (m ∷ ms) n =
    let i = others-other f g ms n in
    cases (eqb (fence_of m) f)
    (λ e. rw (e, ne_eqb (fence_of m) g (λ q. n (sym q ∙ eqb-true (fence_of m) f e))) (omega arith))
    (λ e. rw (e, i))

-- where no fence has a dword there is none
total_none : (ms : List (List ℕ)) → ((f : ℕ) → dwords_for f ms ≤ 0) → total ms ≡ 0
unfolding total dwords_for
total_none [] h = refl
total_none (m ∷ ms) h =
    let own = rw (eq-eqb (fence_of m) (fence_of m) refl) at (h (fence_of m)) in
    let i = total_none ms (λ f. omega (arith, h f)) in
    omega arith

-- where each fence keeps to its room, all keep to what is set aside
all-within :
    (t : List Record) (ms : List (List ℕ)) → ((f : ℕ) → dwords_for f ms ≤ room_of (entry_in t f)) → total ms ≤ set_aside t
unfolding set_aside entry_in
all-within [] ms h = omega (arith, total_none ms h)
all-within (r ∷ t) ms h =
    cases (is_open r)
    (λ o.
    let f : ℕ = r.fence in
    let own : dwords_for f ms ≤ r.room = rw (has_own r o) at (h f) in
    let i : total (others f ms) ≤ set_aside t =
    all-within t (others f ms)
    (λ g. cases (eqb g f)
    (λ e. let q : g ≡ f = eqb-true g f e in rw q (omega (arith, others-own f ms)))
    (λ e.
    let n : g ≡ f → ⊥ = eqb-false g f e in
    let l : dwords_for g ms ≤ room_of (entry_in t g) = rw (has_other g r (λ q. n (sym q))) at (h g) in
    omega (arith, others-other f g ms n))) in
    rw o (omega (arith, others_total f ms)))
    (λ o.
    let i : total ms ≤ set_aside t = all-within t ms (λ g. rw (has_closed g r o) at (h g)) in
    rw o (omega arith))

-- messages to open fences alone have no dword for another
none_else :
    (t : List Record) (f : ℕ) → still_open t f ≡ false → (ms : List (List ℕ))
    → ((i : ℕ) → i < length ms → still_open t (fence_of (get_or ms i [])) ≡ true)
    → dwords_for f ms ≡ 0
unfolding dwords_for
none_else t f c [] h = refl
none_else t f c (m ∷ ms) h =
    let i = none_else t f c ms (λ k l. h (suc k) (omega arith)) in
    let n : fence_of m ≡ f → ⊥ = λ q. true_false (sym (h 0 (omega arith)) ∙ ap (still_open t) q ∙ c) in
    rw (ne_eqb (fence_of m) f n) (omega arith)

-- ---- 10

-- a send's look that answers 10 found less free than it needs, in a ring of some dwords
record TooFull (m d : List ℕ) (n : ℕ) : Type 0 where
  some_dwords : 0 < n
  too_long : n - 1 - used n (head d) (tail d) < length m

module _ (fits : Bool) (own : ℕ) (m d : List ℕ) (n : ℕ) (e : number_at fits own m d n ≡ 10) where
  abbrev asked : ℕ
  asked = send_look_needs n own (length m) (status d) (head d) (tail d)

  abbrev starts : Bool
  starts = starts_message (length m) (get_or m 0 0) (get_or m 1 0)

  abbrev fits-free : ℕ
  fits-free = need (leb (length m) (free n (head d) (tail d))) 10 0

  e_4 : need starts 4 asked ≡ 10
  unfolding send_decision
  e_4 = entered_rest (length d) n fits (need starts 4 asked) 10 refl refl refl e

  e_10 : fits-free ≡ 10
  unfolding send_look_needs look_needs
  e_10 =
      passed_rest _ 8 fits-free 10 refl
      (passed_rest _ 7 _ 10 refl (passed_rest _ 6 _ 10 refl (passed_rest starts 4 asked 10 refl e_4)))

  too_full : TooFull m d n
  unfolding send_decision free
  too_full =
      let a : Entered (length d) n = entered (length d) n fits (need starts 4 asked) 10 refl refl refl e in
      record {
        some_dwords = omega (arith, a.low);
        too_long =
            leb-false (length m) (free n (head d) (tail d))
            (cases (leb (length m) (free n (head d) (tail d)))
            (λ t. let z : ◌≡◌ {A = ℕ} 0 10 = unfold need in (rw t at e_10) in absurd (omega arith))
            (λ t. t));
      }

-- ---- the statement

module _ (w : Wall) (d b m : List ℕ) (a : set_aside w.table ≤ w.n - 1) (o : OnlyReplies w d b m) where
  not_10 : (fits : Bool) (own : ℕ) → number_at fits own m d (length b) ≡ 10 → ⊥
  not_10 fits own e =
      let t : List Record = w.table in
      let ms : List (List ℕ) = m ∷ unread d b in
      let f : TooFull m d (length b) = too_full fits own m d (length b) e in
      let l : total ms ≤ set_aside t =
      all-within t ms
      (λ g. cases (still_open t g)
      (λ q. o.within g q)
      (λ q. omega (arith, none_else t g q ms o.to_open))) in
      let u = unread_total d b f.some_dwords in
      let k : length m + total (unread d b) ≤ set_aside t = unfold total in l in
      omega (arith, o.its_buffer, f.too_long, used_below (length b) (head d) (tail d) f.some_dwords)

  finds_room : FindsRoom d b m
  unfolding Send.look_by
  finds_room =
      record {
        whole = λ s e. not_10 (idle (length b) s) s.own (sym (whole_code s m d b) ∙ e);
        look = λ s e. not_10 (idle (length b) s) s.own e;
      }

after_calls_empty :
    (w : Wall) → Good w.table → open_records w.table ≡ 0 → (list : List Call)
    → (d b m : List ℕ) → OnlyReplies (end w list) d b m → FindsRoom d b m
after_calls_empty w g z list d b m o =
    let y : ByHistory w list = empty-table w g z list in
    let q : set_aside (end w list).table ≤ (end w list).n - 1 =
    omega (arith, y.sum, y.within, list_buffer list w g) in
    finds_room (end w list) d b m q o

after_calls :
    (w : Wall) (n : ℕ) → 1 ≤ length w.table → length w.table ≤ 256 → allowed n ≡ true → (list : List Call)
    → (d b m : List ℕ) → OnlyReplies (end (made_fresh w n) list) d b m → FindsRoom d b m
after_calls w n l h a list d b m o =
    let k : ℕ = length w.table in
    after_calls_empty (clear k n) (clear_good k n l h) (fresh_open k) list d b m (rw (fresh_made w n l h a) at o)

pub room_for_replies : RoomForReplies
room_for_replies = record { finds_room = finds_room; after_calls = after_calls; after_calls_empty = after_calls_empty }
