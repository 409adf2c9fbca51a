-- Packing and unpacking agree in C's six numbers, since they do in `message` and the numbers say the body. Assumes
-- nothing.
use Prim.{Unit, tt}
use Prim.Native.Nat.{ℕ, ◌+◌, ◌≤◌, ◌<◌, ◌^◌}
use mathlib.Core.Path.{◌≡◌, refl, sym, ap, ◌∙◌, subst}
use mathlib.Core.Bool.{Bool, true, false, ◌&&◌, cond}
use mathlib.Core.List.{List, [], ◌∷◌}
use mathlib.Core.Option.{Option, none, some, Option-elim}
use native.Mathlib.Omega.{arith}
use lib.Dec.{eqb, leb}
use lib.ListN.{length, get_or}
use borrow.Author.Tests.{eqb-true, leb-true}
use Rattle.message.specs.Types.{type_of, carried, bodies_from, of_type}
use Rattle.message.specs.Header.{is_message}
use Rattle.message.specs.Packing.{origin_number, origin_of, pack, unpack, pack_answer, unpack_answer, refusing}
use Rattle.message.specs.declared.Origin.{Origin}
use Rattle.message.specs.declared.Origin.TheVariants.{Host, Guc}
use Rattle.message.specs.declared.Body.{Body}
use Rattle.message.specs.declared.Body.TheVariants.{Request, Event, FastRequest, Busy, Retry, Failure, Success}
use Rattle.message.specs.declared.Message.{Message}
use Rattle.message.proofs.Agreement.{origin-back, origin-there, agreement}
use Rattle.message.proofs.Tests.{and_l, and_r}
use Rattle.guc.specs.Messages.{number_for, body_for, spare, not_packed, no_such, packed_by, packing, nth, said_by, unpacked_by}
use Rattle.guc.specs.BothWays.{dwords, numbers, packed_again, BothWays}

-- ---- unpacked, then packed

-- the numbers of a body make it again, and none is left over
body_again :
    (b : Body)
    → (body_for (type_of b) (nth 0 (carried b)) (nth 1 (carried b)) ≡ some b) × (spare b (nth 1 (carried b)) ≡ true)
unfolding body_for bodies_from number_for of_type type_of carried nth spare
body_again (Request d a) = (refl, refl)
body_again (Event d a) = (refl, refl)
body_again (FastRequest d a) = (refl, refl)
body_again (Busy c) = (refl, refl)
body_again (Retry r) = (refl, refl)
body_again (Failure h e) = (refl, refl)
body_again (Success d) = (refl, refl)

origin_bit : (o : Origin) → leb (origin_number o) 1 ≡ true
unfolding origin_number
origin_bit Host = refl
origin_bit Guc = refl

said_again : (m : Message) → packed_again (said_by m) ≡ packed_by (pack_answer m)
unfolding said_by packing Option-elim
said_again m = let k = body_again m.body in rw (k.0, origin_bit m.origin, k.1, origin-back m.origin)

back : (d : List ℕ) → get_or d 0 0 < 2 ^ 32 → get_or d 1 0 < 2 ^ 32 → is_message d ≡ true
    → packed_again (unpacked_by (unpack_answer d)) ≡ dwords (get_or d 0 0) (get_or d 1 0)
unfolding unpacked_by packed_by refusing Option-elim
back d lh lw e =
    let k = agreement.accepts d e in
    let p = agreement.back d k.0 lh lw k.1 in
    let u : unpacked_by (unpack_answer d) ≡ said_by k.0 = rw k.1 in
    let q : packed_by (pack_answer k.0) ≡ dwords (get_or d 0 0) (get_or d 1 0) = rw p in
    ap packed_again u ∙ said_again k.0 ∙ q

-- ---- packed, then unpacked

-- the two numbers are what a body carries, where none is left over
Carries : ℕ → ℕ → Body → Type 0
Carries first second b = (nth 0 (carried b) ≡ first) × (spare b second ≡ true → nth 1 (carried b) ≡ second)

Each : ℕ → ℕ → List Body → Type 0
Each first second [] = Unit {0}
Each first second (b ∷ bs) = Carries first second b × Each first second bs

-- each body that they make, and the one of a type among them
each_carries : (first second : ℕ) → Each first second (bodies_from (number_for first second))
unfolding Each Carries bodies_from number_for carried nth spare
each_carries first second =
    let one : eqb second 0 ≡ true → 0 ≡ second = λ e. sym (eqb-true second 0 e) in
    ((refl, λ e. refl), ((refl, λ e. refl), ((refl, λ e. refl), ((refl, one), ((refl, one), ((refl, λ e. refl), ((refl, one), tt)))))))

picked :
    (t first second : ℕ) (bs : List Body) (b : Body) → Each first second bs → of_type t bs ≡ some b
    → (type_of b ≡ t) × Carries first second b
unfolding Each of_type
picked t first second [] b s e = let z : ◌≡◌ {A = ℕ} 0 1 = cc in absurd (omega arith)
picked t first second (x ∷ xs) b s e = go (eqb t (type_of x)) refl e (picked t first second xs b s.1)
  where
    go : (v : Bool) → eqb t (type_of x) ≡ v → cond v (some x) (of_type t xs) ≡ some b
        → (of_type t xs ≡ some b → (type_of b ≡ t) × Carries first second b) → (type_of b ≡ t) × Carries first second b
    go true q f ih =
        let same : x ≡ b = cc in
        subst (λ (y : Body). (type_of y ≡ t) × Carries first second y) same (sym (eqb-true t (type_of x) q), s.0)
    go false q f ih = ih f

module _ (origin fence num t first second header word : ℕ) where
  abbrev made : Body → Message
  made b = record { origin = origin_of origin; fence = fence; num_dwords = num; body = b }

  abbrev Told : Type 0
  Told =
      (1 ≤ num)
      × ((rest : List ℕ) → length rest + 1 ≡ num
      → unpacked_by (unpack_answer (header ∷ word ∷ rest)) ≡ numbers origin fence num t first second)

  -- what such a message says when it is unpacked
  told :
      (b : Body) → body_for t first second ≡ some b → leb origin 1 ≡ true → spare b second ≡ true
      → pack (made b) ≡ some (header, word)
      → Told
  unfolding Carries body_for unpacked_by refusing Option-elim said_by
  told b q o s p =
      let k = picked t first second (bodies_from (number_for first second)) b (each_carries first second) q in
      let l = agreement.dwords (made b) header word p in
      let says : said_by (made b) ≡ numbers origin fence num t first second =
      λ i. numbers (origin-there origin (omega (arith, leb-true origin 1 o)) i) fence num (k.0 i) (k.1.0 i) (k.1.1 s i) in (
        ((agreement.packs (made b) header word l.0 l.1).0 p).0,
        λ rest n.
            let u : unpack (header ∷ word ∷ rest) ≡ some (made b) = agreement.there (made b) header word rest p n in
            rw u says,
      )

  packed : (b : Body) (x : Option (ℕ × ℕ)) → body_for t first second ≡ some b → leb origin 1 ≡ true → spare b second ≡ true
      → pack (made b) ≡ x → packed_by (refusing 14 x) ≡ dwords header word → Told
  unfolding packed_by refusing Option-elim
  packed b none q o s p e = let z : ◌≡◌ {A = ℕ} 14 0 = ap (λ r. r.code) e in absurd (omega (arith, z))
  packed b (some x) q o s p e =
      let h : x.0 ≡ header = ap (λ r. r.header) e in
      let w : x.1 ≡ word = ap (λ r. r.word) e in
      told b q o s (p ∙ (λ i. some (h i, w i)))

  fitting : (b : Body) (v : Bool) → body_for t first second ≡ some b → (leb origin 1 && spare b second) ≡ v
      → cond v (packed_by (pack_answer (made b))) (not_packed 14) ≡ dwords header word → Told
  fitting b true q f e =
      packed b (pack (made b)) q (and_l (leb origin 1) (spare b second) f) (and_r (leb origin 1) (spare b second) f) refl e
  fitting b false q f e = let z : ◌≡◌ {A = ℕ} 14 0 = ap (λ r. r.code) e in absurd (omega (arith, z))

  there : packing origin fence num t first second ≡ dwords header word → Told
  unfolding packing Option-elim
  there e = go (body_for t first second) refl e
    where
      go : (x : Option Body) → body_for t first second ≡ x
          → Option-elim x (not_packed no_such)
          (λ b. cond (leb origin 1 && spare b second) (packed_by (pack_answer (made b))) (not_packed 14))
          ≡ dwords header word
          → Told
      go none q f = let z : ◌≡◌ {A = ℕ} 101 0 = ap (λ r. r.code) f in absurd (omega (arith, z))
      go (some b) q f = fitting b (leb origin 1 && spare b second) q refl f

pub both_ways : BothWays
both_ways = record { back = back; there = there }
