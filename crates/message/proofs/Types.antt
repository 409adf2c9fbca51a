-- Laws about the types of HXG messages. Assumes nothing.
use Prim.Native.Nat.{ℕ, ◌+◌, ◌≤◌}
use mathlib.Core.Path.{◌≡◌, refl, sym, subst}
use mathlib.Core.Bool.{Bool, true, false, ◌&&◌, cond}
use mathlib.Core.List.{List, [], ◌∷◌}
use mathlib.Core.Option.{Option, none, some}
use native.Mathlib.Omega.{arith}
use lib.Dec.{eqb}
use borrow.Author.Tests.{eq-eqb, eqb-true, eqb-false}
use Rattle.message.specs.Fields.{Field, type, field_of, FieldValue, holds}
use Rattle.std.specs.Prelude.{Result, Ok, Err, is_ok}
use Rattle.message.specs.Types.{IsTypeOf, type_of, carried, body_fields, bodies_from, bodies, of_type, body_of, some_body, known}
use Rattle.message.specs.declared.Body.{Body}
use Rattle.message.specs.declared.Body.TheVariants.{Request, Event, FastRequest, Busy, Retry, Failure, Success}
use Rattle.message.specs.declared.header.Type as kind
use Rattle.message.specs.declared.header.Type.TheVariants as kinds
use Rattle.message.specs.declared.header.UnknownType.{UnknownType}
use Rattle.message.proofs.Tests.{and_l, and_r, and_i, cases}
use Rattle.message.proofs.Tiling.{holds-first, holds-rest}

-- by the type of a dword, which is one of eight
next : {P : Type 0} (t k : ℕ) → k ≤ t → (t ≡ k → P) → (k + 1 ≤ t → P) → P
next t k l p q = cases (eqb t k) (λ e. p (eqb-true t k e)) (λ e. q (omega (arith, eqb-false t k e)))

pub by_type :
    {P : Type 0} (word : ℕ)
    → let t = field_of type word in
    (t ≡ 0 → P) → (t ≡ 1 → P) → (t ≡ 2 → P) → (t ≡ 3 → P)
    → (t ≡ 4 → P) → (t ≡ 5 → P) → (t ≡ 6 → P) → (t ≡ 7 → P)
    → P
by_type word p0 p1 p2 p3 p4 p5 p6 p7 =
    let t = field_of type word in
    next t 0 (omega arith) p0
    (λ l. next t 1 l p1
    (λ l. next t 2 l p2
    (λ l. next t 3 l p3 (λ l. next t 4 l p4 (λ l. next t 5 l p5 (λ l. next t 6 l p6 (λ l. p7 (omega (arith, l)))))))))

-- type 4 is unknown, and each other is known
pub type_4_unknown : (word : ℕ) → known word ≡ true → field_of type word ≡ 4 → ⊥
unfolding known body_of bodies_from bodies of_type type_of some_body
type_4_unknown word k e = let z : false ≡ true = simp e at k in let y : ◌≡◌ {A = ℕ} 0 1 = cc in omega arith

pub others-known : (word : ℕ) → (field_of type word ≡ 4 → ⊥) → known word ≡ true
unfolding known body_of bodies_from bodies of_type type_of some_body
others-known word n =
    by_type word
    (λ e. simp e) (λ e. simp e) (λ e. simp e) (λ e. simp e)
    (λ e. absurd (n e)) (λ e. simp e) (λ e. simp e) (λ e. simp e)

-- the type that is left where the others are ruled out
pub else_success :
    (word : ℕ) → known word ≡ true
    → let t = field_of type word in
    (t ≡ 0 → ⊥) → (t ≡ 1 → ⊥) → (t ≡ 2 → ⊥) → (t ≡ 3 → ⊥) → (t ≡ 5 → ⊥) → (t ≡ 6 → ⊥)
    → t ≡ 7
else_success word k n0 n1 n2 n3 n5 n6 =
    by_type word
    (λ e. absurd (n0 e)) (λ e. absurd (n1 e)) (λ e. absurd (n2 e)) (λ e. absurd (n3 e))
    (λ e. absurd (type_4_unknown word k e)) (λ e. absurd (n5 e)) (λ e. absurd (n6 e)) (λ e. e)

-- what is found for the number of a dword's type: known, or unknown
pub known-found : (word : ℕ) (r : Result kind.Type UnknownType) → IsTypeOf (field_of type word) r → known word ≡ is_ok r
unfolding known body_of bodies_from bodies of_type type_of some_body
known-found word (Ok kinds.Request) e = simp (sym e)
known-found word (Ok kinds.Event) e = simp (sym e)
known-found word (Ok kinds.FastRequest) e = simp (sym e)
known-found word (Ok kinds.Busy) e = simp (sym e)
known-found word (Ok kinds.Retry) e = simp (sym e)
known-found word (Ok kinds.Failure) e = simp (sym e)
known-found word (Ok kinds.Success) e = simp (sym e)
known-found word (Err x) e =
    by_type word
    (λ q. absurd (e.1 kinds.Request (sym q))) (λ q. absurd (e.1 kinds.Event (sym q))) (λ q. absurd (e.1 kinds.FastRequest (sym q)))
    (λ q. absurd (e.1 kinds.Busy (sym q))) (λ q. simp q) (λ q. absurd (e.1 kinds.Retry (sym q)))
    (λ q. absurd (e.1 kinds.Failure (sym q))) (λ q. absurd (e.1 kinds.Success (sym q)))

-- a dword of a known type holds a body, and no other does
pub body_known : (word : ℕ) (b : Body) → body_of word ≡ some b → known word ≡ true
unfolding known some_body
body_known word b e = rw e

pub known_body : (word : ℕ) → known word ≡ true → (b : Body) × (body_of word ≡ some b)
unfolding known some_body
known_body word k = go (body_of word) refl k
  where
    go : (o : Option Body) → body_of word ≡ o → some_body o ≡ true → (b : Body) × (body_of word ≡ some b)
    go none e f = let z : ◌≡◌ {A = ℕ} 0 1 = cc in absurd (omega arith)
    go (some b) e f = (b, e)

-- the body that is picked has the type asked for, and its fields are where the dword has them
eqb_self : (n : ℕ) → eqb n n ≡ true
eqb_self n = eq-eqb n n refl

reads : ℕ → List Body → Bool
reads word [] = true
reads word (b ∷ bs) = holds (carried b) word && reads word bs

bodies_read : (word : ℕ) → reads word (bodies word) ≡ true
unfolding reads bodies_from bodies carried holds
bodies_read word = simp eqb_self

picked-holds :
    (word : ℕ) (bs : List Body) (b : Body) → reads word bs ≡ true → of_type (field_of type word) bs ≡ some b
    → holds (body_fields b) word ≡ true
unfolding reads of_type body_fields holds
picked-holds word [] b r e = let z : ◌≡◌ {A = ℕ} 0 1 = cc in absurd (omega arith)
picked-holds word (x ∷ xs) b r e =
    go (eqb (field_of type word) (type_of x)) refl e
    (picked-holds word xs b (and_r (holds (carried x) word) (reads word xs) r))
  where
    go : (t : Bool) → eqb (field_of type word) (type_of x) ≡ t → cond t (some x) (of_type (field_of type word) xs) ≡ some b
        → (of_type (field_of type word) xs ≡ some b → holds (body_fields b) word ≡ true) → holds (body_fields b) word ≡ true
    go true q f ih =
        let same : x ≡ b = cc in
        subst (λ (y : Body). (eqb (field_of type word) (type_of y) && holds (carried y) word) ≡ true) same
        (and_i (eqb (field_of type word) (type_of x)) (holds (carried x) word) q (and_l (holds (carried x) word) (reads word xs) r))
    go false q f ih = ih f

pub body_holds : (word : ℕ) (b : Body) → body_of word ≡ some b → holds (body_fields b) word ≡ true
unfolding body_of
body_holds word b e = picked-holds word (bodies word) b (bodies_read word) e

-- and the other way round: a dword that holds a body's type and fields holds that body
module _ (word t : ℕ) (f : Field) (x : ℕ) (es : List FieldValue) (h : holds ((type, t) ∷ (f, x) ∷ es) word ≡ true) where
  is_type : field_of type word ≡ t
  is_type = holds-first (type, t) ((f, x) ∷ es) word h

  is_first : field_of f word ≡ x
  is_first = holds-first (f, x) es word (holds-rest (type, t) ((f, x) ∷ es) word h)

  is_more : holds es word ≡ true
  is_more = holds-rest (f, x) es word (holds-rest (type, t) ((f, x) ∷ es) word h)

pub holds_body : (word : ℕ) (b : Body) → holds (body_fields b) word ≡ true → body_of word ≡ some b
unfolding body_fields type_of carried body_of bodies_from bodies of_type
holds_body word (Request d a) h = simp (is_type _ _ _ _ _ h, is_first _ _ _ _ _ h, holds-first _ _ word (is_more _ _ _ _ _ h))
holds_body word (Event d a) h = simp (is_type _ _ _ _ _ h, is_first _ _ _ _ _ h, holds-first _ _ word (is_more _ _ _ _ _ h))
holds_body word (FastRequest d a) h = simp (is_type _ _ _ _ _ h, is_first _ _ _ _ _ h, holds-first _ _ word (is_more _ _ _ _ _ h))
holds_body word (Busy c) h = simp (is_type _ _ _ _ _ h, is_first _ _ _ _ _ h)
holds_body word (Retry r) h = simp (is_type _ _ _ _ _ h, is_first _ _ _ _ _ h)
holds_body word (Failure f e) h = simp (is_type _ _ _ _ _ h, is_first _ _ _ _ _ h, holds-first _ _ word (is_more _ _ _ _ _ h))
holds_body word (Success d) h = simp (is_type _ _ _ _ _ h, is_first _ _ _ _ _ h)
