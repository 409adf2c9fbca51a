-- How an operation that takes its number first, and then acts by it, comes to leave what Demand1 asks of it. Assumes
-- nothing.
use Prim.Native.Nat.{ℕ}
use mathlib.Core.Path.{◌≡◌, refl, sym, ap, ◌∙◌, subst}
use mathlib.Core.Bool.{true, false}
use mathlib.Core.List.{List}
use lib.Dec.{eqb}
use borrow.Author.Tests.{eqb-true, ne_eqb}
use Rattle.channel.specs.State.{State}
use Rattle.channel.specs.Outcome.{Outcome}
use Rattle.channel.specs.Operations.{Op, gives}
use Rattle.message.proofs.Tests.{cases}
use Rattle.refusals.specs.Left.{OperationRefused, ReservedStay, offset_past, but_reserved, descriptor_left}
use Rattle.refusals.specs.Left.{output, reserved_words, state_left, unreserved_words}
use Rattle.refusals.proofs.Laws.{Alike, Mild, alike, mild_leaves, one_of}

-- what is to be shown of an operation that has this number
pub record Says (op : Op) (s : State) (b : List ℕ) (number : List ℕ → ℕ) : Type 0 where
  pub codes : (d : List ℕ) → (gives op s d b).code ≡ number d
  pub refused : (d : List ℕ) → ((gives op s d b).code ≡ 0 → ⊥) → OperationRefused op s d b (gives op s d b)
  pub stay : ReservedStay (λ (d : List ℕ). gives op s d b)

-- the outcome that a refusal is to be
abbrev pub refusal : ℕ → Op → State → List ℕ → List ℕ → Outcome
refusal c op s b d =
    record {
      code = c;
      len = 0;
      next = state_left c (offset_past op s b) s;
      desc = descriptor_left c (offset_past op s b) d;
      buf = b;
      out = output op;
    }

-- an accepted call, with what it makes of the descriptor
pub record Accepts (effect : List ℕ → Outcome) : Type 0 where
  pub len : ℕ
  pub next : State
  pub change : List ℕ → List ℕ
  pub buf : List ℕ
  pub out : List ℕ
  pub is_mild : Mild change
  pub same : (d : List ℕ) → effect d ≡ record { code = 0; len = len; next = next; desc = change d; buf = buf; out = out }

module _ (may : List ℕ) (op : Op) (s : State) (b : List ℕ) (number : List ℕ → ℕ) (effect : ℕ → List ℕ → Outcome) where
  module _
      (same : (d : List ℕ) → gives op s d b ≡ effect (number d) d)
      (one : (d : List ℕ) → one_of may (number d) ≡ true)
      (heeds : (d e : List ℕ) → Alike d e → number d ≡ number e)
      (accepts : Accepts (effect 0))
      (refuses : (c : ℕ) (d : List ℕ) → eqb c 0 ≡ false → one_of may c ≡ true → effect c d ≡ refusal c op s b d) where
    -- a call is accepted, or is the refusal
    accepted : (d : List ℕ) → number d ≡ 0 → gives op s d b ≡ effect 0 d
    accepted d e = same d ∙ ap (λ (c : ℕ). effect c d) e

    refused_by_fact : (d : List ℕ) → eqb (number d) 0 ≡ false → gives op s d b ≡ refusal (number d) op s b d
    refused_by_fact d z = same d ∙ refuses (number d) d z (one d)

    code_same : (d : List ℕ) → (gives op s d b).code ≡ number d
    code_same d =
        cases (eqb (number d) 0)
        (λ t.
        let e : number d ≡ 0 = eqb-true _ 0 t in
        ap (λ (x : Outcome). x.code) (accepted d e ∙ accepts.same d) ∙ sym e)
        (λ t. ap (λ (x : Outcome). x.code) (refused_by_fact d t))

    of_refusal : (d : List ℕ) (c : ℕ) → OperationRefused op s d b (refusal c op s b d)
    of_refusal d c = record { state = refl; descriptor = refl; buffer = refl; unlaid = refl; no_length = refl }

    refused_so : (d : List ℕ) → ((gives op s d b).code ≡ 0 → ⊥) → OperationRefused op s d b (gives op s d b)
    refused_so d z =
        let n : eqb (number d) 0 ≡ false = ne_eqb (number d) 0 (λ e. z (code_same d ∙ e)) in
        subst (OperationRefused op s d b) (sym (refused_by_fact d n)) (of_refusal d (number d))

    stays : (d : List ℕ) → reserved_words (gives op s d b).desc ≡ reserved_words d
    stays d =
        cases (eqb (number d) 0)
        (λ t. ap (λ (x : Outcome). reserved_words x.desc) (accepted d (eqb-true _ 0 t) ∙ accepts.same d)
        ∙ accepts.is_mild.rest d)
        (λ t. ap (λ (x : Outcome). reserved_words x.desc) (refused_by_fact d t) ∙ (mild_leaves (number d) (offset_past op s b)).rest d)

    -- an outcome's descriptor is read by its front
    but_by : (c k : ℕ) (n : State) (p q r w : List ℕ) → unreserved_words p ≡ unreserved_words q
        → but_reserved (record { code = c; len = k; next = n; desc = p; buf = r; out = w })
        ≡ but_reserved (record { code = c; len = k; next = n; desc = q; buf = r; out = w })
    but_by c k n p q r w e = ap (λ (x : List ℕ). record { code = c; len = k; next = n; desc = x; buf = r; out = w }) e

    alike_but : (d e : List ℕ) → Alike d e → but_reserved (gives op s d b) ≡ but_reserved (gives op s e b)
    alike_but d e a =
        cases (eqb (number e) 0)
        (λ t.
        let z : number e ≡ 0 = eqb-true _ 0 t in
        let y : number d ≡ 0 = heeds d e a ∙ z in
        ap but_reserved (accepted d y ∙ accepts.same d)
        ∙ but_by 0 accepts.len accepts.next (accepts.change d) (accepts.change e) accepts.buf accepts.out
        (accepts.is_mild.front d e a.front)
        ∙ sym (ap but_reserved (accepted e z ∙ accepts.same e)))
        (λ t.
        let y : eqb (number d) 0 ≡ false = ap (λ (x : ℕ). eqb x 0) (heeds d e a) ∙ t in
        let p : gives op s d b ≡ refusal (number e) op s b d = refused_by_fact d y ∙ ap (λ (x : ℕ). refusal x op s b d) (heeds d e a) in
        let c = number e in
        let past = offset_past op s b in
        ap but_reserved p
        ∙ but_by c 0 (state_left c past s) (descriptor_left c past d) (descriptor_left c past e) b (output op)
        ((mild_leaves c past).front d e a.front)
        ∙ sym (ap but_reserved (refused_by_fact e t)))

    pub says : Says op s b number
    says =
        record {
          codes = code_same;
          refused = refused_so;
          stay = record { unchanged = stays; unjudged = λ d e p q. alike_but d e (alike d e p q) };
        }
