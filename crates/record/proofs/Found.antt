-- Numbers of a file read one after another into a copy, beside the file's run. Assumes nothing.
use Prim.Native.Nat.{ℕ, suc, ◌+◌, ◌-◌, ◌≤◌, ◌<◌}
use mathlib.Core.Path.{◌≡◌, refl, sym, ap, ◌∙◌}
use mathlib.Core.List.{List, [], ◌∷◌, ◌++◌, append_assoc, append-nil}
use native.Mathlib.Nat.{add_assoc, sub-zero, zero-add}
use native.Mathlib.Numerals.{add-one}
use native.Mathlib.Omega.{arith}
use mathlib.Core.Bool.{true, false}
use lib.Dec.{eqb}
use lib.ListN.{length, set, take, drop, length-set, length-take, length-drop, drop_of_length-le}
use lib.Seq.{drop-drop, take_all, take-suc-set}
use borrow.Author.Tests.{eq-eqb, ne_eqb, eqb-true, eqb-false, lt-ltb, le-ltb}
use Rattle.record.specs.Numbers.{number_of}
use Rattle.record.specs.Private.{Numbers, numbers_of, onto, stop, torn, found, later}
use Rattle.record.specs.Private.{dwords_of, length_of, message_of, length_in, message_in, ReadTo, FoundTo}
use Rattle.record.specs.Private.{Found}
use Rattle.record.specs.Private.{Body}
use Rattle.record.specs.Faults.{bad_direction, bad_length, bad_header}
use Rattle.record.specs.Runs.{is_length}
use Rattle.message.proofs.Tests.{cases}
use Rattle.message.specs.Header.{total_length}
use Rattle.record.specs.Numbers.{Form}
use Rattle.record.proofs.Forms.{number_size}
use Rattle.message.proofs.Slices.{put_front}
use borrow.Rule.Slice.PartMut.{mid_of, put_mid}

-- numbers in front of numbers in front of others
onto-onto :
    (xs ys : List ℕ) (a b : ℕ) (n : Numbers) → onto xs a (onto ys b n) ≡ onto (xs ++ ys) (a + b) n
unfolding onto
onto-onto xs ys a b n = rw (append_assoc, add_assoc)

module _ (f copy : List ℕ) (k i at : ℕ) (h : i < k) where
  -- the next is a number: it is in front of the rest
  pub one-number_more :
      (number_of (drop at f)).fault ≡ 0 → i < length copy
      → onto (take i copy) at (numbers_of (k - i) (drop at f))
      ≡ onto (take (i + 1) (set copy i (number_of (drop at f)).value)) (at + (number_of (drop at f)).size)
      (numbers_of (k - (i + 1)) (drop (at + (number_of (drop at f)).size) f))
  unfolding numbers_of
  one-number_more e l =
      let n = number_of (drop at f) in
      let s : k - i ≡ suc (k - (i + 1)) = omega arith in
      let t : take (i + 1) (set copy i n.value) ≡ take i copy ++ (n.value ∷ []) =
      ap (λ j. take j (set copy i n.value)) (add-one i) ∙ take-suc-set copy i n.value l in
      rw (s, eq-eqb n.fault 0 e, t, drop-drop) (onto-onto (take i copy) (n.value ∷ []) at n.size _)

  -- it is none: there they end
  pub no_number_more :
      ((number_of (drop at f)).fault ≡ 0 → ⊥)
      → onto (take i copy) at (numbers_of (k - i) (drop at f)) ≡ onto (take i copy) at (stop (number_of (drop at f)).fault)
  unfolding numbers_of
  no_number_more e =
      let s : k - i ≡ suc (k - (i + 1)) = omega arith in
      rw (s, ne_eqb (number_of (drop at f)).fault 0 e)

-- before any
pub numbers-first : (f : List ℕ) (k : ℕ) → numbers_of k f ≡ onto [] 0 (numbers_of (k - 0) (drop 0 f))
unfolding onto
numbers-first f k =
    let n = numbers_of k f in
    rw (sub-zero, zero-add) refl

-- the next number ends within the bytes
pub next-within :
    (f : List ℕ) (at : ℕ) → at ≤ length f → (r : Form) → r ≡ number_of (drop at f) → r.fault ≡ 0
    → at + r.size ≤ length f
next-within f at h r e g =
    let s = number_size (drop at f) (sym (ap (λ n. n.fault) e) ∙ g) in
    rw e (omega (arith, s.2, length-drop at f))

module _ (copy copy₀ f : List ℕ) (i at : ℕ) (within : at ≤ length f) where
  -- what a fill that ends at a bad number answers
  pub numbers-end :
      (after : List ℕ) (k : ℕ) → (k ≡ 0 → ⊥) → numbers_of (length copy₀) f ≡ onto (take i copy) at (stop k)
      → ReadTo (record { fault = k; size = at }) after copy₀ f
  unfolding onto
  numbers-end after k bad e =
      record {
        fault = sym (ap (λ n. n.fault) e);
        size = sym (ap (λ n. n.size) e ∙ omega arith);
        within = within;
        dwords = λ z. absurd (bad z);
      }

  -- and one that has filled all
  pub numbers-all :
      length copy ≡ length copy₀ → length copy ≤ i → numbers_of (length copy₀) f ≡ onto (take i copy) at (numbers_of (length copy₀ - i) (drop at f))
      → ReadTo (record { fault = 0; size = at }) copy copy₀ f
  unfolding onto numbers_of
  numbers-all l h e =
      let none : length copy₀ - i ≡ 0 = omega arith in
      let all : numbers_of (length copy₀) f ≡ record { fault = 0; size = at + 0; dwords = take i copy ++ [] } = e ∙ rw none in
      record {
        fault = sym (ap (λ n. n.fault) all);
        size = sym (ap (λ n. n.size) all ∙ omega arith);
        within = within;
        dwords = λ z. sym (ap (λ n. n.dwords) all ∙ (append-nil (take i copy) ∙ take_all i copy h));
      }

-- a part of a copy filled from a part of some bytes, said of what the parts are
pub record FilledFrom (r : Body) (after : List ℕ) (k : ℕ) (f : List ℕ) : Type 0 where
  pub fault : r.fault ≡ (numbers_of k f).fault
  pub size : r.size ≡ (numbers_of k f).size
  pub within : r.size ≤ length f
  pub dwords : r.fault ≡ 0 → after ≡ (numbers_of k f).dwords

pub filled_from_lem :
    (r : Body) (after part bytes : List ℕ) (k : ℕ) (f : List ℕ) → length part ≡ k → bytes ≡ f
    → ReadTo r after part bytes → FilledFrom r after k f
filled_from_lem r after part bytes k f e e' h =
    record {
      fault = h.fault ∙ rw (e, e');
      size = h.size ∙ rw (e, e');
      within = rw (← e') h.within;
      dwords = λ z. h.dwords z ∙ rw (e, e');
    }

-- ---- the dwords of a message, test by test

module _ (l : ℕ) (f : List ℕ) where
  abbrev h : Form
  h = number_of f

  abbrev body : Numbers
  body = numbers_of (l - 1) (drop h.size f)

  pub dwords-none : (h.fault ≡ 0 → ⊥) → dwords_of l f ≡ torn h.fault 0
  unfolding dwords_of
  dwords-none n = rw (ne_eqb h.fault 0 n)

  module _ (g : h.fault ≡ 0) where
    pub dwords-header : (total_length h.value ≡ l → ⊥) → dwords_of l f ≡ torn bad_header 0
    unfolding dwords_of
    dwords-header n = rw (eq-eqb h.fault 0 g, ne_eqb (total_length h.value) l n)

    module _ (u : total_length h.value ≡ l) where
      pub dwords-short : (body.fault ≡ 0 → ⊥) → dwords_of l f ≡ torn body.fault (h.size + body.size)
      unfolding dwords_of
      dwords-short n = rw (eq-eqb h.fault 0 g, eq-eqb (total_length h.value) l u, ne_eqb body.fault 0 n)

      pub dwords-all : body.fault ≡ 0 → dwords_of l f ≡ found (2 + l) (h.size + body.size)
      unfolding dwords_of
      dwords-all e = rw (eq-eqb h.fault 0 g, eq-eqb (total_length h.value) l u, eq-eqb body.fault 0 e)

-- ---- what is answered of a message in a copy

module _ (r by : Found) (after before xs : List ℕ) (n k b : ℕ) where
  pub torn-to : r ≡ torn k b → by ≡ torn k b → (k ≡ 0 → ⊥) → b ≤ n → FoundTo r by after before xs n
  torn-to e e' z h =
      record {
        answer = e ∙ sym e';
        bad-within = rw e h;
        within = rw e (omega arith);
        fits = λ y. absurd (z (sym (ap (λ g. g.fault) e) ∙ y));
        dwords = λ y. absurd (z (sym (ap (λ g. g.fault) e) ∙ y));
      }

  pub found-to :
      r ≡ found k b → by ≡ found k b → b ≤ n → length xs ≤ length before → after ≡ xs ++ drop (length xs) before
      → FoundTo r by after before xs n
  found-to e e' h m d =
      record {
        answer = e ∙ sym e';
        bad-within = rw e (omega arith);
        within = rw e h;
        fits = λ y. m;
        dwords = λ y. d;
      }

set_front :
    (copy : List ℕ) (v n : ℕ) (xs : List ℕ) → 1 ≤ length copy
    → take 1 (set copy 0 v) ++ (xs ++ drop (1 + n) (set copy 0 v)) ≡ v ∷ (xs ++ drop (suc n) copy)
set_front [] v n xs h = absurd (omega arith)
set_front (c ∷ cs) v n xs h = let e : 1 + n ≡ suc n = omega arith in rw e refl

-- a dword that leads, and the others behind it
module _ (copy : List ℕ) (v k : ℕ) (there : 1 + k ≤ length copy) (xs : List ℕ) where
  pub led-front :
      length xs ≤ k
      → put_mid 1 k (set copy 0 v) (xs ++ drop (length xs) (mid_of 1 k (set copy 0 v)))
      ≡ (v ∷ xs) ++ drop (length (v ∷ xs)) copy
  led-front h = put_front 1 k (set copy 0 v) xs h (simp length-set there) ∙ set_front copy v (length xs) xs (omega arith)

  pub led-all : length xs ≡ k → put_mid 1 k (set copy 0 v) xs ≡ (v ∷ xs) ++ drop (length (v ∷ xs)) copy
  led-all h =
      let none : drop (length xs) (mid_of 1 k (set copy 0 v)) ≡ [] =
      drop_of_length-le (mid_of 1 k (set copy 0 v)) {i = length xs}
      (simp (length-take, length-drop, length-set) (omega arith)) in
      let whole : xs ≡ xs ++ drop (length xs) (mid_of 1 k (set copy 0 v)) = rw none (sym (append-nil xs)) in
      ap (put_mid 1 k (set copy 0 v)) whole ∙ led-front (omega arith)

-- an answer behind a number that leads, so many bytes later
module _ (r by : Found) (last copy xs : List ℕ) (n v k s m : ℕ) (there : 1 + k ≤ length copy) (h : s + m ≤ n) where
  module _ (i : FoundTo r by last (mid_of 1 k (set copy 0 v)) xs m) where
    later-good : (later s r).fault ≡ 0 → r.fault ≡ 0
    unfolding later
    later-good e =
        cases (eqb r.fault 0) (λ z. eqb-true r.fault 0 z) (λ z. absurd (eqb-false r.fault 0 z (rw z at e)))

    later-bad : (later s r).bad ≤ n
    unfolding later
    later-bad =
        cases (eqb r.fault 0) (λ z. rw z (omega arith)) (λ z. rw z (omega (arith, i.bad-within)))

    later-size : (later s r).size ≤ n
    unfolding later
    later-size = cases (eqb r.fault 0) (λ z. rw z (omega (arith, i.within))) (λ z. rw z (omega arith))

    fits-part : r.fault ≡ 0 → length xs ≤ k
    fits-part e =
        let m : length (mid_of 1 k (set copy 0 v)) ≤ k = simp length-take (omega arith) in
        omega (arith, i.fits e, m)

    pub behind-to :
        (result whole : Found) (ys : List ℕ) → result ≡ later s r → whole ≡ later s by → ys ≡ v ∷ xs
        → FoundTo result whole (put_mid 1 k (set copy 0 v) last) copy ys n
    behind-to result whole ys e e' d =
        record {
          answer = e ∙ (ap (later s) i.answer ∙ sym e');
          bad-within = rw e later-bad;
          within = rw e later-size;
          fits = λ z. rw d (omega (arith, fits-part (later-good (sym (ap (λ g. g.fault) e) ∙ z))));
          dwords =
              λ z.
              let g = later-good (sym (ap (λ m. m.fault) e) ∙ z) in
              ap (put_mid 1 k (set copy 0 v)) (i.dwords g) ∙ rw d (led-front copy v k there xs (fits-part g));
        }

-- ---- a message by its L, and by its direction

module _ (f : List ℕ) where
  abbrev first : Form
  first = number_of f

  pub length_none : (first.fault ≡ 0 → ⊥) → length_of f ≡ torn first.fault 0
  unfolding length_of
  length_none n = rw (ne_eqb first.fault 0 n)

  pub length-wrong : first.fault ≡ 0 → is_length first.value ≡ false → length_of f ≡ torn bad_length 0
  unfolding length_of
  length-wrong g n = rw (eq-eqb first.fault 0 g, n)

  pub length-then :
      first.fault ≡ 0 → is_length first.value ≡ true
      → length_of f ≡ later first.size (dwords_of first.value (drop first.size f))
  unfolding length_of
  length-then g y = rw (eq-eqb first.fault 0 g, y)

  pub direction_none : (first.fault ≡ 0 → ⊥) → message_of f ≡ torn first.fault 0
  unfolding message_of
  direction_none n = rw (ne_eqb first.fault 0 n)

  pub direction_wrong : first.fault ≡ 0 → 1 < first.value → message_of f ≡ torn bad_direction 0
  unfolding message_of
  direction_wrong g n = rw (eq-eqb first.fault 0 g, lt-ltb 1 first.value n)

  pub direction_then :
      first.fault ≡ 0 → first.value ≤ 1 → message_of f ≡ later first.size (length_of (drop first.size f))
  unfolding message_of
  direction_then g y = rw (eq-eqb first.fault 0 g, le-ltb 1 first.value y)

  pub message_in_fact : message_in f ≡ first.value ∷ length_in (drop first.size f)
  unfolding message_in
  message_in_fact = refl
