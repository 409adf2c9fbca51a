-- A message that is added to a run, or is not. Assumes nothing.
use Prim.Native.Nat.{ℕ, suc, ◌+◌, ◌-◌, ◌≤◌, ◌<◌}
use mathlib.Core.Path.{◌≡◌, sym, ap, ◌∙◌}
use mathlib.Core.List.{List, [], ◌∷◌, ◌++◌, append-nil}
use native.Mathlib.Omega.{arith}
use lib.ListN.{length, get_or, take, drop, length-drop, drop_of_length-le}
use lib.Seq.{take-length}
use borrow.Author.Tests.{eq-eqb, ne_eqb, lt-ltb, le-ltb}
use borrow.Rule.Slice.PartMut.{put_mid}
use Rattle.record.specs.Runs.{judged}
use Rattle.record.specs.Calls.{at_front, entry_of, add_number, add_answer, add_leaves}
use Rattle.record.specs.Calls.{Added}
use Rattle.message.proofs.Slices.{to_end}
use Rattle.record.proofs.Cuts.{whole_by}

-- a message of which the first dword is taken by itself
pub one_and_rest : (m : List ℕ) → 1 ≤ length m → get_or m 0 0 ∷ take (length m - 1) (drop 1 m) ≡ m
one_and_rest [] h = absurd (omega arith)
one_and_rest (x ∷ xs) h = let e : suc (length xs) - 1 ≡ length xs = omega arith in rw (e, take-length)

-- the part from a place to the end
pub put-end : (p : ℕ) (xs ys : List ℕ) → put_mid p (length xs - p) xs ys ≡ take p xs ++ ys
put-end p xs ys =
    let z : drop (length xs - p) (drop p xs) ≡ [] =
    drop_of_length-le (drop p xs) {i = length xs - p} (simp length-drop (omega arith)) in
    rw (z, append-nil)

module _ (run m : List ℕ) (place d f : ℕ) (e : f ≡ (judged (entry_of d m)).fault) where
  -- a bad one
  pub bad_added :
      (f ≡ 0 → ⊥)
      → (◌≡◌ {A = Added} (record { code = 29; fault = f; place = place }) (add_answer (length run) place d m))
      × (run ≡ add_leaves run place d m)
  unfolding add_answer add_leaves add_number
  bad_added h =
      let n = ne_eqb (judged (entry_of d m)).fault 0 (λ z. h (e ∙ z)) in
      (rw (n, e), rw n)

  module _ (h : f ≡ 0) where
    -- a good one has dwords, and few
    pub good_length : (1 ≤ length m) × (length m ≤ 256)
    good_length = let w = whole_by (length (entry_of d m)) d (length m) (get_or m 0 0) (sym e ∙ h) in (w.least, w.most)

    -- .. for which there is no room
    pub full_added :
        length run < place + (2 + length m)
        → (◌≡◌ {A = Added} (record { code = 30; fault = 0; place = place }) (add_answer (length run) place d m))
        × (run ≡ add_leaves run place d m)
    unfolding add_answer add_leaves add_number
    full_added l =
        let z = sym e ∙ h in
        let n = eq-eqb (judged (entry_of d m)).fault 0 z in
        let k = lt-ltb (length run) (place + (2 + length m)) l in
        (rw (n, k, z), rw (n, k))

    -- .. for which there is
    pub added :
        (header : ℕ) (last : List ℕ) → place + (2 + length m) ≤ length run → header ≡ get_or m 0 0
        → last
        ≡ at_front (d ∷ length m ∷ header ∷ take (length m - 1) (drop 1 m)) (take (length run - place) (drop place run))
        → (◌≡◌ {A = Added} (record { code = 0; fault = 0; place = place + (2 + length m) })
        (add_answer (length run) place d m))
        × (put_mid place (length run - place) run last ≡ add_leaves run place d m)
    unfolding add_answer add_leaves add_number
    added header last l g p =
        let z = sym e ∙ h in
        let n = eq-eqb (judged (entry_of d m)).fault 0 z in
        let k = le-ltb (length run) (place + (2 + length m)) l in
        let w : header ∷ take (length m - 1) (drop 1 m) ≡ m = rw g (one_and_rest m good_length.0) in
        let q : last ≡ at_front (entry_of d m) (drop place run) =
        p
        ∙ (ap (λ (x : List ℕ). at_front (d ∷ length m ∷ x) (take (length run - place) (drop place run))) w
        ∙ ap (at_front (entry_of d m)) (to_end place run)) in
        (rw (n, k, z), rw (n, k, put-end, q))
