-- Messages laid end to end, as the queue lies in the buffer. Assumes nothing.
use Prim.Native.Nat.{ℕ}
use mathlib.Core.Path.{◌≡◌, sym, ap, ◌∙◌}
use mathlib.Core.List.{List, [], ◌∷◌, ◌++◌, append_assoc, append-nil}

unfoldable pub flat : List (List ℕ) → List ℕ
flat [] = []
flat (m ∷ q) = m ++ flat q

pub flat_snoc : (q : List (List ℕ)) (m : List ℕ) → flat (q ++ (m ∷ [])) ≡ flat q ++ m
unfolding flat
flat_snoc [] m = append-nil m
flat_snoc (x ∷ q) m = ap (λ (l : List ℕ). x ++ l) (flat_snoc q m) ∙ sym (append_assoc x (flat q) m)
