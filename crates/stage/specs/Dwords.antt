-- Dwords that programs fill, and show the front of. Ours: no paper speaks of scenes.
use Rattle.std.specs.Prelude.{◌≡◌, ℕ, zero, suc, ◌+◌, ◌%◌, ◌^◌, List, [], ◌∷◌}
use Rattle.std.specs.Borrow.{Bor}

-- k dwords, each with a value of its own: one more than the one before, modulo 2 ^ 32
unfoldable pub counting : ℕ → ℕ → List ℕ
counting first zero = []
counting first (suc k) = first ∷ counting ((first + 1) % 2 ^ 32) k

-- a slice that starts where what was lent starts, and holds these
pub record FrontOf {T : Type 0} (s : Bor (List T)) (held : List T) (r : Bor (List T)) : Type 0 where
  pub holds : r.now ≡ held
  pub same_block : r.ref_ptr.0 ≡ s.ref_ptr.0
  pub same_start : r.ref_ptr.1 ≡ s.ref_ptr.1
