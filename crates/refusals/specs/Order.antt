-- How numbers that say no are answered: rows whose case is given or not, the lowest number that applies, and tests one
-- after another. It knows nothing of the table itself.
use Rattle.std.specs.Prelude.{ℕ, ◌<◌, ◌≡◌, ◌⊎◌, Bool, true, List, [], ◌∷◌}

-- a row: its number, and whether the call is what the paper gives it for
pub record Row : Type 0 where
  pub number : ℕ
  pub given : Bool

abbrev pub row : ℕ → Bool → Row
row n when = record { number = n; given = when }

-- a number applies: it has a row whose case is given
unfoldable pub Applies : List Row → ℕ → Type 0
Applies [] c = ⊥
Applies (r ∷ rs) c = ((r.number ≡ c) × (r.given ≡ true)) ⊎ Applies rs c

-- none does
abbrev pub NoneApplies : List Row → Type 0
NoneApplies rs = (k : ℕ) → Applies rs k → ⊥

-- 'The lowest number that applies is the answer'
pub record Lowest (rs : List Row) (c : ℕ) : Type 0 where
  pub applies : Applies rs c
  pub no_lower : (k : ℕ) → k < c → Applies rs k → ⊥

-- the answer to tests that are made one after another: of the first to which any number applies the lowest, and 0 where
-- none applies to any
unfoldable pub Answered : List (List Row) → ℕ → Type 0
Answered [] c = c ≡ 0
Answered (rs ∷ later) c = Lowest rs c ⊎ (NoneApplies rs × Answered later c)

-- no number applies to any of them
unfoldable pub AllPass : List (List Row) → Type 0
AllPass [] = Unit {0}
AllPass (rs ∷ later) = NoneApplies rs × AllPass later
