-- What a worked example is, of any kind, and what it is that the definitions give each of a list.
use Prim.{Unit}
use Rattle.std.specs.Prelude.{◌≡◌, List, [], ◌∷◌}

-- what the definitions give, and what the paper says
pub record Example : Type 1 where
  pub kind : Type 0
  pub given : kind
  pub said : kind

infix 5 ◌is◌
abbrev pub ◌is◌ : {A : Type 0} → A → A → Example
◌is◌ {A} given said = record { kind = A; given = given; said = said }

-- in each of them the two are the same
unfoldable pub Each : List Example → Type 0
Each [] = Unit {0}
Each (x ∷ xs) = (x.given ≡ x.said) × Each xs
