-- Elements copied to the front of others.
use Rattle.std.specs.Prelude.{cond, List, ◌++◌, length, drop, leb}

-- ours: xs at the front of `out`, the rest unchanged; where there is no room for them, nothing is copied
abbrev pub copied : {A : Type 0} → List A → List A → List A
copied xs out = cond (leb (length xs) (length out)) (xs ++ drop (length xs) out) out
