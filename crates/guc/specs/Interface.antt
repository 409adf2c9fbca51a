-- The version of the C interface.
use Rattle.std.specs.Prelude.{ℕ}

-- 1 was that of untyped words and counted descriptors; the types of sides and of the descriptor make 2; records with
-- what is set aside, and a wall that sends, make 3
abbrev pub interface : ℕ
interface = 3
