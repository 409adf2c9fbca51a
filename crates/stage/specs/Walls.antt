-- A wall of six players, by value.
use Rattle.std.specs.Prelude.{◌+◌, true, false, [], ◌∷◌, replicate, ℤ, pos, negsuc}
use Rattle.requests.specs.Fence.{first_last}
use Rattle.requests.specs.Table.{free_record}
use Rattle.stage.specs.declared.walls.Aged.{Aged}
use Rattle.stage.specs.declared.walls.Wall.{Wall}

-- 'A fresh .. record is free and all zeros; the last fence starts at 65,535.' The reply buffer has 1,024 dwords.
unfoldable pub fresh_wall : Wall
fresh_wall = record { table = replicate 6 free_record; words = first_last ∷ 1024 ∷ [] }

-- an age without its sign, and whether that is below 0 (`negsuc n` is -(n + 1)): 0 is not older
unfoldable pub as_read : ℤ → Aged
as_read (pos n) = record { older = false; by = n }
as_read (negsuc n) = record { older = true; by = n + 1 }
