-- What the crate's own loops are held to beside Fence.antt and Table.antt.
use Rattle.std.specs.Prelude.{ℕ, ◌%◌, ◌≡◌, true, List, get_or}
use Rattle.requests.specs.declared.record.Record.{Record}
use Rattle.requests.specs.Table.{still_open}

-- flags by the low eight bits of a fence: where a fence is open, its flag is not 0
abbrev pub Marked : List Record → List ℕ → Type 0
Marked t flags = (f : ℕ) → still_open t f ≡ true → get_or flags (f % 256) 0 ≡ 0 → ⊥
