-- `cpd::entry_located` meets its contract. Assumes nothing.
use mathlib.Core.Path.{refl, sym, ◌∙◌}
use native.Mathlib.Omega.{arith}
use Rattle.firmware.proofs.Lies.{table-room}
use Rattle.firmware.proofs.Read.{entry-part}
use Rattle.firmware.proofs.cpd.entry_located.Goals as goal

pub overflow_mul-i : goal.overflow_mul-i
overflow_mul-i c = let l = table-room _ c.requires.0 in omega arith

pub overflow_add-t : goal.overflow_add-t
overflow_add-t c = let l = table-room _ c.requires.0 in omega arith

pub extent_at-x-requires : goal.extent_at-x-requires
extent_at-x-requires c = let l = table-room _ c.requires.0 in omega arith

pub returns : goal.returns
returns c =
    let located = entry-part _ c.requires.0 refl _ _ c.requires.1 in
    let x = c.extent_at-x.ensures in
    c.part_located.ensures ∙ sym (located _ _ x.0 x.1)
