-- `finding::read_numbers` meets its contract: after some turns the places of the copy so far are in front of the numbers
-- from here on. Assumes nothing.
use Prim.Native.Nat.{◌-◌, ◌≤◌}
use mathlib.Core.Path.{◌≡◌}
use lib.ListN.{length, take, drop}
use Rattle.record.specs.Private.{numbers_of, onto}
use Rattle.record.proofs.finding.read_numbers.Given as goal

abbrev pub invariant-loop-place : goal.invariant-loop-place
invariant-loop-place l =
    (length l.copy ≡ length l.initial.copy) × (l.at ≤ length l.bytes)
    × (numbers_of (length l.initial.copy) l.bytes
    ≡ onto (take l.place-index l.copy) l.at (numbers_of (length l.initial.copy - l.place-index) (drop l.at l.bytes)))
