-- `judge`: so far the first records' words, with what is set aside, hold those records. Assumes nothing.
use Rattle.std.proofs.Common.{◌-◌, ◌≡◌, ◌≤◌, length, take}
use Rattle.requests.specs.Words.{records_with}
use Rattle.wall.proofs.judge.Given as goal

abbrev pub invariant-loop-i : goal.invariant-loop-i
invariant-loop-i l =
    (l.i ≤ l.m) × (length l.words ≡ 256) × (length l.rooms ≡ 256)
    × (take l.i (records_with l.words l.rooms) ≡ take l.i l.t)

abbrev pub decreases-loop-i : goal.decreases-loop-i
decreases-loop-i l = l.m - l.i
