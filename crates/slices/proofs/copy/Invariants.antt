-- After i turns the first i elements are those of `src`, and the others as they were.
use Rattle.std.proofs.Common.{◌≡◌, length, take, drop}
use Rattle.slices.proofs.copy.Given as goal

abbrev pub invariant-loop-i : goal.invariant-loop-i
invariant-loop-i g l = record {
  same_length : length l.dst ≡ length l.initial.dst;
  copied : take l.i l.dst ≡ take l.i l.src;
  others : drop l.i l.dst ≡ drop l.i l.initial.dst;
}
