-- `receiving::second_dword` meets its contract: a message of one dword has no second. Assumes nothing.
use mathlib.Core.Path.{sym, ◌∙◌}
use native.Mathlib.Omega.{arith}
use lib.ListN.{length, get_or-eq_default}
use Rattle.runs.specs.Buffer.{window}
use Rattle.runs.proofs.Offsets.{past_is}
use Rattle.runs.proofs.Ring.{window-at, window-length}
use Rattle.ring.proofs.receiving.second_dword.Goals as goal

pub returns-then-len-lt2 : goal.returns-then-len-lt2
returns-then-len-lt2 c =
    let a = c.args in
    let b = a.buf.now in
    let n = length b in
    sym (get_or-eq_default (window b n a.own a.len) 0 (omega (arith, window-length b n a.own a.len)))

pub returns : goal.returns
returns c =
    let a = c.args in
    let n = length a.buf.now in
    let e = c.past.ensures.0 ∙ past_is n a.own 1 (omega arith) (omega arith) (omega arith) in
    c.dword_at.ensures ∙ rw e (sym (window-at a.buf.now n a.own a.len 1 (omega arith)))
