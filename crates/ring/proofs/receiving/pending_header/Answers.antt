-- `receiving::pending_header` meets its contract: it reads the descriptor's three words, and the header where they say
-- that a message is pending. Assumes nothing.
use mathlib.Core.Path.{◌≡◌, sym}
use borrow.Author.Rules.{rules}
use lib.ListN.{length, get_or}
use Rattle.ring.specs.Private.{pending_number}
use Rattle.ring.specs.Ring.{head, status, tail, used}
use Rattle.ring.proofs.LookNeeds.{refused_by_descriptor, torn, whole}
use Rattle.ring.proofs.Taken.{refused-header}
use Rattle.ring.proofs.receiving.pending_header.Goals as goal
use Rattle.ring.proofs.receiving.pending_header.Goals.{In_ok-used}

-- past the descriptor's words: they ask for no number, and say what is in use
passed :
    (c : In_ok-used) →
    let a = c.args in
    let d = a.desc.now in
    pending_number (length a.buf.now) a.own (status d) (head d) (tail d) ≡ 0
passed c = simp (← c.dword_at.ensures, ← c.dword_at-2.ensures, ← c.dword_at-3.ensures, ← c.wide-status.ensures, ← c.wide-head.ensures, ← c.wide-tail.ensures) (sym c.in_ok-used.ensures.says)

in_use :
    (c : In_ok-used) →
    let a = c.args in
    let d = a.desc.now in
    c.in_ok-used.used ≡ used (length a.buf.now) (head d) (tail d)
in_use c = simp (← c.dword_at-2.ensures, ← c.dword_at-3.ensures, ← c.wide-head.ensures, ← c.wide-tail.ensures) c.in_ok-used.ensures.in_use

pub returns-in_err-used : goal.returns-in_err-used
returns-in_err-used c = search (rules, refused-header, refused_by_descriptor)

pub returns-then-used-len : goal.returns-then-used-len
returns-then-used-len c =
    let d = c.args.desc.now in
    let b = c.args.buf.now in
    let f = (goal.at.returns-then-used-len c).In_ok-used in
    rw (torn (length b) c.args.own (status d) (head d) (tail d) (get_or b c.args.own 0) (passed f)
    (rw (sym (in_use f), ← c.dword_at-header.ensures, ← c.total_length-len.ensures) c.if-used-len.true))

pub returns : goal.returns
returns c =
    let d = c.args.desc.now in
    let b = c.args.buf.now in
    let f = (goal.at.returns c).In_ok-used in
    let e =
    whole (length b) c.args.own (status d) (head d) (tail d) (get_or b c.args.own 0) (passed f)
    (rw (sym (in_use f), ← c.dword_at-header.ensures, ← c.total_length-len.ensures) c.if-used-len.false) in
    rw (e, c.total_length-len.ensures, c.dword_at-header.ensures)
