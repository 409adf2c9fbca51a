-- `receiving::receive_look` meets its contract: a refusal marks STATUS, and past it the header is taken. Assumes nothing.
use mathlib.Core.Path.{◌≡◌, refl, sym, ap, ◌∙◌}
use lib.ListN.{get_or}
use native.Mathlib.Omega.{arith}
use borrow.Author.Rules.{rules}
use Rattle.message.specs.Header.{total_length}
use Rattle.refusal.proofs.NotZero.{number-not-0}
use Rattle.ring.specs.Numbers.{receive_decision}
use Rattle.ring.specs.AtOnce.{Judged}
use Rattle.ring.proofs.Chains.{entered_fits}
use Rattle.ring.proofs.Taken.{total_high}
use Rattle.channel.specs.Receive
use Rattle.channel.specs.declared.state.Counts.{Counts}
use Rattle.side.specs.Words.{state_of}
use Rattle.side.proofs.InWords.{header-set, idle_words, looked_receive, marked-none}
use Rattle.side.proofs.receiving.receive_look.Goals as goal
use Rattle.side.proofs.receiving.receive_look.Goals.{In-Ok}

-- an accepted look: its number, and that the header and L are the message's
zero : (c : In-Ok) → let a = c.args in Receive.look_number (state_of a.w.now) a.desc.now a.buf.now ≡ 0
zero c =
    let own = ap (λ (x : Counts). x.own) c.counts_of-s.ensures in
    sym (ap (λ (x : Judged). x.code) (rw (c.is_idle-fits.ensures, own) at c.in-Ok.ensures))

header_is : (c : In-Ok) → c.in-Ok.judged.header ≡ get_or c.args.buf.now (state_of c.args.w.now).own 0
header_is c =
    let own = ap (λ (x : Counts). x.own) c.counts_of-s.ensures in
    rw (zero c) at (ap (λ (x : Judged). x.header) (rw (c.is_idle-fits.ensures, own) at c.in-Ok.ensures))

len_is : (c : In-Ok) → c.in-Ok.judged.len ≡ total_length c.in-Ok.judged.header
len_is c =
    let own = ap (λ (x : Counts). x.own) c.counts_of-s.ensures in
    rw (zero c) at (ap (λ (x : Judged). x.len) (rw (c.is_idle-fits.ensures, own) at c.in-Ok.ensures)) ∙ ap total_length (sym (header_is c))

pub returns-in-Err : goal.returns-in-Err
unfolding Receive.look_by
returns-in-Err c =
    let own = ap (λ (x : Counts). x.own) c.counts_of-s.ensures in
    let e = ap (λ (x : Judged). x.code) (rw (c.is_idle-fits.ensures, own) at c.in-Err.ensures) in
    rw (c.mark.ensures, c.number.ensures, ← e, number-not-0 c.in-Err.reason)

pub overflow_cast-w : goal.overflow_cast-w
overflow_cast-w c =
    let ok = (goal.at.overflow_cast-w c).In-Ok in
    omega (arith, len_is ok, total_high ok.in-Ok.judged.header)

pub returns-in-Ok : goal.returns-in-Ok
unfolding receive_decision
returns-in-Ok c =
    let w = c.args.w.now in
    let d = c.args.desc.now in
    let b = c.args.buf.now in
    let ok = (goal.at.returns-in-Ok c).In-Ok in
    let i = idle_words _ w (search rules) (entered_fits _ _ _ _ 0 refl refl refl (zero ok)) in
    let set_there = header-set c.in-Ok.judged.len c.in-Ok.judged.header w (search rules) i (len_is ok) in
    let g = set_there ∙ ap (Receive.loaded (state_of w)) (header_is ok) in
    looked_receive w d b _ _ 0 (sym (zero ok)) refl (sym (marked-none d)) g
