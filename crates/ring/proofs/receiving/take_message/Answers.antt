-- `receiving::take_message` meets its contract: the header and the second dword that it judges are those of the
-- message, which fits the ring and the output. Assumes nothing.
use Prim.Native.Nat.{ℕ, ◌≤◌}
use mathlib.Core.Path.{◌≡◌, sym, ap, ◌∙◌}
use native.Mathlib.Omega.{arith}
use lib.ListN.{length, get_or}
use Rattle.message.specs.Header.{total_length}
use Rattle.message.proofs.Formed.{well_formed_fact}
use Rattle.ring.specs.AtOnce.{Judged}
use Rattle.ring.specs.Numbers.{take_decision}
use Rattle.runs.proofs.Offsets.{past_is}
use Rattle.runs.proofs.Straight.{laid-there-from}
use Rattle.ring.proofs.Taken.{Taken, laid-message, taken-formed, taken_has, taken-malformed, taken_refused}
use Rattle.ring.proofs.receiving.take_message.Goals as goal
use Rattle.ring.proofs.receiving.take_message.Goals.{In-Ok}

abbrev first : In-Ok → ℕ
first c = get_or c.args.buf.now c.args.own 0

-- what an accepted look has, and that the header is the message's
zero :
    (c : In-Ok)
    → let a = c.args in
    take_decision a.fits a.own (length a.out.now) a.desc.now (length a.buf.now) (first c) ≡ 0
zero c = sym (ap (λ (x : Judged). x.code) c.in-Ok.ensures)

header_is : (c : In-Ok) → c.in-Ok.judged.header ≡ first c
header_is c = rw (zero c) at (ap (λ (x : Judged). x.header) c.in-Ok.ensures)

len_is : (c : In-Ok) → c.in-Ok.judged.len ≡ total_length (first c)
len_is c = rw (zero c) at (ap (λ (x : Judged). x.len) c.in-Ok.ensures)

has :
    (c : In-Ok)
    → let a = c.args in
    Taken a.fits a.own (length a.out.now) a.desc.now (length a.buf.now) (first c)
has c = taken_has _ _ _ _ _ _ (zero c)

pub returns-in-Err : goal.returns-in-Err
returns-in-Err c =
    let a = c.args in
    taken_refused a.fits a.own a.out.now a.desc.now a.buf.now _ (sym (ap (λ (x : Judged). x.code) c.in-Err.ensures))

pub second_dword-second-requires : goal.second_dword-second-requires
second_dword-second-requires c =
    let h = has c in
    (h.below, omega (arith, len_is c), omega (arith, h.enters.low), h.enters.high)

pub returns-then-not-well_formed : goal.returns-then-not-well_formed
returns-then-not-well_formed c =
    let looked = (goal.at.returns-then-not-well_formed c).In-Ok in
    let a = c.args in
    let eh = header_is looked in
    let el = len_is looked ∙ ap total_length (sym eh) in
    let es = c.second_dword-second.ensures in
    let f = sym c.well_formed-2.ensures ∙ c.if-not-well_formed.true in
    let h = has looked in
    let p = c.past.ensures.0 ∙ past_is _ _ _ h.below (omega (arith, h.short, el, eh)) h.enters.high in
    taken-malformed a.fits a.own a.out.now a.desc.now a.buf.now _ _ _ eh el es (zero looked) _ f p c.past.ensures.1

pub returns : goal.returns
returns c =
    let looked = (goal.at.returns c).In-Ok in
    let a = c.args in
    let eh = header_is looked in
    let el = len_is looked ∙ ap total_length (sym eh) in
    let es = c.second_dword-second.ensures in
    let f = sym c.well_formed-2.ensures ∙ c.if-not-well_formed.false in
    let b = a.buf.now in
    let o = a.out.now in
    let h = has looked in
    let two : 2 ≤ c.in-Ok.judged.len = omega (arith, (well_formed_fact _ _ f).low, el) in
    let m = laid-message b (length b) a.own _ _ _ o h.below two eh es in
    let l = c.lay_message-head.ensures in
    let q =
    laid-there-from b a.own _ _ _ o h.below two (omega (arith, h.short, el, eh)) h.enters.high
    (omega (arith, h.output_long, el)) in
    let p = l.1 ∙ past_is _ _ _ h.below (omega (arith, h.short, el, eh)) h.enters.high in
    taken-formed a.fits a.own o a.desc.now b _ _ _ eh el es (zero looked) _ _ f p l.2 (l.0 ∙ q ∙ m)
