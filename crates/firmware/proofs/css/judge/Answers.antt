-- `css::judge` meets its contract. Assumes nothing.
use mathlib.Core.Path.{◌≡◌, sym, ◌∙◌}
use borrow.Author.Tests.{not-true, not-false}
use native.Mathlib.Omega.{arith}
use Rattle.firmware.proofs.Lies.{sizes-agree}
use Rattle.firmware.proofs.Judged.{sizes_disagree, too_short, of_rank, ucode_handed, rsa_handed, modulus_handed, exponent_handed}
use Rattle.firmware.proofs.css.judge.Goals as goal

pub returns-then-not-agree : goal.returns-then-not-agree
returns-then-not-agree c b l s =
    let at_agree = c in
    let a = sym at_agree.agree.ensures ∙ not-true _ c.if-not-agree.true-raw in
    sym (sizes_disagree b _ _ l s at_agree.requires.0 _ a)

pub overflow_sub-rsa : goal.overflow_sub-rsa
overflow_sub-rsa c =
    let at_agree = c in
    let a = sizes-agree at_agree.args.z (sym at_agree.agree.ensures ∙ not-false _ c.if-not-agree.false-raw) in
    omega arith

pub returns-then-n-modulus : goal.returns-then-n-modulus
returns-then-n-modulus c b l s =
    let at_agree = c in
    let a = sym at_agree.agree.ensures ∙ not-false _ c.if-not-agree.false-raw in
    sym (too_short b _ _ l s at_agree.requires.0 a _ c.if-n-modulus.true)

pub component_located-requires-2 : goal.component_located-requires-2
component_located-requires-2 c =
    let at_agree = c in
    let a =
    sizes-agree at_agree.args.z
    (sym at_agree.agree.ensures ∙ not-false _ c.if-not-agree.false-raw) in
    omega arith

-- each component: what it needs, where it starts and where it ends are facts about numbers
pub returns-then-rank-lt1 : goal.returns-then-rank-lt1
returns-then-rank-lt1 c b l s =
    let at-rank = c in
    let r : at-rank.rank-rank.result ≡ 0 = omega arith in
    let at_there = at-rank in
    let at_agree = at_there in
    let a = sym at_agree.agree.ensures ∙ not-false _ at_there.if-not-agree.false-raw in
    let handed = ucode_handed b _ _ l s at_agree.requires.0 a at_there.if-n-modulus.false in
    rw (of_rank at_agree.args.which 0 (sym at-rank.rank-rank.ensures.0 ∙ r))
    (c.component_located.ensures ∙ sym (handed _ _ _ (omega arith) (omega arith) (omega arith)))

pub returns-then-rank-lt2 : goal.returns-then-rank-lt2
returns-then-rank-lt2 c b l s =
    let at-rank = c in
    let r : at-rank.rank-rank.result ≡ 1 = omega arith in
    let at_there = at-rank in
    let at_agree = at_there in
    let a = sym at_agree.agree.ensures ∙ not-false _ at_there.if-not-agree.false-raw in
    let handed = rsa_handed b _ _ l s at_agree.requires.0 a at_there.if-n-modulus.false in
    rw (of_rank at_agree.args.which 1 (sym at-rank.rank-rank.ensures.0 ∙ r))
    (c.component_located-then-rank-lt2.ensures ∙ sym (handed _ _ _ (omega arith) (omega arith) (omega arith)))

pub returns-then-rank-lt3 : goal.returns-then-rank-lt3
returns-then-rank-lt3 c b l s =
    let at-rank = c in
    let r : at-rank.rank-rank.result ≡ 2 = omega arith in
    let at_there = at-rank in
    let at_agree = at_there in
    let a = sym at_agree.agree.ensures ∙ not-false _ at_there.if-not-agree.false-raw in
    let handed = modulus_handed b _ _ l s at_agree.requires.0 a at_there.if-n-modulus.false in
    rw (of_rank at_agree.args.which 2 (sym at-rank.rank-rank.ensures.0 ∙ r))
    (c.component_located-then-rank-lt3.ensures ∙ sym (handed _ _ _ (omega arith) (omega arith) (omega arith)))

pub returns : goal.returns
returns c b l s =
    let at-rank = c in
    let r : at-rank.rank-rank.result ≡ 3 = omega arith in
    let at_there = at-rank in
    let at_agree = at_there in
    let a = sym at_agree.agree.ensures ∙ not-false _ at_there.if-not-agree.false-raw in
    let f = sizes-agree at_agree.args.z a in
    let handed = exponent_handed b _ _ l s at_agree.requires.0 a at_there.if-n-modulus.false in
    rw (of_rank at_agree.args.which 3 (sym at-rank.rank-rank.ensures.0 ∙ r))
    (c.component_located-2.ensures ∙ sym (handed _ _ _ (omega arith) (omega arith) (omega arith)))
