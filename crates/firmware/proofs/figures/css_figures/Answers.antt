-- `figures::css_figures` meets its contract. Assumes nothing.
use mathlib.Core.Path.{sym, ◌∙◌}
use borrow.Author.Tests.{not-true, not-false}
use native.Mathlib.Omega.{arith}
use Rattle.firmware.proofs.Lies.{sizes-agree}
use Rattle.firmware.proofs.Measured.{image-short, image_unsized, image_sized}
use Rattle.firmware.proofs.figures.css_figures.Goals as goal

pub returns-then-blob-lt-HEADER_BYTES : goal.returns-then-blob-lt-HEADER_BYTES
returns-then-blob-lt-HEADER_BYTES c = c.measured.ensures ∙ image-short _ c.if-blob-lt-HEADER_BYTES.true

pub returns-then-not-agree : goal.returns-then-not-agree
returns-then-not-agree c =
    let agreed = c in
    c.unmeasured.ensures ∙ image_unsized _ agreed.if-blob-lt-HEADER_BYTES.false
    agreed.read_sizes-z.ensures.0 (sym agreed.agree.ensures ∙ not-true _ c.if-not-agree.true-raw)

pub overflow_sub-needed : goal.overflow_sub-needed
overflow_sub-needed c =
    let a = sizes-agree _ (sym c.agree.ensures ∙ not-false _ c.if-not-agree.false-raw) in
    omega arith

pub returns : goal.returns
returns c =
    let agreed = c in
    c.measured-2.ensures ∙ image_sized _ agreed.if-blob-lt-HEADER_BYTES.false agreed.read_sizes-z.ensures.0
    (sym agreed.agree.ensures ∙ not-false _ c.if-not-agree.false-raw)
