-- `cpd::read_table` meets its contract. Assumes nothing.
use borrow.Author.Tests.{lt-ltb, le-ltb}
use Rattle.firmware.specs.Cpd
use Rattle.firmware.specs.Figures.{directory_figures}
use Rattle.firmware.specs.Private.{table_of}
use Rattle.firmware.proofs.cpd.read_table.Goals as goal

pub returns-then-blob-lt-HEADER_MIN : goal.returns-then-blob-lt-HEADER_MIN
unfolding table_of Cpd.directory_number directory_figures
returns-then-blob-lt-HEADER_MIN c = simp (lt-ltb _ _ c.if-blob-lt-HEADER_MIN.true)

pub returns-then-not-has_marker-start : goal.returns-then-not-has_marker-start
unfolding table_of Cpd.directory_number directory_figures
returns-then-not-has_marker-start c =
    let at_start = c in
    simp (
      le-ltb _ _ at_start.if-blob-lt-HEADER_MIN.false,
      ← at_start.from-start.ensures,
      ← c.has_marker.ensures,
      c.if-not-has_marker-start.true-raw,
    )

pub returns-then-blob-needed : goal.returns-then-blob-needed
unfolding table_of Cpd.directory_number directory_figures
returns-then-blob-needed c =
    let at-marker = c in
    let at_start = at-marker in
    simp (
      le-ltb _ _ at_start.if-blob-lt-HEADER_MIN.false,
      ← at_start.from-start.ensures,
      ← at-marker.has_marker.ensures,
      c.if-not-has_marker-start.false-raw,
      ← c.dword_at-count.ensures.0,
      lt-ltb _ _ c.if-blob-needed.true,
    )

pub returns : goal.returns
unfolding table_of Cpd.directory_number directory_figures
returns c =
    let at-marker = c in
    let at_start = at-marker in
    simp (
      le-ltb _ _ at_start.if-blob-lt-HEADER_MIN.false,
      ← at_start.from-start.ensures,
      ← at-marker.has_marker.ensures,
      c.if-not-has_marker-start.false-raw,
      ← c.dword_at-count.ensures.0,
      le-ltb _ _ c.if-blob-needed.false,
    )
