-- `Counts::publish_needs` meets its contract: its tests are the chain's, in the same order. Assumes nothing.
use mathlib.Core.Path.{sym}
use borrow.Author.Rules.{rules}
use borrow.Author.Tests.{le-leb, lt-leb}
use Rattle.ring.specs.Numbers.{need}
use Rattle.ring.proofs.Chains.{first-needs-none, first-needs-one}
use Rattle.channel.specs.State.{active_receive}
use Rattle.channel.specs.Receive.{publish_number_of}
use Rattle.channel.proofs.state.Counts.publish_needs.Goals as goal

pub returns-in_err-first_needs : goal.returns-in_err-first_needs
unfolding active_receive publish_number_of
returns-in_err-first_needs c = search (rules, first-needs-one)

pub returns-then-output-lt-MESSAGE_MAX : goal.returns-then-output-lt-MESSAGE_MAX
unfolding need active_receive publish_number_of
returns-then-output-lt-MESSAGE_MAX c =
    rw (← c.fits_receiving.ensures, first-needs-none _ _ _ _ (sym c.in_ok-first_needs.ensures), lt-leb _ _ c.if-output-lt-MESSAGE_MAX.true)

pub returns-then-self : goal.returns-then-self
unfolding need active_receive publish_number_of
returns-then-self c =
    rw (
      ← c.fits_receiving.ensures,
      first-needs-none _ _ _ _ (sym c.in_ok-first_needs.ensures),
      le-leb _ _ c.if-output-lt-MESSAGE_MAX.false,
      lt-leb _ _ c.if-self.true,
    )

pub returns-then-not-well_formed : goal.returns-then-not-well_formed
unfolding need active_receive publish_number_of
returns-then-not-well_formed c =
    rw (
      ← c.fits_receiving.ensures,
      first-needs-none _ _ _ _ (sym c.in_ok-first_needs.ensures),
      le-leb _ _ c.if-output-lt-MESSAGE_MAX.false,
      le-leb _ _ c.if-self.false,
      ← c.well_formed-2.ensures,
      c.if-not-well_formed.true,
    )

pub returns : goal.returns
unfolding need active_receive publish_number_of
returns c =
    rw (
      ← c.fits_receiving.ensures,
      first-needs-none _ _ _ _ (sym c.in_ok-first_needs.ensures),
      le-leb _ _ c.if-output-lt-MESSAGE_MAX.false,
      le-leb _ _ c.if-self.false,
      ← c.well_formed-2.ensures,
      c.if-not-well_formed.false,
    )
