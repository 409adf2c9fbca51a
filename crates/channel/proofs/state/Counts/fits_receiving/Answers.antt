-- `Counts::fits_receiving` meets its contract: at each `return` a test of the definition fails; that L is from 1 to 256
-- follows from the header. Assumes nothing.
use mathlib.Core.Path.{◌≡◌, sym, ◌∙◌}
use mathlib.Core.Bool.{and-true}
use native.Mathlib.Omega.{arith}
use borrow.Author.Tests.{eq-eqb, le-leb, lt-ltb}
use Rattle.ring.proofs.Taken.{total_high, total_low}
use Rattle.message.specs.Header.{total_length}
use Rattle.channel.specs.State.{active_receive}
use Rattle.channel.proofs.Going.{refuted, receive_active, receive-moved}
use Rattle.channel.proofs.state.Counts.fits_receiving.Goals as goal

pub returns-then-self-n : goal.returns-then-self-n
returns-then-self-n c = refuted _ (λ e. c.if-self-n.true (receive_active _ _ e).same)

pub returns-then-n-self : goal.returns-then-n-self
returns-then-n-self c = refuted _ (λ e. omega (arith, (receive_active _ _ e).own, c.if-n-self.true))

pub returns-then-self-total_length : goal.returns-then-self-total_length
returns-then-self-total_length c = refuted _ (λ e. c.if-self-total_length.true ((receive_active _ _ e).agrees ∙ sym c.total_length.ensures))

pub returns-then-self-lt1 : goal.returns-then-self-lt1
returns-then-self-lt1 c = refuted _ (λ e. omega (arith, receive-moved _ _ e, c.if-self-lt1.true))

pub returns : goal.returns
unfolding active_receive
returns c =
    let after-length = c in
    let a = after-length.args in
    let l : a.self.len ≡ total_length a.header = omega arith in
    rw (
      eq-eqb a.self.n a.n (omega arith),
      lt-ltb a.self.own a.n (omega arith),
      le-leb 1 a.self.len (omega (arith, total_low a.header)),
      le-leb a.self.len 256 (omega (arith, total_high a.header)),
      le-leb 1 a.self.moved (omega arith),
      eq-eqb a.self.len (total_length a.header) l,
      and-true,
    )
