-- `Counts::fits_sending` meets its contract: at each `return` a test of the definition fails. Assumes nothing.
use mathlib.Core.Path.{sym, ◌∙◌}
use native.Mathlib.Omega.{arith}
use borrow.Author.Tests.{eq-eqb, le-leb, lt-ltb}
use Rattle.message.specs.Header.{total_length}
use Rattle.channel.specs.State.{active_send}
use Rattle.channel.proofs.Going.{refuted, send_active, send_long}
use Rattle.channel.proofs.state.Counts.fits_sending.Goals as goal

pub returns-then-self-n : goal.returns-then-self-n
returns-then-self-n c = refuted _ (λ e. c.if-self-n.true (send_active _ _ e).same)

pub returns-then-n-self : goal.returns-then-n-self
returns-then-n-self c = refuted _ (λ e. omega (arith, (send_active _ _ e).own, c.if-n-self.true))

pub returns-then-self-lt2 : goal.returns-then-self-lt2
returns-then-self-lt2 c = refuted _ (λ e. omega (arith, send_long _ _ e, c.if-self-lt2.true))

pub returns-then-self-gt-MESSAGE_MAX : goal.returns-then-self-gt-MESSAGE_MAX
returns-then-self-gt-MESSAGE_MAX c = refuted _ (λ e. omega (arith, (send_active _ _ e).short, c.if-self-gt-MESSAGE_MAX.true))

pub returns-then-self : goal.returns-then-self
returns-then-self c = refuted _ (λ e. omega (arith, (send_active _ _ e).within, c.if-self.true))

pub returns-then-self-total_length : goal.returns-then-self-total_length
returns-then-self-total_length c =
    let l = c.total_length.ensures in
    refuted _ (λ e. c.if-self-total_length.true ((send_active _ _ e).agrees ∙ sym l))

pub returns : goal.returns
unfolding active_send
returns c =
    let half = c in
    let a = half.args in
    rw (
      eq-eqb a.self.n a.n (omega arith),
      lt-ltb a.self.own a.n (omega arith),
      le-leb 2 a.self.len (omega arith),
      le-leb a.self.len 256 (omega arith),
      le-leb a.self.moved a.self.len (omega arith),
      eq-eqb a.self.len (total_length a.header) (omega arith),
    )
    c.well_formed-2.ensures
