-- `messages::guc_pack` meets its contract: 101 first, then 14, then what packing answers. Assumes nothing.
use Prim.Native.Nat.{ℕ}
use mathlib.Core.Path.{◌≡◌, sym}
use mathlib.Core.Bool.{false}
use lib.Dec.{eqb}
use mathlib.Core.Logic.{◌≢◌}
use mathlib.Core.Option.{Option-elim, none}
use borrow.Author.Tests.{ne_eqb}
use Rattle.message.specs.Types.{type_number, type_of, bodies_from, of_type}
use Rattle.message.specs.declared.header.Type as kind
use Rattle.message.specs.declared.header.Type.TheVariants as kinds
use Rattle.guc.specs.Messages.{packing, body_for, number_for}
use Rattle.guc.proofs.messages.guc_pack.Goals as goal

-- a number that no type has makes no body
no_body : (n first second : ℕ) → ((t : kind.Type) → type_number t ≢ n) → body_for n first second ≡ none
unfolding body_for bodies_from number_for of_type type_of
no_body n first second e = simp (other kinds.Request, other kinds.Event, other kinds.FastRequest, other kinds.Busy, other kinds.Retry, other kinds.Failure, other kinds.Success)
  where
    other : (t : kind.Type) → eqb n (type_number t) ≡ false
    other t = ne_eqb n (type_number t) (λ q. e t (sym q))

pub returns-in_default : goal.returns-in_default
unfolding packing Option-elim
returns-in_default c = rw (no_body c.args.hxg_type c.args.first c.args.second c.in_default.ensures.1) c.not_packed.ensures

pub returns-then-origin-spare : goal.returns-then-origin-spare
unfolding packing Option-elim
returns-then-origin-spare c =
    rw (← c.in-Ok.ensures, c.of_type-body.ensures, ← c.spare.ensures, c.if-origin-spare.true) c.packed_as.ensures

pub returns-else-origin-spare : goal.returns-else-origin-spare
unfolding packing Option-elim
returns-else-origin-spare c =
    rw (← c.in-Ok.ensures, c.of_type-body.ensures, ← c.spare.ensures, c.if-origin-spare.false, ← c.number.ensures)
    c.not_packed-else-origin-spare.ensures
