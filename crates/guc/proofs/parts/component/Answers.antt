-- `parts::component` meets its contract. Assumes nothing.
use borrow.Author.Tests.{ne_eqb}
use Rattle.guc.specs.Parts.{component_of}
use Rattle.guc.proofs.parts.component.Goals as goal

pub returns-in-0 : goal.returns-in-0
unfolding component_of
returns-in-0 c = simp c.in-0.is

pub returns-in-1 : goal.returns-in-1
unfolding component_of
returns-in-1 c = simp c.in-1.is

pub returns-in-2 : goal.returns-in-2
unfolding component_of
returns-in-2 c = simp c.in-2.is

pub returns-in-3 : goal.returns-in-3
unfolding component_of
returns-in-3 c = simp c.in-3.is

pub returns-in_default : goal.returns-in_default
unfolding component_of
returns-in_default c =
    let n = c.in_default.in_default-own.rest in
    simp (ne_eqb _ _ n.0.0.0.1, ne_eqb _ _ n.0.0.1, ne_eqb _ _ n.0.1, ne_eqb _ _ n.1)
