-- `state::rest_zero` meets its contract: all pass the test just where all are zeros. Assumes nothing.
use Rattle.std.proofs.Common.{ℕ, ◌≡◌, eqb, List, [], ◌∷◌, refl, rules, tests, ◌∙◌}
use Rattle.std.specs.List.{list_all}
use Rattle.std.proofs.lemmas.Iterator.{YieldsList-from_slice}
use Rattle.std.proofs.lemmas.Iterator.Search.{all_from_yields_List}
use Rattle.channel.specs.State.{all_zero}
use Rattle.channel.proofs.state.rest_zero.Goals as goal

each-zero : (xs : List ℕ) → list_all (λ (x : ℕ). eqb x 0) xs ≡ all_zero xs
unfolding all_zero
each-zero [] = refl
each-zero (x ∷ xs) = rw (each-zero xs)

pub returns : goal.returns
returns c =
    let xs = c.args.s.now in
    all_from_yields_List (λ (x : ℕ). eqb x 0) _ _ _ c.all.ensures.ran (YieldsList-from_slice xs cc) (λ x b q k. search (rules, tests))
    ∙ each-zero xs
