use Rattle.std.proofs.Common.{◌≡◌, List, ℕ, sym, ◌∙◌, subst}
use Rattle.casemapping.specs.Fold.{name_fold}
use Rattle.casemapping.proofs.FoldLemmas.{folded-folded}
use Rattle.casemapping.proofs.folded_name.Folded.from_vec.Goals as goal

pub invariant_of-result : goal.invariant_of-result
invariant_of-result c = subst (λ (xs : List ℕ). name_fold xs ≡ xs)
    (sym (c.from_vec.ensures.items ∙ c.fold_all.ensures)) (folded-folded c.args.octets.items)
