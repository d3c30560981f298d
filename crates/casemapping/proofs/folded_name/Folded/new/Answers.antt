use Rattle.std.proofs.Common.{◌≡◌, arith, List, [], ℕ, ◌++◌, drop, sym, ap, ◌∙◌, subst}
use Rattle.std.proofs.lemmas.List.{append-nil}
use Rattle.std.proofs.lemmas.Grind.{common_steps}
use Rattle.casemapping.specs.Fold.{name_fold}
use Rattle.casemapping.proofs.FoldLemmas.{folded-folded}
use Rattle.casemapping.proofs.folded_name.Folded.new.Goals as goal

pub invariant_of-result : goal.invariant_of-result
invariant_of-result c =
    let xs = c.loop-octet.octets.items in let n = c.args.name.now in
    let none : drop c.loop-octet.octet-index n ≡ [] = let out = c.loop-octet-test.false in
    grind (arith, common_steps) in
    let whole : xs ≡ name_fold n = sym (append-nil xs) ∙ sym (ap (λ ys. xs ++ name_fold ys) none)
    ∙ c.loop-octet.invariant.folded in
    subst (λ (ys : List ℕ). name_fold ys ≡ ys) (sym whole) (folded-folded n)
