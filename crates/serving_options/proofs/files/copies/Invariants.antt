use Rattle.std.proofs.Common.{◌≡◌, ◌++◌, map, drop}
use Rattle.serving_options.proofs.files.copies.Given as goal

abbrev pub invariant-loop-text : goal.invariant-loop-text
invariant-loop-text l = l.copies.items ++ map (λ x. x.now) (drop l.text-index l.texts) ≡ map (λ x. x.now) l.texts
