use Rattle.std.proofs.Common.{◌≡◌, ◌∷◌, ◌++◌, take}
use Rattle.std.specs.List.{flat_map}
use Rattle.numerics.proofs.pushing.push_params.Given as goal

abbrev pub invariant-loop-param : goal.invariant-loop-param
invariant-loop-param l = l.text.items ≡ l.fn.text.items ++ flat_map (λ p. 32 ∷ p) (take l.param-index l.params)
