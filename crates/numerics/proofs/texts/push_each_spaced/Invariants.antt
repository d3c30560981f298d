use Rattle.std.proofs.Common.{◌≡◌, ◌∷◌, ◌++◌, take}
use Rattle.std.specs.List.{flat_map}
use Rattle.numerics.proofs.texts.push_each_spaced.Given as goal

abbrev pub invariant-loop-word : goal.invariant-loop-word
invariant-loop-word l = l.text.items ≡ l.fn.text.items ++ flat_map (λ word. 32 ∷ word) (take l.word-index l.words)
