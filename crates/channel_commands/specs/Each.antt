-- What a command does for each of a list, one after another.
use Rattle.std.specs.Prelude.{ℕ, ◌+◌, List, [], ◌∷◌, ◌++◌, length}
use Rattle.roster.specs.declared.deed.Deed.{Deed}
use Rattle.roster.specs.LookBack.{after}
use Rattle.transactions.specs.declared.effect.Effect.{Effect}
use Rattle.transactions.specs.Effects.{deeds_of}

-- each finds the facts that those before it leave
abbrev pub each : {A : Type 0} → (List Deed → A → List Effect) → List Deed → List A → List Effect
each row fs [] = []
each row fs (x ∷ xs) = row fs x ++ each row (after fs (deeds_of (row fs x))) xs

-- the same, with a count that grows by each fact
abbrev pub each_counted : {A : Type 0} → (List Deed → ℕ → A → List Effect) → List Deed → ℕ → List A → List Effect
each_counted row fs n [] = []
each_counted row fs n (x ∷ xs) = row fs n x ++ each_counted row (after fs (deeds_of (row fs n x)))
    (n + length (deeds_of (row fs n x))) xs
