-- The parameters that are left as they are copied one by one.
use Rattle.std.proofs.Common.{ℕ, List, [], ◌∷◌, Option, Some, None}
use Rattle.std.specs.Borrow.{Bor}

-- the next and those after it, where there is one
abbrev pub params_left : Option (Bor (List ℕ) × List (List ℕ)) → List (List ℕ)
params_left None = []
params_left (Some p) = p.0.now ∷ p.1
