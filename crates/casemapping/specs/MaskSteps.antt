-- The words of the private steps of `matches` (this project's own choice).
use Rattle.std.specs.Prelude.{◌≡◌, ℕ, ◌⊎◌, List, ◌∷◌}
use Rattle.casemapping.specs.Fold.{fold_of}

-- a mask's octet, which is no star, stands for an octet
abbrev pub StandsFor : ℕ → ℕ → Type 0
StandsFor letter octet = (letter ≡ 63) ⊎ (fold_of letter ≡ fold_of octet)

-- what is left where the first octet of the mask stands for the first of the text
pub record AgreesOnFirst (mask text others more : List ℕ) : Type 0 where
  pub letter : ℕ
  pub octet : ℕ
  pub of_mask : mask ≡ letter ∷ others
  pub of_text : text ≡ octet ∷ more
  pub stands : StandsFor letter octet

abbrev pub DiffersOnFirst : List ℕ → List ℕ → Type 0
DiffersOnFirst mask text = (others more : List ℕ) → AgreesOnFirst mask text others more → ⊥
