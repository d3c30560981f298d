-- A text of three parts, as a line of the file of accounts and what SASL PLAIN sends have them: this project's own
-- choice, and RFC 4616, section 2.
use Rattle.std.specs.Prelude.{ℕ, List, [], ◌∷◌, Option, Some, None}

-- the parts, where there are just three
abbrev pub three_of : List (List ℕ) → Option (List ℕ × List ℕ × List ℕ)
three_of (a ∷ b ∷ c ∷ []) = Some (a, b, c)
three_of more_or_fewer = None
