-- What has a fourth part hasn't just three.
use Rattle.std.proofs.Common.{◌≡◌, ℕ, List, [], ◌∷◌, refl, inl, inr, eqb}
use Rattle.std.specs.Prelude.{None}
use Rattle.std.specs.List.{onto_first}
use Rattle.std.proofs.lemmas.Bool.{cases_Bool}
use Rattle.line_grammar.specs.Parts.{parts}
use Rattle.registration.specs.Parts.{three_of}

four_by_onto : (a b c : List ℕ) (x : ℕ) (more : List (List ℕ)) → three_of (a ∷ b ∷ c ∷ onto_first x more) ≡ None
four_by_onto a b c x [] = refl
four_by_onto a b c x (part ∷ more) = refl

pub four : (a b c : List ℕ) (separator : ℕ) (xs : List ℕ) → three_of (a ∷ b ∷ c ∷ parts separator xs) ≡ None
four a b c separator [] = refl
four a b c separator (x ∷ xs) =
    elim (cases_Bool (eqb x separator)) [
      | inl is ↦ rw is refl
      | inr isnt ↦ rw isnt (four_by_onto a b c x (parts separator xs))
    ]

pub ruleset fourth = (four)
