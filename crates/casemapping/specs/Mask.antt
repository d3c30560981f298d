-- Which texts a mask fits (RFC 2812, section 2.5, without its escape; octets are compared in either case).
use Rattle.std.specs.Prelude.{◌≡◌, ℕ, Bool, true, false, ◌&&◌, ◌||◌, ◌==◌, cond, List, [], ◌∷◌}
use Rattle.std.specs.List.{list_any}
use Rattle.casemapping.specs.Fold.{fold_of}

-- 42 is `*` and 63 is `?`
pub data Matches : List ℕ → List ℕ → Type 0 where
  nothing : Matches [] []
  any_octet : {octet : ℕ} {mask text : List ℕ} → Matches mask text → Matches (63 ∷ mask) (octet ∷ text)
  star_for_none : {mask text : List ℕ} → Matches mask text → Matches (42 ∷ mask) text
  star_for_more : {octet : ℕ} {mask text : List ℕ} → Matches (42 ∷ mask) text → Matches (42 ∷ mask) (octet ∷ text)
  same_octet : {letter octet : ℕ} {mask text : List ℕ} → fold_of letter ≡ fold_of octet → Matches mask text
      → Matches (letter ∷ mask) (octet ∷ text)

-- The same as a test: a text with all that it ends with, and whether a mask fits.
abbrev pub endings : List ℕ → List (List ℕ)
endings [] = [] ∷ []
endings (octet ∷ text) = (octet ∷ text) ∷ endings text

abbrev pub fits_one : ℕ → (List ℕ → Bool) → List ℕ → Bool
fits_one letter rest [] = false
fits_one letter rest (octet ∷ text) = (letter == 63 || fold_of letter == fold_of octet) && rest text

unfoldable pub fits : List ℕ → List ℕ → Bool
fits [] [] = true
fits [] (octet ∷ text) = false
fits (letter ∷ mask) text = cond (letter == 42) (list_any (fits mask) (endings text))
    (fits_one letter (fits mask) text)
