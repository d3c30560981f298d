-- The test of a mask tells what the relation of mask and text says.
use Rattle.std.proofs.Common.{◌≡◌, inl, inr, ℕ, Bool, true, false, IsTrue, ◌&&◌, ◌||◌, ◌==◌, ◌⊎◌}
use Rattle.std.proofs.Common.{cond, List, [], ◌∷◌, refl, sym, ap, ◌∙◌, subst, eq-eqb}
use Rattle.std.proofs.lemmas.Bool.Decides.{eqb_tells}
use Rattle.std.specs.List.{list_any}
use Rattle.casemapping.specs.Fold.{fold_of}
use Rattle.casemapping.specs.Mask.{Matches, nothing, any_octet, star_for_none}
use Rattle.casemapping.specs.Mask.{star_for_more, same_octet, endings, fits_one, fits}
use Rattle.casemapping.proofs.SameNames.{by_fact}

either : (b : Bool) → (b ≡ true) ⊎ (b ≡ false)
either true = inl refl
either false = inr refl

or-true : (b : Bool) → (b || true) ≡ true
or-true true = refl
or-true false = refl

-- ---- a text that a mask fits is found

at_head : (f : List ℕ → Bool) (text : List ℕ) → f text ≡ true → list_any f (endings text) ≡ true
at_head f [] e = ap (λ b. b || false) e
at_head f (x ∷ text) e = ap (λ b. b || list_any f (endings text)) e

in_rest : (f : List ℕ → Bool) (x : ℕ) (text : List ℕ) → list_any f (endings text) ≡ true
    → list_any f (endings (x ∷ text)) ≡ true
in_rest f x text e = ap (λ b. f (x ∷ text) || b) e ∙ or-true (f (x ∷ text))

fits-star : (mask text : List ℕ) → fits (42 ∷ mask) text ≡ list_any (fits mask) (endings text)
unfolding fits
fits-star mask text = refl

fits-other : (letter : ℕ) (mask text : List ℕ) → (letter == 42) ≡ false → fits (letter ∷ mask) text
    ≡ fits_one letter (fits mask) text
unfolding fits
fits-other letter mask text e = ap
    (λ b. cond b (list_any (fits mask) (endings text)) (fits_one letter (fits mask) text)) e

fits-same : (letter x : ℕ) (mask text : List ℕ) → fold_of letter ≡ fold_of x → fits mask text ≡ true
    → fits (letter ∷ mask) (x ∷ text) ≡ true
fits-same letter x mask text e f = elim (eqb_tells letter 42) [
  | inl star ↦
      ap (λ l. fits (l ∷ mask) (x ∷ text)) star.1 ∙ fits-star mask (x ∷ text)
      ∙ in_rest (fits mask) x text (at_head (fits mask) text f)
  | inr other ↦
      fits-other letter mask (x ∷ text) other.0
      ∙ ap (λ b. (letter == 63 || b) && fits mask text) (eq-eqb (fold_of letter) (fold_of x) e)
      ∙ ap (λ b. b && fits mask text) (or-true (letter == 63)) ∙ f
]

pub fits-complete : {mask text : List ℕ} → Matches mask text → fits mask text ≡ true
unfolding fits
fits-complete nothing = refl
fits-complete (any_octet m) = fits-complete m
fits-complete (star_for_none {mask} {text} m) = at_head (fits mask) text (fits-complete m)
fits-complete (star_for_more {octet} {mask} {text} m) = in_rest (fits mask) octet text (fits-complete m)
fits-complete (same_octet {letter} {octet} {mask} {text} e m) = fits-same letter octet mask text e (fits-complete m)

-- ---- and what is found fits

star_ending : (mask text : List ℕ) → ((rest : List ℕ) → fits mask rest ≡ true → Matches mask rest)
    → list_any (fits mask) (endings text) ≡ true → Matches (42 ∷ mask) text
star_ending mask [] ih e = elim (either (fits mask [])) [
  | inl hit ↦ star_for_none (ih [] hit)
  | inr no_one ↦ absurd (let f : false ≡ true = ap (λ b. b || false) (sym no_one) ∙ e in cc)
]
star_ending mask (x ∷ text) ih e = elim (either (fits mask (x ∷ text))) [
  | inl hit ↦ star_for_none (ih (x ∷ text) hit)
  | inr no_one ↦ star_for_more
      (star_ending mask text ih (ap (λ b. b || list_any (fits mask) (endings text)) (sym no_one) ∙ e))
]

both : (a b : Bool) → (a && b) ≡ true → (a ≡ true) × (b ≡ true)
both true b e = (refl, e)
both false b e = absurd (let f : false ≡ true = e in cc)

by_one : (letter : ℕ) (mask text : List ℕ) → ((rest : List ℕ) → fits mask rest ≡ true → Matches mask rest)
    → fits_one letter (fits mask) text ≡ true → Matches (letter ∷ mask) text
by_one letter mask [] ih e = absurd (let f : false ≡ true = e in cc)
by_one letter mask (x ∷ text) ih e =
    let parts = both (letter == 63 || fold_of letter == fold_of x) (fits mask text) e in
    elim (eqb_tells letter 63) [
      | inl any ↦ subst (λ (l : ℕ). Matches (l ∷ mask) (x ∷ text)) (sym any.1) (any_octet (ih text parts.1))
      | inr other ↦ elim (eqb_tells (fold_of letter) (fold_of x)) [
        | inl it ↦ same_octet it.1 (ih text parts.1)
        | inr miss ↦ absurd (let f : false
            ≡ true = sym (ap (λ b. b || fold_of letter == fold_of x) other.0 ∙ miss.0) ∙ parts.0 in cc)
      ]
    ]

pub fits-sound : (mask text : List ℕ) → fits mask text ≡ true → Matches mask text
unfolding fits
fits-sound [] [] e = nothing
fits-sound [] (x ∷ text) e = absurd (let f : false ≡ true = e in cc)
fits-sound (letter ∷ mask) text e = elim (eqb_tells letter 42) [
  | inl star ↦
      subst (λ (l : ℕ). Matches (l ∷ mask) text) (sym star.1)
      (star_ending mask text (fits-sound mask)
      (sym (fits-star mask text) ∙ ap (λ l. fits (l ∷ mask) text) (sym star.1) ∙ e))
  | inr other ↦ by_one letter mask text (fits-sound mask) (sym (fits-other letter mask text other.0) ∙ e)
]

-- the code's test
pub fits-test : (mask text : List ℕ) (r : Bool) → (IsTrue r → Matches mask text) → (Matches mask text → IsTrue r)
    → r ≡ fits mask text
fits-test mask text r f g = by_fact r (fits mask text) (Matches mask text) f g (fits-sound mask text)
    (λ m. fits-complete m)
