-- What a mask fits, a step at a time, and what the search for a fit keeps.
use Rattle.std.proofs.Common.{◌≡◌, ℕ, zero, suc, ◌+◌, ◌<◌, ◌≤◌, ◌↔◌, Option, None, Some, Bor, List, []}
use Rattle.std.proofs.Common.{◌∷◌, length, drop, arith, inl, inr, refl, sym, ap, subst, ◌∙◌}
use Rattle.std.proofs.lemmas.List.{drop-drop}
use Rattle.casemapping.specs.MaskSteps.{StandsFor, AgreesOnFirst, DiffersOnFirst}
use Rattle.casemapping.specs.Mask.{Matches, nothing, any_octet, star_for_none, star_for_more, same_octet}

-- a star stands for the octets before some place
Matches_from_star : {star : ℕ} {mask text : List ℕ} → Matches (star ∷ mask) text → star ≡ 42 → (k : ℕ)
    × Matches mask (drop k text)
Matches_from_star (any_octet fits) is = absurd (omega arith)
Matches_from_star (star_for_none fits) is = (0, fits)
Matches_from_star (star_for_more fits) is = let rest = Matches_from_star fits is in (suc rest.0, rest.1)
Matches_from_star (same_octet e fits) is = (1, fits)

Matches_to_star : (k : ℕ) (mask text : List ℕ) → Matches mask (drop k text) → Matches (42 ∷ mask) text
Matches_to_star zero mask text fits = star_for_none fits
Matches_to_star (suc k) mask [] fits = star_for_none fits
Matches_to_star (suc k) mask (octet ∷ text) fits = star_for_more (Matches_to_star k mask text fits)

-- what a star fits further on, it fits from here on
star_absorbs : (k : ℕ) (mask text : List ℕ) → Matches (42 ∷ mask) (drop k text) → Matches (42 ∷ mask) text
star_absorbs k mask text fits =
    let on = Matches_from_star fits refl in
    Matches_to_star (k + on.0) mask text (subst (Matches mask) (drop-drop on.0 k text) on.1)

-- the text begins with an octet that the letter stands for, and the mask fits the rest
record Goes (letter : ℕ) (mask text : List ℕ) : Type 0 where
  octet : ℕ
  rest : List ℕ
  is : text ≡ octet ∷ rest
  stands : StandsFor letter octet
  on : Matches mask rest

Goes_from_Matches : {letter : ℕ} {mask text : List ℕ} → Matches (letter ∷ mask) text → (letter ≡ 42 → ⊥)
    → Goes letter mask text
Goes_from_Matches (any_octet fits) not_star = record { octet = _; rest = _; is = refl; stands = inl refl; on = fits }
Goes_from_Matches (star_for_none fits) not_star = absurd (not_star refl)
Goes_from_Matches (star_for_more fits) not_star = absurd (not_star refl)
Goes_from_Matches (same_octet e fits) not_star = record { octet = _; rest = _; is = refl; stands = inr e; on = fits }

Matches_to_octet : {letter octet : ℕ} {mask text : List ℕ} → StandsFor letter octet → Matches mask text
    → Matches (letter ∷ mask) (octet ∷ text)
Matches_to_octet {letter} {octet} {mask} {text} (inl e) fits = subst
    (λ l. Matches (l ∷ mask) (octet ∷ text)) (sym e) (any_octet fits)
Matches_to_octet (inr e) fits = same_octet e fits

-- what is left after one octet more
drop_of_drop : (k : ℕ) (text : List ℕ) (first : ℕ) (rest : List ℕ) → drop k text ≡ first ∷ rest
    → drop (suc k) text ≡ rest
drop_of_drop zero [] first rest e = cc
drop_of_drop zero (x ∷ text) first rest e = cc
drop_of_drop (suc k) [] first rest e = cc
drop_of_drop (suc k) (x ∷ text) first rest e = drop_of_drop k text first rest e

Matches_past_octet : (k letter : ℕ) (mask : List ℕ) (octet : ℕ) (text : List ℕ) → (letter ≡ 42 → ⊥)
    → Matches (letter ∷ mask) (drop k (octet ∷ text)) → Matches mask (drop k text)
Matches_past_octet k letter mask octet text not_star fits =
    let on = Goes_from_Matches fits not_star in
    subst (Matches mask) (sym (drop_of_drop k (octet ∷ text) on.octet on.rest on.is)) on.on

-- How far the mask after a star has come with the text from where it was last tried: it fits there if what
-- is left fits, and wherever it fits, what is left fits as much further on.
pub record HasCome (after from pattern rest : List ℕ) : Type 0 where
  pub back : Matches pattern rest → Matches after from
  pub ahead : (k : ℕ) → Matches after (drop k from) → Matches pattern (drop k rest)
  pub pattern_within : length pattern ≤ length after
  pub rest_within : length rest ≤ length from

-- A star was reached, and the question is what the mask from it on fits.
pub record Retries (mask text after from pattern rest : List ℕ) : Type 0 where
  pub whole : Matches mask text ↔ Matches (42 ∷ after) from
  pub come : HasCome after from pattern rest
  pub within : length after ≤ length mask

-- No star was reached, and the question is what is left of the mask.
pub record Begins (mask text pattern rest : List ℕ) : Type 0 where
  pub whole : Matches mask text ↔ Matches pattern rest
  pub pattern_within : length pattern ≤ length mask
  pub rest_within : length rest ≤ length text

abbrev pub Keeps : List ℕ → List ℕ → Option (Bor (List ℕ) × Bor (List ℕ)) → List ℕ → List ℕ → Type 0
Keeps mask text None pattern rest = Begins mask text pattern rest
Keeps mask text (Some retry) pattern rest = Retries mask text retry.0.now retry.1.now pattern rest

-- how much of the text may still be tried
abbrev pub tries_left : List ℕ → Option (Bor (List ℕ) × Bor (List ℕ)) → ℕ
tries_left text None = length text + 1
tries_left text (Some retry) = length retry.1.now

pub Keeps_begins : (mask text : List ℕ) → Begins mask text mask text
Keeps_begins mask text = record {
  whole = (λ fits. fits, λ fits. fits);
  pattern_within = omega arith;
  rest_within = omega arith;
}

HasCome_none : (after from : List ℕ) → HasCome after from after from
HasCome_none after from = record {
  back = λ fits. fits;
  ahead = λ k fits. fits;
  pattern_within = omega arith;
  rest_within = omega arith;
}

-- at a star, the later star decides
whole_at_star : (mask text : List ℕ) (retry : Option (Bor (List ℕ) × Bor (List ℕ))) (after rest : List ℕ)
    → Keeps mask text retry (42 ∷ after) rest → Matches mask text ↔ Matches (42 ∷ after) rest
whole_at_star mask text None after rest keeps = keeps.whole
whole_at_star mask text (Some retry) after rest keeps = (
  λ fits.
      let first = Matches_from_star (keeps.whole.0 fits) refl in
      star_absorbs first.0 after rest (keeps.come.ahead first.0 first.1),
  λ fits. keeps.whole.1 (star_for_none (keeps.come.back fits)),
)

pattern_length : (mask text : List ℕ) (retry : Option (Bor (List ℕ) × Bor (List ℕ))) (pattern rest : List ℕ)
    → Keeps mask text retry pattern rest → length pattern ≤ length mask
pattern_length mask text None pattern rest keeps = keeps.pattern_within
pattern_length mask text (Some retry) pattern rest keeps = omega (arith, keeps.come.pattern_within, keeps.within)

pub Keeps_star : (mask text : List ℕ) (retry : Option (Bor (List ℕ) × Bor (List ℕ))) (pattern after rest : List ℕ)
    → pattern ≡ 42 ∷ after → Keeps mask text retry pattern rest → Retries mask text after rest after rest
Keeps_star mask text retry pattern after rest e keeps =
    let at_star : Keeps mask text retry (42 ∷ after) rest = subst (λ p. Keeps mask text retry p rest) e keeps in
    record {
      whole = whole_at_star mask text retry after rest at_star;
      come = HasCome_none after rest;
      within = omega (arith, pattern_length mask text retry (42 ∷ after) rest at_star);
    }

step_octet : (mask text : List ℕ) (last_star : Option (Bor (List ℕ) × Bor (List ℕ))) (letter : ℕ)
    (others : List ℕ) (octet : ℕ) (more : List ℕ) → (letter ≡ 42 → ⊥) → StandsFor letter octet
    → Keeps mask text last_star (letter ∷ others) (octet ∷ more) → Keeps mask text last_star others more
step_octet mask text None letter others octet more not_star stands keeps = record {
  whole = (
    λ fits. Matches_past_octet 0 letter others octet more not_star (keeps.whole.0 fits),
    λ fits. keeps.whole.1 (Matches_to_octet stands fits),
  );
  pattern_within = omega (arith, keeps.pattern_within);
  rest_within = omega (arith, keeps.rest_within);
}
step_octet mask text (Some star) letter others octet more not_star stands keeps = record {
  whole = keeps.whole;
  come = record {
    back = λ fits. keeps.come.back (Matches_to_octet stands fits);
    ahead = λ k fits. Matches_past_octet k letter others octet more not_star (keeps.come.ahead k fits);
    pattern_within = omega (arith, keeps.come.pattern_within);
    rest_within = omega (arith, keeps.come.rest_within);
  };
  within = keeps.within;
}

-- no star stands at the front of the mask
abbrev pub NoStar : List ℕ → Type 0
NoStar pattern = (after : List ℕ) → pattern ≡ 42 ∷ after → ⊥

pub Keeps_octet : (mask text : List ℕ) (last_star : Option (Bor (List ℕ) × Bor (List ℕ)))
    (pattern rest others more : List ℕ) → NoStar pattern → AgreesOnFirst pattern rest others more
    → Keeps mask text last_star pattern rest → Keeps mask text last_star others more
Keeps_octet mask text last_star pattern rest others more no_star agrees keeps =
    let not_star : agrees.letter ≡ 42 → ⊥ = λ e. no_star others (agrees.of_mask ∙ ap (λ l. l ∷ others) e) in
    let cut : Keeps mask text last_star (agrees.letter ∷ others) rest = subst
    (λ p. Keeps mask text last_star p rest) agrees.of_mask keeps in
    step_octet mask text last_star agrees.letter others agrees.octet more not_star agrees.stands
    (subst (Keeps mask text last_star (agrees.letter ∷ others)) agrees.of_text cut)

-- no star and no octet that agrees: the mask doesn't fit, unless nothing is left of both
pub stuck : {pattern rest : List ℕ} → Matches pattern rest → NoStar pattern → DiffersOnFirst pattern rest
    → 0 < length pattern + length rest → ⊥
stuck nothing no_star differs some = omega arith
stuck (any_octet fits) no_star differs some =
    differs _ _ (record { letter = _; octet = _; of_mask = refl; of_text = refl; stands = inl refl })
stuck (star_for_none fits) no_star differs some = no_star _ refl
stuck (star_for_more fits) no_star differs some = no_star _ refl
stuck (same_octet e fits) no_star differs some =
    differs _ _ (record { letter = _; octet = _; of_mask = refl; of_text = refl; stands = inr e })

retried : (mask text after from pattern rest : List ℕ) → NoStar pattern
    → DiffersOnFirst pattern rest → 0 < length rest → Retries mask text after from pattern rest
    → Retries mask text after (drop 1 from) after (drop 1 from)
retried mask text after [] pattern rest no_star differs some keeps = absurd (omega (arith, keeps.come.rest_within))
retried mask text after (x ∷ more) pattern rest no_star differs some keeps = record {
  whole = (λ fits. later (Matches_from_star (keeps.whole.0 fits) refl), λ fits. keeps.whole.1 (star_for_more fits));
  come = HasCome_none after more;
  within = keeps.within;
}
  where
    at_place : (k : ℕ) → Matches after (drop k (x ∷ more)) → Matches (42 ∷ after) more
    at_place zero fits = absurd (stuck (keeps.come.ahead 0 fits) no_star differs (omega arith))
    at_place (suc k) fits = Matches_to_star k after more fits

    later : ((k : ℕ) × Matches after (drop k (x ∷ more))) → Matches (42 ∷ after) more
    later first = at_place first.0 first.1

-- the mask after the star doesn't fit where it was last tried, so it is tried one octet further on
pub Keeps_retry : (mask text : List ℕ) (last_star : Option (Bor (List ℕ) × Bor (List ℕ)))
    (star : Bor (List ℕ) × Bor (List ℕ)) (pattern rest : List ℕ) → last_star ≡ Some star → NoStar pattern
    → DiffersOnFirst pattern rest → 0 < length rest → Keeps mask text last_star pattern rest
    → Retries mask text star.0.now (drop 1 star.1.now) star.0.now (drop 1 star.1.now)
Keeps_retry mask text last_star star pattern rest is no_star differs some keeps =
    retried mask text star.0.now star.1.now pattern rest no_star differs some
    (subst (λ s. Keeps mask text s pattern rest) is keeps)

-- without a star there is no other place to try
pub Keeps_fails : (mask text : List ℕ) (last_star : Option (Bor (List ℕ) × Bor (List ℕ))) (pattern rest : List ℕ)
    → last_star ≡ None → NoStar pattern → DiffersOnFirst pattern rest → 0 < length rest
    → Keeps mask text last_star pattern rest → Matches mask text → ⊥
Keeps_fails mask text last_star pattern rest is no_star differs some keeps fits =
    let begins : Begins mask text pattern rest = subst (λ s. Keeps mask text s pattern rest) is keeps in
    stuck (begins.whole.0 fits) no_star differs (omega arith)

fits_at_end : (mask text : List ℕ) (last_star : Option (Bor (List ℕ) × Bor (List ℕ)))
    → Keeps mask text last_star [] [] → Matches mask text
fits_at_end mask text None keeps = keeps.whole.1 nothing
fits_at_end mask text (Some star) keeps = keeps.whole.1 (star_for_none (keeps.come.back nothing))

drop_nothing : (k : ℕ) → drop {A = ℕ} k [] ≡ []
drop_nothing zero = refl
drop_nothing (suc k) = refl

fits_at_end_only : (mask text : List ℕ) (last_star : Option (Bor (List ℕ) × Bor (List ℕ))) (pattern : List ℕ)
    → Keeps mask text last_star pattern [] → Matches mask text → Matches pattern []
fits_at_end_only mask text None pattern keeps fits = keeps.whole.0 fits
fits_at_end_only mask text (Some star) pattern keeps fits =
    let first = Matches_from_star (keeps.whole.0 fits) refl in
    subst (Matches pattern) (drop_nothing first.0) (keeps.come.ahead first.0 first.1)

-- nothing is left of the text, so the mask fits if nothing is left of it
pub Keeps_ends : (mask text : List ℕ) (last_star : Option (Bor (List ℕ) × Bor (List ℕ))) (pattern rest : List ℕ)
    → NoStar pattern → DiffersOnFirst pattern rest → length rest ≡ 0 → Keeps mask text last_star pattern rest
    → (length pattern ≡ 0) ↔ Matches mask text
Keeps_ends mask text last_star [] [] no_star differs none keeps =
    (λ e. fits_at_end mask text last_star keeps, λ fits. refl)
Keeps_ends mask text last_star (letter ∷ others) [] no_star differs none keeps = (
  λ e. absurd (omega arith),
  λ fits. absurd
      (stuck (fits_at_end_only mask text last_star (letter ∷ others) keeps fits) no_star differs (omega arith)),
)
Keeps_ends mask text last_star pattern (x ∷ rest) no_star differs none keeps = absurd (omega arith)
