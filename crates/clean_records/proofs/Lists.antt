-- Of lists: what holds of each, holds of each after they are put together, and texts that are cut into lines.
use Rattle.std.proofs.Common.{ℕ, Bool, List, [], ◌∷◌, ◌++◌, map, filter, flat_map}
use Rattle.std.proofs.Common.{IfSome, Some, find, refl, sym, subst, inl, inr}
use Rattle.std.specs.List.{AllByRecursion}
use Rattle.std.proofs.lemmas.Bool.{and_from, and_parts, cases_Bool, cond_both}
use Rattle.numerics.specs.Cut.{cut_lines, lines_with, takes}
use Rattle.numerics.proofs.Cuts.{filled-full, filled-more}
use Rattle.clean_records.proofs.Texts.{AreTexts, one, texts-both}
use Rattle.clean_records.specs.Clean.{IsText}

module _ {X : Type 0} (P : X → Type 0) where
  pub all-both : (xs ys : List X) → AllByRecursion P xs → AllByRecursion P ys → AllByRecursion P (xs ++ ys)
  all-both [] ys a b = b
  all-both (x ∷ xs) ys a b = (a.0, all-both xs ys a.1 b)

  pub all-map : {Y : Type 0} (f : Y → X) (ys : List Y) → AllByRecursion (λ y. P (f y)) ys → AllByRecursion P (map f ys)
  all-map f [] are = tt
  all-map f (y ∷ ys) are = (are.0, all-map f ys are.1)

  pub each-map : {Y : Type 0} (f : Y → X) → ((y : Y) → P (f y)) → (ys : List Y) → AllByRecursion P (map f ys)
  each-map f is [] = tt
  each-map f is (y ∷ ys) = (is y, each-map f is ys)

  pub all-flat : {Y : Type 0} (Q : Y → Type 0) (f : Y → List X) → ((y : Y) → Q y → AllByRecursion P (f y))
      → (ys : List Y) → AllByRecursion Q ys → AllByRecursion P (flat_map f ys)
  all-flat Q f is [] are = tt
  all-flat Q f is (y ∷ ys) are = all-both (f y) (flat_map f ys) (is y are.0) (all-flat Q f is ys are.1)

  pub each-flat : {Y : Type 0} (f : Y → List X) → ((y : Y) → AllByRecursion P (f y)) → (ys : List Y)
      → AllByRecursion P (flat_map f ys)
  each-flat f is [] = tt
  each-flat f is (y ∷ ys) = all-both (f y) (flat_map f ys) (is y) (each-flat f is ys)

  pub all-filter : (p : X → Bool) (xs : List X) → AllByRecursion P xs → AllByRecursion P (filter p xs)
  all-filter p [] are = tt
  all-filter p (x ∷ xs) are =
      cond_both (p x) _ _ (AllByRecursion P) (λ _. (are.0, all-filter p xs are.1)) (λ _. all-filter p xs are.1)

  pub find-is : (p : X → Bool) (xs : List X) → AllByRecursion P xs → IfSome (find p xs) P
  find-is p [] are = tt
  find-is p (x ∷ xs) are =
      cond_both (p x) (Some x) (find p xs) (λ o. IfSome o P) (λ _. are.0) (λ _. find-is p xs are.1)

pub all-texts : (ts : List (List ℕ)) → AreTexts ts → AllByRecursion IsText ts
all-texts [] are = tt
all-texts (t ∷ ts) are = let parts = and_parts _ _ are in (parts.0, all-texts ts parts.1)

pub texts-all : (ts : List (List ℕ)) → AllByRecursion IsText ts → AreTexts ts
texts-all [] are = refl
texts-all (t ∷ ts) are = and_from _ _ are.0 (texts-all ts are.1)

-- ---- lines of words

filled-texts : (room most : ℕ) (line words : List (List ℕ)) → AreTexts line → AreTexts words
    → AllByRecursion AreTexts (lines_with room most line words)
filled-texts room most line [] a b = (a, tt)
filled-texts room most line (w ∷ ws) a b =
    let parts = and_parts _ _ b in
    elim (cases_Bool (takes room most line w)) [
      | inl e ↦ subst (AllByRecursion AreTexts) (sym (filled-more room most line w ws e)) (filled-texts room most
          (line ++ w ∷ []) ws (texts-both line (w ∷ []) a (one w parts.0)) parts.1)
      | inr e ↦ subst (AllByRecursion AreTexts) (sym (filled-full room most line w ws e)) (
        a,
        filled-texts room most
            (w ∷ []) ws (one w parts.0) parts.1,
      )
    ]

pub cut-texts : (room most : ℕ) (words : List (List ℕ)) → AreTexts words
    → AllByRecursion AreTexts (cut_lines room most words)
unfolding cut_lines
cut-texts room most [] are = tt
cut-texts room most (w ∷ ws) are =
    let parts = and_parts _ _ are in filled-texts room most (w ∷ []) ws (one w parts.0) parts.1
