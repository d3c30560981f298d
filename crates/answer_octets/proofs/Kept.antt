-- What passes a test octet by octet passes it in each of its parts: for the texts that commands take out of
-- parameters.
use Rattle.std.proofs.Common.{◌≡◌, ℕ, Bool, true, List, [], ◌∷◌, filter, take, zero, suc, refl, ◌∙◌}
use Rattle.std.specs.List.{flat_map, list_all, onto_first, slice_split}
use Rattle.std.proofs.lemmas.Bool.{and_from, and_parts, cond_both}
use Rattle.std.proofs.lemmas.List.Folds.{list_all-append}
use Rattle.line_grammar.specs.Spelling.{is_text_octet}
use Rattle.numerics.specs.Numerics.{names_text}

pub take-kept : (p : ℕ → Bool) (n : ℕ) (xs : List ℕ) → list_all p xs ≡ true → list_all p (take n xs) ≡ true
take-kept p zero xs all = refl
take-kept p (suc n) [] all = refl
take-kept p (suc n) (x ∷ xs) all = let parts = and_parts _ _ all in and_from _ _ parts.0 (take-kept p n xs parts.1)

pub filter-kept : (p q : ℕ → Bool) (xs : List ℕ) → list_all p xs ≡ true → list_all p (filter q xs) ≡ true
filter-kept p q [] all = refl
filter-kept p q (x ∷ xs) all =
    let parts = and_parts _ _ all in
    cond_both (q x) _ _ (λ ys. list_all p ys ≡ true) (λ _. and_from _ _ parts.0 (filter-kept p q xs parts.1))
    (λ _. filter-kept p q xs parts.1)

-- a list's own filter keeps texts
pub filter-all : (p : List ℕ → Bool) (q : List ℕ → Bool) (ls : List (List ℕ)) → list_all p ls ≡ true
    → list_all p (filter q ls) ≡ true
filter-all p q [] all = refl
filter-all p q (l ∷ ls) all =
    let parts = and_parts _ _ all in
    cond_both (q l) _ _ (λ ks. list_all p ks ≡ true) (λ _. and_from _ _ parts.0 (filter-all p q ls parts.1))
    (λ _. filter-all p q ls parts.1)

onto-kept : (p : ℕ → Bool) (x : ℕ) (ps : List (List ℕ)) → p x ≡ true → list_all (list_all p) ps ≡ true
    → list_all (list_all p) (onto_first x ps) ≡ true
onto-kept p x [] one all = and_from _ _ (and_from _ _ one refl) refl
onto-kept p x (q ∷ qs) one all =
    let parts = and_parts _ _ all in and_from _ _ (and_from _ _ one parts.0) parts.1

-- the parts between any separators
pub split-kept : (p q : ℕ → Bool) (xs : List ℕ) → list_all p xs ≡ true
    → list_all (list_all p) (slice_split q xs) ≡ true
split-kept p q [] all = refl
split-kept p q (x ∷ xs) all =
    let parts = and_parts _ _ all in let later = split-kept p q xs parts.1 in
    cond_both (q x) _ _ (λ ps. list_all (list_all p) ps ≡ true) (λ _. later) (λ _. onto-kept p x _ parts.0 later)

after-kept : (names : List (List ℕ)) → list_all (list_all is_text_octet) names ≡ true
    → list_all is_text_octet (flat_map (λ name. 32 ∷ name) names) ≡ true
after-kept [] all = refl
after-kept (n ∷ ns) all =
    let parts = and_parts _ _ all in
    list_all-append is_text_octet n (flat_map (λ name. 32 ∷ name) ns) ∙ and_from _ _ parts.0 (after-kept ns parts.1)

-- words in a row
pub spaced-kept : (names : List (List ℕ)) → list_all (list_all is_text_octet) names ≡ true
    → list_all is_text_octet (names_text names) ≡ true
spaced-kept [] all = refl
spaced-kept (n ∷ ns) all =
    let parts = and_parts _ _ all in
    list_all-append is_text_octet n (flat_map (λ name. 32 ∷ name) ns) ∙ and_from _ _ parts.0 (after-kept ns parts.1)
