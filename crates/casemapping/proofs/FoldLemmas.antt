-- A folded name is its own fold.
use Rattle.std.proofs.Common.{◌≡◌, ℕ, ◌<◌, List, [], ◌∷◌, length, get_or, refl, arith, ap, sym, ◌∙◌}
use Rattle.std.proofs.lemmas.List.{ext_get_or, length-map, get_or-map}
use Rattle.std.proofs.lemmas.Bool.Decides.{nat_tests}
use Rattle.casemapping.specs.Fold.{fold_of, name_fold}

pub fold_of-fold_of : (octet : ℕ) → fold_of (fold_of octet) ≡ fold_of octet
unfolding fold_of
fold_of-fold_of octet = grind (arith, nat_tests)

pub folded-folded : (name : List ℕ) → name_fold (name_fold name) ≡ name_fold name
folded-folded [] = refl
folded-folded (octet ∷ name) = grind (arith, fold_of-fold_of, folded-folded name)

pub folded_same_from_places : (a b : List ℕ) → length a ≡ length b →
    ((k : ℕ) → k < length a → fold_of (get_or a k 0) ≡ fold_of (get_or b k 0)) → name_fold a ≡ name_fold b
folded_same_from_places a b long each =
    ext_get_or 0 (name_fold a) (name_fold b) (length-map a fold_of ∙ long ∙ sym (length-map b fold_of)) (λ k below.
    let inside : k < length a = omega (arith, length-map a fold_of) in
    get_or-map fold_of a k 0 0 inside ∙ each k inside ∙ sym (get_or-map fold_of b k 0 0 (omega arith)))

pub folded_same_lengths : (a b : List ℕ) → name_fold a ≡ name_fold b → length a ≡ length b
folded_same_lengths a b same = sym (length-map a fold_of) ∙ ap length same ∙ length-map b fold_of

pub folded_same_places : (a b : List ℕ) → name_fold a ≡ name_fold b → (k : ℕ) → k < length a
    → fold_of (get_or a k 0) ≡ fold_of (get_or b k 0)
folded_same_places a b same k inside =
    let long : length a ≡ length b = folded_same_lengths a b same in
    sym (get_or-map fold_of a k 0 0 inside) ∙ ap (λ xs. get_or xs k 0) same ∙ get_or-map fold_of b k 0 0 (omega arith)
