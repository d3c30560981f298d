-- Digests that are the same octet by octet.
use Rattle.std.proofs.Common.{◌≡◌, ℕ, ◌+◌, Bool, true, false, not, ◌&&◌, cond, eqb, List, [], ◌∷◌}
use Rattle.std.proofs.Common.{length, refl, ap, sym, ◌∙◌, zero-add, inl, inr, arith, count_by}
use Rattle.std.specs.List.{zip}
use Rattle.std.specs.Str.{bytes_eq}
use Rattle.std.proofs.lemmas.List.Sums.{sum_by-cons}
use Rattle.std.proofs.lemmas.Bool.Decides.{nat_tests}

abbrev differs : ℕ × ℕ → Bool
differs pair = not (eqb pair.0 pair.1)

-- one place more
one_more : (b r : Bool) (n : ℕ) → eqb n 0 ≡ r → eqb (cond (not b) 1 0 + n) 0 ≡ (b && r)
one_more true r n e = rw zero-add e
one_more false r n e = grind (arith, nat_tests)

-- where no place differs, all is the same
pub no_differences : (a b : List ℕ) → length a ≡ length b → eqb (count_by differs (zip a b)) 0 ≡ bytes_eq a b
no_differences [] [] e = refl
no_differences [] (y ∷ ys) e = absurd (omega arith)
no_differences (x ∷ xs) [] e = absurd (omega arith)
no_differences (x ∷ xs) (y ∷ ys) e =
    ap (λ n. eqb n 0) (sum_by-cons (λ (pair : ℕ × ℕ). cond (differs pair) 1 0) (x, y) (zip xs ys))
    ∙ one_more (eqb x y) (bytes_eq xs ys) (count_by differs (zip xs ys)) (no_differences xs ys (omega arith))
