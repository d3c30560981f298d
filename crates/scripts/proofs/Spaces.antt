-- The first space of a text parts it.
use Rattle.std.proofs.Common.{◌≡◌, ◌≢◌, ℕ, ◌<◌, zero, suc, List, [], ◌∷◌, length, take, drop}
use Rattle.std.proofs.Common.{get_or, refl, sym, ap, ◌∙◌, arith, ◌+◌, ◌-◌, add-one}
use Rattle.std.proofs.Math.Seq.{take-length}
use Rattle.std.proofs.lemmas.List.{length-drop}
use Rattle.std.proofs.lemmas.Bool.{eq-eqb, ne_eqb, cond-true, cond-false}
use Rattle.line_grammar.specs.Lines.{before_space, after_space}

pub before_first : (xs : List ℕ) (i : ℕ) → i < length xs → ((k : ℕ) → k < i → get_or xs k 0 ≢ 32)
    → get_or xs i 0 ≡ 32 → before_space xs ≡ take i xs
before_first [] i lt free at = absurd (omega arith)
before_first (x ∷ xs) zero lt free at = cond-true _ _ _ (eq-eqb x 32 at)
before_first (x ∷ xs) (suc i) lt free at =
    cond-false _ _ _ (ne_eqb x 32 (free 0 (omega arith))) ∙ ap
    (λ ys. x ∷ ys) (before_first xs i (omega arith) (λ k h. free (suc k) (omega arith)) at)

after_first : (xs : List ℕ) (i : ℕ) → i < length xs → ((k : ℕ) → k < i → get_or xs k 0 ≢ 32) → get_or xs i 0 ≡ 32
    → after_space xs ≡ drop (suc i) xs
after_first [] i lt free at = absurd (omega arith)
after_first (x ∷ xs) zero lt free at = cond-true _ _ _ (eq-eqb x 32 at)
after_first (x ∷ xs) (suc i) lt free at =
    cond-false _ _ _ (ne_eqb x 32 (free 0 (omega arith))) ∙ after_first xs i (omega arith)
    (λ k h. free (suc k) (omega arith)) at

pub after_at : (xs : List ℕ) (i : ℕ) → i < length xs → ((k : ℕ) → k < i → get_or xs k 0 ≢ 32) → get_or xs i 0 ≡ 32
    → after_space xs ≡ drop (i + 1) xs
after_at xs i lt free at = rw add-one (after_first xs i lt free at)

pub before_none : (xs : List ℕ) → ((k : ℕ) → k < length xs → get_or xs k 0 ≢ 32) → xs ≡ before_space xs
before_none [] free = refl
before_none (x ∷ xs) free =
    ap (λ ys. x ∷ ys) (before_none xs (λ k h. free (suc k) (omega arith)))
    ∙ sym (cond-false _ _ _ (ne_eqb x 32 (free 0 (omega arith))))

pub after_none : (xs : List ℕ) → ((k : ℕ) → k < length xs → get_or xs k 0 ≢ 32) → [] ≡ after_space xs
after_none [] free = refl
after_none (x ∷ xs) free = after_none xs (λ k h. free (suc k) (omega arith))
    ∙ sym (cond-false _ _ _ (ne_eqb x 32 (free 0 (omega arith))))

-- a range up to the end
pub whole : (xs : List ℕ) (k : ℕ) → take (length xs - k) (drop k xs) ≡ drop k xs
whole xs k = ap (λ n. take n (drop k xs)) (sym (length-drop k xs)) ∙ take-length (drop k xs)
