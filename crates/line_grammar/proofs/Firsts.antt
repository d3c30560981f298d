-- The first parameter of a message, and those after it.
use Rattle.std.proofs.Common.{◌≡◌, ℕ, ◌-◌, ◌<◌, ◌≤◌, Bool, true, false, ◌||◌, not, List, [], ◌∷◌, length}
use Rattle.std.proofs.Common.{suc, zero, refl, ap, sym, ◌∙◌, ◌⊎◌, inl, inr, arith, eqb}
use Rattle.std.proofs.lemmas.Bool.{cases_Bool}
use Rattle.line_grammar.specs.Lines.{after_space, before_space}
use Rattle.line_grammar.specs.Reading.{begins_with, without_spaces, parameters, last_parameter}
use Rattle.line_grammar.proofs.Middles.{parameters-without_spaces, parameters-middle}
use Rattle.line_grammar.proofs.Middles.{parameters-last, without_spaces-twice}
use Rattle.line_grammar.proofs.Spaces.{length-before_space-le}

-- where nothing is left, there is no parameter
pub none_left : (n : ℕ) → (parameters n []).0 ≡ []
unfolding parameters
none_left zero = refl
none_left (suc n) = refl

pub middle_first : (n : ℕ) (bs s : List ℕ) → s ≡ without_spaces bs → 0 < n
    → not (begins_with 58 s || eqb (length s) 0) ≡ true → (parameters n bs).0
    ≡ before_space s ∷ (parameters (n - 1) (after_space s)).0
middle_first zero bs s e l m = absurd (omega arith)
middle_first (suc n) bs s e l m =
    let trimmed : without_spaces s ≡ s = ap without_spaces e ∙ without_spaces-twice bs ∙ sym e in
    let less : suc n - 1 ≡ n = omega arith in
    ap (λ (ps : List (List ℕ) × Bool). ps.0) (sym (parameters-without_spaces (suc n) bs)
    ∙ ap (parameters (suc n)) (sym e) ∙ parameters-middle n s trimmed m)
    ∙ ap (λ (k : ℕ). before_space s ∷ (parameters k (after_space s)).0) (sym less)

pub last_first : (n : ℕ) (bs s : List ℕ) → s ≡ without_spaces bs → (n ≡ 0)
    ⊎ (not (begins_with 58 s || eqb (length s) 0) ≡ false) → (parameters n bs).0 ≡ (last_parameter s).0
last_first n bs s e none =
    let trimmed : without_spaces s ≡ s = ap without_spaces e ∙ without_spaces-twice bs ∙ sym e in
    ap (λ (ps : List (List ℕ) × Bool). ps.0)
    (sym (parameters-without_spaces n bs) ∙ ap (parameters n) (sym e) ∙ parameters-last n s trimmed none)

pub without_spaces-length : (bs : List ℕ) → length (without_spaces bs) ≤ length bs
without_spaces-length [] = omega arith
without_spaces-length (b ∷ bs) =
    elim (cases_Bool (eqb b 32)) [
      | inl is ↦ rw is (omega (arith, without_spaces-length bs))
      | inr other ↦ rw other (omega arith)
    ]

pub ruleset firsts = (none_left, middle_first, last_first, without_spaces-length, length-before_space-le)
