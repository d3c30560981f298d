-- How long a line is in its two parts.
use Rattle.std.proofs.Common.{◌≡◌, ℕ, ◌+◌, ◌-◌, ◌≤◌, Bool, true, false, cond, ◌||◌, List, [], ◌∷◌, ◌++◌, length}
use Rattle.std.proofs.Common.{append-nil, suc, refl, ap, sym, ◌∙◌, inl, inr, arith, eqb, ltb, length-append}
use Rattle.std.specs.Prelude.{nat_lt}
use Rattle.std.proofs.lemmas.Bool.{cases_Bool, or_parts, or_right, or_left, or_cases}
use Rattle.std.proofs.lemmas.Bool.{eqb-true, ltb-true, ltb-false, lt-ltb, le-ltb}
use Rattle.line_grammar.specs.Lines.{after_space, before_space, is_too_long, kept_of}
use Rattle.line_grammar.specs.Steps.{kept_with}
use Rattle.line_grammar.specs.Reading.{begins_with}
use Rattle.line_grammar.proofs.Spaces.{length-after_space, length-before_space-le}

ltb_grows : (k m n : ℕ) → m ≤ n → ltb k m ≡ true → ltb k n ≡ true
ltb_grows k m n l t = let h = ltb-true k m t in lt-ltb k n (omega arith)

ltb-suc : (k n : ℕ) → ltb (suc k) (suc n) ≡ ltb k n
ltb-suc k n = elim (cases_Bool (ltb k n)) [
  | inl is ↦ let h = ltb-true k n is in lt-ltb (suc k) (suc n) (omega arith) ∙ sym is
  | inr not ↦ let h = ltb-false k n not in le-ltb (suc k) (suc n) (omega arith) ∙ sym not
]

before_space-grows : (xs ys : List ℕ) → length (before_space xs) ≤ length (before_space (xs ++ ys))
before_space-grows [] ys = omega arith
before_space-grows (b ∷ bs) ys =
    elim (eqb b 32) as (λ c. length (cond c [] (b ∷ before_space bs)) ≤ length (cond c []
    (b ∷ before_space (bs ++ ys)))) [ true ↦ omega arith | false ↦ omega (arith, before_space-grows bs ys) ]

after_space-grows : (xs ys : List ℕ) → length (after_space xs) ≤ length (after_space (xs ++ ys))
after_space-grows [] ys = omega arith
after_space-grows (b ∷ bs) ys =
    elim (eqb b 32) as (λ c. length (cond c bs (after_space bs)) ≤ length (cond c (bs ++ ys)
    (after_space (bs ++ ys)))) [ true ↦ omega (arith, length-append bs ys) | false ↦ after_space-grows bs ys ]

-- what is too long stays too long
pub is_too_long-append : (xs ys : List ℕ) → is_too_long xs ≡ true → is_too_long (xs ++ ys) ≡ true
is_too_long-append [] ys t = cc
is_too_long-append (b ∷ bs) ys t =
    elim (cases_Bool (eqb b 64)) [
      | inl tagged ↦ rw tagged (elim
          (or_cases (ltb 4094 (length (before_space bs))) (ltb 510 (length (after_space bs))) (rw tagged at t)) [
            | inl front ↦ or_left _ _ (ltb_grows 4094 _ _ (before_space-grows bs ys) front)
            | inr back ↦ or_right _ _ (ltb_grows 510 _ _ (after_space-grows bs ys) back)
          ])
      | inr untagged ↦ rw untagged (ltb_grows 510 (suc (length bs)) (suc (length (bs ++ ys)))
          (omega (arith, length-append bs ys)) (rw untagged at t))
    ]

pub kept_with-kept_of : (line bs : List ℕ) → kept_with (kept_of line) bs ≡ kept_of (line ++ bs)
kept_with-kept_of line bs =
    elim (cases_Bool (is_too_long line)) [
      | inl is ↦ rw (is, is_too_long-append line bs is) refl
      | inr not ↦ rw not refl
    ]

less_more : (k m n : ℕ) → m ≡ n - (k + 1) → ltb 510 m ≡ ltb 511 (n - k)
less_more k m n e =
    elim (cases_Bool (ltb 510 m)) [
      | inl is ↦ let h = ltb-true 510 m is in is ∙ sym (lt-ltb 511 (n - k) (omega arith))
      | inr not ↦ let h = ltb-false 510 m not in not ∙ sym (le-ltb 511 (n - k) (omega arith))
    ]

-- the two limits by lengths alone: of a line that begins with `@` or doesn't, and what stands before its first space
abbrev pub is_over : Bool → ℕ → ℕ → Bool
is_over tagged len word = cond tagged (nat_lt 4095 word || nat_lt 511 (len - word)) (nat_lt 510 len)

pub is_too_long-lengths : (line : List ℕ) → is_too_long line
    ≡ is_over (begins_with 64 line) (length line) (length (before_space line))
is_too_long-lengths [] = refl
is_too_long-lengths (b ∷ bs) =
    elim (cases_Bool (eqb b 64)) [
      | inl tagged ↦
          let not_space : eqb b 32 ≡ false = rw (eqb-true b 64 tagged) refl in
          let word = length (before_space bs) in
          let after : length (after_space bs) ≡ suc (length bs) - (suc word + 1) = length-after_space bs
          ∙ omega arith in
          rw (tagged, not_space) (
          ap (λ c. c || ltb 510 (length (after_space bs))) (sym (ltb-suc 4094 word))
          ∙ ap (λ c. ltb 4095 (suc word) || c) (less_more (suc word) (length (after_space bs)) (suc (length bs)) after)
          )
      | inr untagged ↦ rw untagged refl
    ]

pub ruleset limits = (is_too_long-lengths, append-nil)

pub length-bound : (line : List ℕ) → is_too_long line ≡ false → length line ≤ 4606
length-bound [] n = omega arith
length-bound (b ∷ bs) n =
    elim (cases_Bool (eqb b 64)) [
      | inl tagged ↦
          let parts = or_parts (ltb 4094 (length (before_space bs))) (ltb 510 (length (after_space bs)))
          (rw tagged at n) in
          let front = ltb-false 4094 (length (before_space bs)) parts.0 in
          let back = ltb-false 510 (length (after_space bs)) parts.1 in
          omega (arith, length-after_space bs, length-before_space-le bs)
      | inr untagged ↦ let h = ltb-false 510 (suc (length bs)) (rw untagged at n) in omega arith
    ]
