-- A line cut at its first space.
use Rattle.std.proofs.Common.{◌≡◌, ℕ, ◌+◌, ◌-◌, ◌<◌, ◌≤◌, Bool, true, false, cond, List, [], ◌∷◌, ◌++◌, length, take}
use Rattle.std.proofs.Common.{drop, suc, refl, ap, sym, ◌∙◌, inl, inr, arith, eqb, ltb, not, length-drop}
use Rattle.std.specs.Prelude.{Some, None}
use Rattle.std.specs.List.{position, position_or_len}
use Rattle.std.proofs.lemmas.Bool.{cases_Bool, ltb-true, ltb-false}
use Rattle.std.proofs.lemmas.List.Recursion.{is_position_or_len}
use Rattle.std.proofs.lemmas.List.{take_rest, take_all, drop_all}
use Rattle.std.proofs.lemmas.List.Sums.{prefix_len-le-length}
use Rattle.line_grammar.specs.Lines.{after_space, before_space}

pub length-before_space : (xs : List ℕ) → length (before_space xs) ≡ position_or_len (λ b. eqb b 32) xs
length-before_space =
    is_position_or_len (λ ys. length (before_space ys)) (λ b. eqb b 32) refl
    (λ b bs. elim (eqb b 32) as (λ c. length (cond c [] (b ∷ before_space bs))
    ≡ cond c 0 (1 + length (before_space bs))) [ true ↦ refl | false ↦ omega arith ])

pub before_space-take : (xs : List ℕ) → take (length (before_space xs)) xs ≡ before_space xs
before_space-take [] = refl
before_space-take (b ∷ bs) =
    elim (cases_Bool (eqb b 32)) [
      | inl is ↦ rw is refl
      | inr not ↦ rw not (ap (λ t. b ∷ t) (before_space-take bs))
    ]

pub after_space-drop : (xs : List ℕ) → drop (suc (length (before_space xs))) xs ≡ after_space xs
after_space-drop [] = refl
after_space-drop (b ∷ bs) =
    elim (cases_Bool (eqb b 32)) [
      | inl is ↦ rw is refl
      | inr not ↦ rw not (after_space-drop bs)
    ]

pub length-before_space-le : (xs : List ℕ) → length (before_space xs) ≤ length xs
length-before_space-le [] = omega arith
length-before_space-le (b ∷ bs) =
    elim (cases_Bool (eqb b 32)) [
      | inl is ↦ rw is (omega arith)
      | inr not ↦ rw not (omega (arith, length-before_space-le bs))
    ]

pub length-after_space : (xs : List ℕ) → length (after_space xs) ≡ length xs - (length (before_space xs) + 1)
length-after_space xs = rw (← after_space-drop xs) (simp length-drop (omega arith))

-- a line in two pieces
pub before_space-append_none : (xs ys : List ℕ) → length (before_space xs) ≡ length xs
    → length (before_space (xs ++ ys)) ≡ length xs + length (before_space ys)
before_space-append_none [] ys e = omega arith
before_space-append_none (b ∷ bs) ys e =
    elim (cases_Bool (eqb b 32)) [
      | inl is ↦ let no : 0 ≡ suc (length bs) = rw is at e in absurd (omega arith)
      | inr not ↦
          let more : length (before_space bs) ≡ length bs = let x : suc (length (before_space bs))
          ≡ suc (length bs) = rw not at e in omega arith in
          rw not (omega (arith, before_space-append_none bs ys more))
    ]

pub before_space-append_some : (xs ys : List ℕ) → length (before_space xs) < length xs
    → length (before_space (xs ++ ys)) ≡ length (before_space xs)
before_space-append_some [] ys l = absurd (omega arith)
before_space-append_some (b ∷ bs) ys l =
    elim (cases_Bool (eqb b 32)) [
      | inl is ↦ rw is refl
      | inr not ↦
          let more : length (before_space bs) < length bs = let x : suc (length (before_space bs))
          < suc (length bs) = rw not at l in omega arith in
          rw not (ap suc (before_space-append_some bs ys more))
    ]

-- ---- what an answer of `position` says

pub position_some : (p : ℕ → Bool) (xs : List ℕ) (i : ℕ) → position p xs ≡ Some i → (position_or_len p xs ≡ i)
    × (i < length xs)
position_some p xs i e =
    elim (cases_Bool (ltb (position_or_len p xs) (length xs))) [
      | inl is ↦
          let at_i : Some (position_or_len p xs) ≡ Some i = rw is at e in
          let same : position_or_len p xs ≡ i = cc in
          (same, let l = ltb-true (position_or_len p xs) (length xs) is in omega (arith, same))
      | inr not ↦ let no : None ≡ Some i = rw not at e in (cc, absurd (cc))
    ]

pub position_none : (p : ℕ → Bool) (xs : List ℕ) → position p xs ≡ None → position_or_len p xs ≡ length xs
position_none p xs e =
    elim (cases_Bool (ltb (position_or_len p xs) (length xs))) [
      | inl is ↦ let no : Some (position_or_len p xs) ≡ None = rw is at e in cc
      | inr past ↦ let l = ltb-false (position_or_len p xs) (length xs) past in
          omega (arith, prefix_len-le-length (λ x. not (p x)) xs)
    ]

-- where the first space is
pub before_space-some : (xs : List ℕ) (i : ℕ) → position (λ b. eqb b 32) xs ≡ Some i → take i xs ≡ before_space xs
before_space-some xs i e =
    let at_i = position_some (λ b. eqb b 32) xs i e in
    ap (λ (n : ℕ). take n xs) (sym at_i.0 ∙ sym (length-before_space xs)) ∙ before_space-take xs

pub after_space-some : (xs : List ℕ) (i : ℕ) → position (λ b. eqb b 32) xs ≡ Some i
    → take (length xs - (i + 1)) (drop (i + 1) xs) ≡ after_space xs
after_space-some xs i e =
    let at_i = position_some (λ b. eqb b 32) xs i e in
    let here : i + 1 ≡ suc (length (before_space xs)) = omega (arith, at_i.0, length-before_space xs) in
    take_rest xs (i + 1) ∙ ap (λ (n : ℕ). drop n xs) here ∙ after_space-drop xs

pub before_space-whole : (xs : List ℕ) → position (λ b. eqb b 32) xs ≡ None → xs ≡ before_space xs
before_space-whole xs e =
    let len : length xs ≡ length (before_space xs) = sym (position_none (λ b. eqb b 32) xs e)
    ∙ sym (length-before_space xs) in
    sym (take_all (length xs) xs (omega arith)) ∙ ap (λ (n : ℕ). take n xs) len ∙ before_space-take xs

pub after_space-empty : (xs : List ℕ) → position (λ b. eqb b 32) xs ≡ None → [] ≡ after_space xs
after_space-empty xs e =
    let len : length xs ≡ length (before_space xs) = sym (position_none (λ b. eqb b 32) xs e)
    ∙ sym (length-before_space xs) in
    sym (drop_all (suc (length (before_space xs))) xs (omega (arith, len))) ∙ after_space-drop xs

pub ruleset cuts = (before_space-some, after_space-some, before_space-whole, after_space-empty)
