-- A text cut at its first separator.
use Rattle.std.proofs.Common.{◌≡◌, ℕ, ◌+◌, ◌-◌, ◌<◌, Bool, List, [], ◌∷◌, length, take, drop, suc}
use Rattle.std.proofs.Common.{refl, ap, sym, ◌∙◌, inl, inr, arith, eqb, ltb, not}
use Rattle.std.specs.Prelude.{Some, None}
use Rattle.std.specs.List.{position, position_or_len, slice_split, onto_first}
use Rattle.std.proofs.lemmas.Bool.{cases_Bool, ltb-true, ltb-false}
use Rattle.std.proofs.lemmas.List.{take_rest}
use Rattle.std.proofs.lemmas.List.Sums.{prefix_len-le-length}
use Rattle.std.proofs.lemmas.List.Splits.{slice_split_first}
use Rattle.line_grammar.specs.Parts.{parts}

found : (p : ℕ → Bool) (xs : List ℕ) (i : ℕ) → position p xs ≡ Some i → (position_or_len p xs ≡ i) × (i < length xs)
found p xs i e =
    elim (cases_Bool (ltb (position_or_len p xs) (length xs))) [
      | inl is ↦
          let at_i : Some (position_or_len p xs) ≡ Some i = rw is at e in
          let same : position_or_len p xs ≡ i = cc in
          (same, let l = ltb-true (position_or_len p xs) (length xs) is in omega (arith, same))
      | inr not ↦ let no : None ≡ Some i = rw not at e in (cc, absurd (cc))
    ]

absent : (p : ℕ → Bool) (xs : List ℕ) → position p xs ≡ None → position_or_len p xs ≡ length xs
absent p xs e =
    elim (cases_Bool (ltb (position_or_len p xs) (length xs))) [
      | inl is ↦ let no : Some (position_or_len p xs) ≡ None = rw is at e in cc
      | inr past ↦ let l = ltb-false (position_or_len p xs) (length xs) past in
          omega (arith, prefix_len-le-length (λ x. not (p x)) xs)
    ]

one_part : (p : ℕ → Bool) (xs : List ℕ) → position_or_len p xs ≡ length xs → slice_split p xs ≡ xs ∷ []
one_part p [] e = refl
one_part p (x ∷ xs) e =
    elim (cases_Bool (p x)) [
      | inl is ↦ let no : 0 ≡ suc (length xs) = rw is at e in absurd (omega arith)
      | inr isnt ↦
          let more : position_or_len p xs ≡ length xs = let long : 1 + position_or_len p xs
          ≡ suc (length xs) = rw isnt at e in omega arith in
          rw isnt (ap (onto_first x) (one_part p xs more))
    ]

pub parts-some : (separator : ℕ) (xs : List ℕ) (i : ℕ) → position (λ b. eqb b separator) xs ≡ Some i
    → parts separator xs ≡ take i xs ∷ parts separator (take (length xs - (i + 1)) (drop (i + 1) xs))
parts-some separator xs i e =
    let p : ℕ → Bool = λ b. eqb b separator in
    let at_i = found p xs i e in
    let cut = slice_split_first p xs 0 (omega (arith, at_i.0, at_i.1)) in
    let moved : (n : ℕ) → n ≡ i → take n xs ∷ parts separator (drop (n + 1) xs) ≡ take i xs ∷ parts separator
    (drop (i + 1) xs) = λ n same. ap (λ (n : ℕ). take n xs ∷ parts separator (drop (n + 1) xs)) same in
    cut ∙ moved (position_or_len p xs) at_i.0 ∙ ap (λ rest. take i xs ∷ parts separator rest)
    (sym (take_rest xs (i + 1)))

pub parts-none : (separator : ℕ) (xs : List ℕ) → position (λ b. eqb b separator) xs ≡ None
    → parts separator xs ≡ xs ∷ []
parts-none separator xs e = one_part (λ b. eqb b separator) xs (absent (λ b. eqb b separator) xs e)

pub ruleset cuts = (parts-some, parts-none)
