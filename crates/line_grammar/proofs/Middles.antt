-- The parameters of a message, one by one.
use Rattle.std.proofs.Common.{◌≡◌, ℕ, ◌+◌, ◌-◌, ◌<◌, ◌≤◌, Bool, true, false, ◌||◌, not, List, [], ◌∷◌, ◌++◌, length}
use Rattle.std.proofs.Common.{suc, zero, refl, ap, sym, ◌∙◌, ◌⊎◌, inl, inr, arith, eqb, append_assoc}
use Rattle.std.proofs.lemmas.Bool.{cases_Bool, not-true, not-false}
use Rattle.std.proofs.lemmas.List.{length_push}
use Rattle.line_grammar.specs.Lines.{after_space, before_space}
use Rattle.line_grammar.specs.Reading.{begins_with, without_spaces, parameters, last_parameter}

-- parameters found before others
abbrev pub with_front : List (List ℕ) → List (List ℕ) × Bool → List (List ℕ) × Bool
with_front front more = (front ++ more.0, more.1)

pub without_spaces-twice : (xs : List ℕ) → without_spaces (without_spaces xs) ≡ without_spaces xs
without_spaces-twice [] = refl
without_spaces-twice (b ∷ bs) =
    elim (cases_Bool (eqb b 32)) [
      | inl is ↦ rw is (without_spaces-twice bs)
      | inr not ↦ rw not (rw not refl)
    ]

pub parameters-without_spaces : (n : ℕ) (xs : List ℕ) → parameters n (without_spaces xs) ≡ parameters n xs
unfolding parameters
parameters-without_spaces zero xs = ap last_parameter (without_spaces-twice xs)
parameters-without_spaces (suc n) xs = rw (without_spaces-twice xs) refl

pub parameters-middle : (n : ℕ) (s : List ℕ) → without_spaces s ≡ s → not (begins_with 58 s || eqb (length s) 0)
    ≡ true → parameters (suc n) s ≡ with_front (before_space s ∷ []) (parameters n (after_space s))
unfolding parameters
parameters-middle n s trimmed more = rw (trimmed, not-true _ more) refl

pub parameters-last : (n : ℕ) (s : List ℕ) → without_spaces s ≡ s → (n ≡ 0)
    ⊎ (not (begins_with 58 s || eqb (length s) 0) ≡ false) → parameters n s ≡ last_parameter s
unfolding parameters
parameters-last zero s trimmed none = rw trimmed refl
parameters-last (suc n) s trimmed (inl e) = absurd (omega arith)
parameters-last (suc n) s trimmed (inr e) = rw (trimmed, not-false _ e) refl

-- some parameters are found, and the rest has the others
pub record LeavesParameters (octets : List ℕ) (found : List (List ℕ)) (rest : List ℕ) : Type 0 where
  pub few : length found ≤ 14
  pub trimmed : without_spaces rest ≡ rest
  pub whole : with_front found (parameters (14 - length found) rest) ≡ parameters 14 octets

pub leaves_all : (octets : List ℕ) (found : List (List ℕ)) (rest : List ℕ) → found ≡ []
    → rest ≡ without_spaces octets → LeavesParameters octets found rest
leaves_all octets found rest none skipped =
    record {
      few = rw none (omega arith);
      trimmed = ap without_spaces skipped ∙ without_spaces-twice octets ∙ sym skipped;
      whole = ap (λ (ps : List (List ℕ)). with_front ps (parameters (14 - length ps) rest)) none
          ∙ ap (parameters 14) skipped ∙ parameters-without_spaces 14 octets;
    }

front_more : (found : List (List ℕ)) (word : List ℕ) (more : List (List ℕ) × Bool)
    → with_front (found ++ word ∷ []) more ≡ with_front found (with_front (word ∷ []) more)
front_more found word more = ap (λ (ps : List (List ℕ)). (ps, more.1)) (append_assoc found (word ∷ []) more.0)

pub leaves_less : (octets : List ℕ) (found new : List (List ℕ)) (rest more : List ℕ)
    → LeavesParameters octets found rest → length found + 1 < 15
    → not (begins_with 58 rest || eqb (length rest) 0) ≡ true
    → new ≡ found ++ before_space rest ∷ [] → more ≡ without_spaces (after_space rest)
    → LeavesParameters octets new more
leaves_less octets found new rest more was few middle pushed skipped =
    let longer : length new ≡ length found + 1 = ap length pushed ∙ length_push found (before_space rest) in
    let left : 14 - length found ≡ suc (14 - length new) = omega arith in
    let others = parameters (14 - length new) (after_space rest) in
    let step : parameters (14 - length found) rest ≡ with_front (before_space rest ∷ []) others =
    ap (λ (n : ℕ). parameters n rest) left ∙ parameters-middle (14 - length new) rest was.trimmed middle in
    let again : with_front new (parameters (14 - length new) more) ≡ with_front new others = ap (with_front new) (ap
    (parameters (14 - length new)) skipped ∙ parameters-without_spaces (14 - length new) (after_space rest)) in
    record {
      few = omega arith;
      trimmed = ap without_spaces skipped ∙ without_spaces-twice (after_space rest) ∙ sym skipped;
      whole = again ∙ ap (λ (ps : List (List ℕ)). with_front ps others) pushed
          ∙ front_more found (before_space rest) others ∙ ap (with_front found) (sym step) ∙ was.whole;
    }

pub leaves_last : (octets : List ℕ) (found new : List (List ℕ)) (rest : List ℕ) (colon : Bool)
    → LeavesParameters octets found rest → (15 ≤ length found + 1)
    ⊎ (not (begins_with 58 rest || eqb (length rest) 0) ≡ false)
    → new ≡ found ++ (last_parameter rest).0 → colon ≡ (last_parameter rest).1 → (new, colon) ≡ parameters 14 octets
leaves_last octets found new rest colon was last pushed is =
    let none_left : (14 - length found ≡ 0) ⊎ (not (begins_with 58 rest || eqb (length rest) 0) ≡ false) =
    elim last [
      | inl many ↦ inl (omega arith)
      | inr no_middle ↦ inr no_middle
    ] in
    let parts : (new, colon) ≡ with_front found (last_parameter rest) = ap (λ (ps : List (List ℕ)). (ps, colon))
    pushed ∙ ap (λ (b : Bool). (found ++ (last_parameter rest).0, b)) is in
    parts ∙ ap (with_front found) (sym (parameters-last (14 - length found) rest was.trimmed none_left)) ∙ was.whole
