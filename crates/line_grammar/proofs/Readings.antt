-- A line spells at most one message, which is the one that reading it part by part finds.
use Rattle.std.proofs.Common.{◌≡◌, ◌≢◌, ℕ, Bool, true, false, cond, ◌||◌, List, [], ◌∷◌, ◌++◌, length, drop, suc}
use Rattle.std.proofs.Common.{zero, refl, ap, sym, subst, ◌∙◌, ◌⊎◌, inl, inr, arith, eqb, append-nil}
use Rattle.std.specs.List.{AllByRecursion, list_all}
use Rattle.std.proofs.lemmas.Bool.{cases_Bool, eqb-true, eqb-false, eq-eqb, ne_eqb, leb-true, le-leb, or_cases}
use Rattle.std.proofs.lemmas.Bool.{or_left, or_right, and_parts, and_from, or_parts, lt-ltb, ltb-true}
use Rattle.line_grammar.specs.Lines.{after_space, before_space}
use Rattle.line_grammar.specs.Reading.{begins_with, without_spaces, is_letter, is_digit}
use Rattle.line_grammar.specs.Reading.{is_command, parameters, last_parameter}
use Rattle.line_grammar.proofs.Middles.{parameters-without_spaces}
use Rattle.line_grammar.specs.Grammar.{IsFreeOf, AreSpaces, IsGap, IsLetter, IsDigit, IsCommand, BeginsPlain}
use Rattle.line_grammar.specs.Grammar.{SpellsParameters, none, middle, trailing, fifteenth}

-- ---- words and spaces

-- nothing, or a space first
abbrev pub BeginsApart : List ℕ → Type 0
BeginsApart [] = Unit {0}
BeginsApart (b ∷ bs) = b ≡ 32

-- a first octet that is no space
abbrev pub BeginsWord : List ℕ → Type 0
BeginsWord [] = ⊥
BeginsWord (b ∷ bs) = b ≢ 32

pub before_space-word : (w rest : List ℕ) → IsFreeOf 32 w → BeginsApart rest → before_space (w ++ rest) ≡ w
before_space-word [] [] free apart = refl
before_space-word [] (b ∷ bs) free apart = rw (eq-eqb b 32 apart) refl
before_space-word (b ∷ bs) rest free apart = rw (ne_eqb b 32 free.0, before_space-word bs rest free.1 apart) refl

pub after_space-word : (w rest : List ℕ) → IsFreeOf 32 w → BeginsApart rest → after_space (w ++ rest) ≡ drop 1 rest
after_space-word [] [] free apart = refl
after_space-word [] (b ∷ bs) free apart = rw (eq-eqb b 32 apart) refl
after_space-word (b ∷ bs) rest free apart = rw (ne_eqb b 32 free.0) (after_space-word bs rest free.1 apart)

pub without_spaces-spaces : (spaces rest : List ℕ) → AreSpaces spaces → without_spaces (spaces ++ rest)
    ≡ without_spaces rest
without_spaces-spaces [] rest all = refl
without_spaces-spaces (b ∷ bs) rest all = rw (eq-eqb b 32 all.0) (without_spaces-spaces bs rest all.1)

pub without_spaces-word : (bs : List ℕ) → BeginsWord bs → without_spaces bs ≡ bs
without_spaces-word [] w = absurd w
without_spaces-word (b ∷ bs) w = rw (ne_eqb b 32 w) refl

pub without_spaces-only : (spaces : List ℕ) → AreSpaces spaces → without_spaces spaces ≡ []
without_spaces-only [] all = refl
without_spaces-only (b ∷ bs) all = rw (eq-eqb b 32 all.0) (without_spaces-only bs all.1)

-- the other way round
pub free_before_space : (bs : List ℕ) → IsFreeOf 32 (before_space bs)
free_before_space [] = tt
free_before_space (b ∷ bs) =
    elim (cases_Bool (eqb b 32)) [
      | inl is ↦ rw is tt
      | inr other ↦ rw other (eqb-false b 32 other, free_before_space bs)
    ]

-- what stands after the first space, with that space: nothing where there is none
pub apart : List ℕ → List ℕ
apart [] = []
apart (b ∷ bs) = cond (eqb b 32) (b ∷ bs) (apart bs)

pub apart-begins : (bs : List ℕ) → BeginsApart (apart bs)
unfolding apart
apart-begins [] = tt
apart-begins (b ∷ bs) =
    elim (cases_Bool (eqb b 32)) [
      | inl is ↦ rw is (eqb-true b 32 is)
      | inr other ↦ rw other (apart-begins bs)
    ]

pub split-apart : (bs : List ℕ) → bs ≡ before_space bs ++ apart bs
unfolding apart
split-apart [] = refl
split-apart (b ∷ bs) =
    elim (cases_Bool (eqb b 32)) [
      | inl is ↦ rw is refl
      | inr other ↦ rw other (ap (λ t. b ∷ t) (split-apart bs))
    ]

pub drop-apart : (bs : List ℕ) → drop 1 (apart bs) ≡ after_space bs
unfolding apart
drop-apart [] = refl
drop-apart (b ∷ bs) =
    elim (cases_Bool (eqb b 32)) [
      | inl is ↦ rw is refl
      | inr other ↦ rw other (drop-apart bs)
    ]

pub split-spaces : (bs : List ℕ) → (spaces : List ℕ) × AreSpaces spaces × (bs ≡ spaces ++ without_spaces bs)
split-spaces [] = ([], tt, refl)
split-spaces (b ∷ bs) =
    elim (cases_Bool (eqb b 32)) [
      | inl is ↦ let rest = split-spaces bs in (b ∷ rest.0, (eqb-true b 32 is, rest.1), rw is (ap (λ t. b ∷ t) rest.2))
      | inr other ↦ ([], tt, rw other refl)
    ]

-- ---- a command

letter_is : (b : ℕ) → IsLetter b → is_letter b ≡ true
letter_is b (inl upper) = or_left _ _ (and_from _ _ (le-leb 65 b upper.0) (le-leb b 90 upper.1))
letter_is b (inr lower) = or_right _ _ (and_from _ _ (le-leb 97 b lower.0) (le-leb b 122 lower.1))

is_a_letter : (b : ℕ) → is_letter b ≡ true → IsLetter b
is_a_letter b e =
    elim (or_cases _ _ e) [
      | inl upper ↦ let parts = and_parts _ _ upper in inl (leb-true 65 b parts.0, leb-true b 90 parts.1)
      | inr lower ↦ let parts = and_parts _ _ lower in inr (leb-true 97 b parts.0, leb-true b 122 parts.1)
    ]

all_pass : (p : ℕ → Bool) (P : ℕ → Type 0) → ((b : ℕ) → P b → p b ≡ true) → (bs : List ℕ) → AllByRecursion P bs
    → list_all p bs ≡ true
all_pass p P f [] a = refl
all_pass p P f (b ∷ bs) a = and_from _ _ (f b a.0) (all_pass p P f bs a.1)

all_hold : (p : ℕ → Bool) (P : ℕ → Type 0) → ((b : ℕ) → p b ≡ true → P b) → (bs : List ℕ) → list_all p bs ≡ true
    → AllByRecursion P bs
all_hold p P f [] a = tt
all_hold p P f (b ∷ bs) a = let parts = and_parts _ _ a in (f b parts.0, all_hold p P f bs parts.1)

digit_is : (b : ℕ) → IsDigit b → is_digit b ≡ true
digit_is b d = and_from _ _ (le-leb 48 b d.0) (le-leb b 57 d.1)

is_a_digit : (b : ℕ) → is_digit b ≡ true → IsDigit b
is_a_digit b e = let parts = and_parts _ _ e in (leb-true 48 b parts.0, leb-true b 57 parts.1)

pub command_is : (word : List ℕ) → IsCommand word → is_command word ≡ true
command_is word (inl letters) = or_left _ _
    (and_from _ _ (lt-ltb 0 (length word) letters.0) (all_pass is_letter IsLetter letter_is word letters.1))
command_is word (inr digits) = or_right _ _
    (and_from _ _ (eq-eqb (length word) 3 digits.0) (all_pass is_digit IsDigit digit_is word digits.1))

pub is_a_command : (word : List ℕ) → is_command word ≡ true → IsCommand word
is_a_command word e =
    elim (or_cases _ _ e) [
      | inl letters ↦ let parts = and_parts _ _ letters in
          inl (ltb-true 0 (length word) parts.0, all_hold is_letter IsLetter is_a_letter word parts.1)
      | inr digits ↦ let parts = and_parts _ _ digits in
          inr (eqb-true (length word) 3 parts.0, all_hold is_digit IsDigit is_a_digit word parts.1)
    ]

-- ---- parameters

pub gap-begins : (gap rest : List ℕ) → IsGap gap → BeginsApart (gap ++ rest)
gap-begins [] rest g = absurd (omega (arith, g.0))
gap-begins (b ∷ bs) rest g = g.1.0

spaces-begin : (spaces : List ℕ) → AreSpaces spaces → BeginsApart spaces
spaces-begin [] all = tt
spaces-begin (b ∷ bs) all = all.0

pub params-begin : (n : ℕ) (bs : List ℕ) (ps : List (List ℕ)) (colon : Bool) → SpellsParameters n bs ps colon
    → BeginsApart bs
params-begin n bs ps colon (none m spaces all) = spaces-begin spaces all
params-begin n bs ps colon (middle m gap word rest others c g w r) = gap-begins gap (word ++ rest) g
params-begin n bs ps colon (trailing m gap text g) = gap-begins gap (58 ∷ text) g
params-begin n bs ps colon (fifteenth gap text g plain) = gap-begins gap text g

plain_word : (text more : List ℕ) → BeginsPlain text → BeginsWord (text ++ more)
plain_word [] more p = absurd p
plain_word (b ∷ bs) more p = p.0

plain-no_colon : (text more : List ℕ) → BeginsPlain text → begins_with 58 (text ++ more) ≡ false
plain-no_colon [] more p = absurd p
plain-no_colon (b ∷ bs) more p = ne_eqb b 58 p.1

plain-nonempty : (text more : List ℕ) → BeginsPlain text → eqb (length (text ++ more)) 0 ≡ false
plain-nonempty [] more p = absurd p
plain-nonempty (b ∷ bs) more p = ne_eqb (suc (length (bs ++ more))) 0 (λ e. omega arith)

last_parameter-plain : (text : List ℕ) → BeginsPlain text → last_parameter text ≡ (text ∷ [], false)
last_parameter-plain [] p = absurd p
last_parameter-plain (b ∷ bs) p = rw (ne_eqb b 58 p.1) refl

-- the first of the spaces before a parameter may be left out
pub drop_first : (n : ℕ) (bs : List ℕ) → BeginsApart bs → parameters n (drop 1 bs) ≡ parameters n bs
drop_first n [] a = refl
drop_first n (b ∷ bs) a = sym (parameters-without_spaces n bs)
    ∙ ap (parameters n) (let same : without_spaces bs ≡ without_spaces (b ∷ bs) = rw (eq-eqb b 32 a) refl in same)
    ∙ parameters-without_spaces n (b ∷ bs)

pub params_read : (n : ℕ) (bs : List ℕ) (ps : List (List ℕ)) (colon : Bool) → SpellsParameters n bs ps colon
    → parameters n bs ≡ (ps, colon)
unfolding parameters
params_read n bs ps colon (none zero spaces all) = rw (without_spaces-only spaces all) refl
params_read n bs ps colon (none (suc m) spaces all) = rw (without_spaces-only spaces all) refl
params_read n bs ps colon (middle m gap word rest others c g w r) =
    let bare : without_spaces (gap ++ (word ++ rest)) ≡ word ++ rest = without_spaces-spaces gap (word ++ rest) g.1
    ∙ without_spaces-word (word ++ rest) (plain_word word rest w.0) in
    let next = params-begin m rest others c r in
    let after : parameters m (after_space (word ++ rest)) ≡ (others, c) =
    ap (parameters m) (after_space-word word rest w.1 next) ∙ drop_first m rest next ∙ params_read m rest others c r in
    rw (
      bare,
      plain-no_colon word rest w.0,
      plain-nonempty word rest w.0,
      before_space-word word rest w.1 next,
      after,
    ) refl
params_read n bs ps colon (trailing zero gap text g) = rw (without_spaces-spaces gap (58 ∷ text) g.1) refl
params_read n bs ps colon (trailing (suc m) gap text g) = rw (without_spaces-spaces gap (58 ∷ text) g.1) refl
params_read n bs ps colon (fifteenth gap text g plain) =
    ap last_parameter (without_spaces-spaces gap text g.1 ∙ without_spaces-word text
    (subst BeginsWord (append-nil text) (plain_word text [] plain))) ∙ last_parameter-plain text plain

pub word_after : (bs : List ℕ) → (without_spaces bs ≡ []) ⊎ BeginsWord (without_spaces bs)
word_after [] = inl refl
word_after (b ∷ bs) =
    elim (cases_Bool (eqb b 32)) [
      | inl is ↦ rw is (word_after bs)
      | inr other ↦ rw other (inr (eqb-false b 32 other))
    ]

gap_before : (bs spaces word : List ℕ) → BeginsApart bs → AreSpaces spaces → bs ≡ spaces ++ word → BeginsWord word
    → IsGap spaces
gap_before bs [] [] a all e w = absurd w
gap_before bs [] (b ∷ t) a all e w = absurd (w (subst BeginsApart e a))
gap_before bs (c ∷ cs) word a all e w = (omega arith, all)

last_plain : (n : ℕ) (bs gap text : List ℕ) → bs ≡ gap ++ text → IsGap gap → BeginsPlain text → n ≡ 0
    → SpellsParameters n bs (text ∷ []) false
last_plain zero bs gap text e g plain z = subst (λ x. SpellsParameters zero x (text ∷ []) false) (sym e)
    (fifteenth gap text g plain)
last_plain (suc n) bs gap text e g plain z = absurd (omega arith)

plain_before : (s : List ℕ) → BeginsWord s → begins_with 58 s ≡ false → BeginsPlain (before_space s)
plain_before [] w c = absurd w
plain_before (b ∷ bs) w c = rw (ne_eqb b 32 w) (w, eqb-false b 58 c)

last_spelled : (n : ℕ) (bs spaces s : List ℕ) → BeginsApart bs → AreSpaces spaces → bs ≡ spaces ++ s → (s ≡ [])
    ⊎ BeginsWord s → (n ≡ 0) ⊎ ((begins_with 58 s || eqb (length s) 0) ≡ true)
    → SpellsParameters n bs (last_parameter s).0 (last_parameter s).1
last_spelled n bs spaces [] a all e w may = none n bs (subst AreSpaces (sym (append-nil spaces) ∙ sym e) all)
last_spelled n bs spaces (b ∷ t) a all e (inl empty) may = cc
last_spelled n bs spaces (b ∷ t) a all e (inr word) may =
    let gap = gap_before bs spaces (b ∷ t) a all e word in
    elim (cases_Bool (eqb b 58)) [
      | inl colon ↦
          let here : SpellsParameters n bs (t ∷ []) true = subst (λ x. SpellsParameters n x (t ∷ []) true)
          (ap (λ c. spaces ++ c ∷ t) (sym (eqb-true b 58 colon)) ∙ sym e) (trailing n spaces t gap) in
          rw colon here
      | inr plain ↦ rw plain (last_plain n bs spaces (b ∷ t) e gap (word, eqb-false b 58 plain) (elim may [
        | inl zero_left ↦ zero_left
        | inr other ↦ let no : eqb (suc (length t)) 0 ≡ true = rw plain at other in
            let h = eqb-true (suc (length t)) 0 no in absurd (omega arith)
      ]))
    ]

pub params_spelled : (n : ℕ) (bs : List ℕ) → BeginsApart bs
    → SpellsParameters n bs (parameters n bs).0 (parameters n bs).1
unfolding parameters
params_spelled zero bs a = let split = split-spaces bs in
    last_spelled zero bs split.0 (without_spaces bs) a split.1 split.2 (word_after bs) (inl refl)
params_spelled (suc n) bs a =
    let split = split-spaces bs in let s = without_spaces bs in
    elim (cases_Bool (begins_with 58 s || eqb (length s) 0)) [
      | inl last ↦ rw last (last_spelled (suc n) bs split.0 s a split.1 split.2 (word_after bs) (inr last))
      | inr more ↦ rw more (
          let parts = or_parts (begins_with 58 s) (eqb (length s) 0) more in
          let word : BeginsWord s = elim (word_after bs) [
            | inl empty ↦ let no : true
                ≡ false = sym (eq-eqb (length s) 0 (ap length empty)) ∙ parts.1 in cc
            | inr w ↦ w
          ] in
          let next : SpellsParameters n (apart s) (parameters n (after_space s)).0 (parameters n (after_space s)).1 =
          subst (λ r. SpellsParameters n (apart s) r.0 r.1) (sym (drop_first n (apart s) (apart-begins s))
          ∙ ap (parameters n) (drop-apart s)) (params_spelled n (apart s) (apart-begins s)) in
          subst (λ x. SpellsParameters (suc n) x (before_space s ∷ (parameters n (after_space s)).0)
          (parameters n (after_space s)).1) (sym (split.2 ∙ ap (λ x. split.0 ++ x) (split-apart s)))
          (middle n split.0 (before_space s) (apart s) _ _ (gap_before bs split.0 s a split.1 split.2 word)
          (plain_before s word parts.0, free_before_space s) next)
          )
    ]
