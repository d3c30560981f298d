-- Texts: what has no NUL, CR or LF.
use Rattle.std.proofs.Common.{◌≡◌, ◌≢◌, ℕ, zero, suc, ◌+◌, ◌/◌, ◌%◌, ◌≤◌, Bool, true, false, eqb}
use Rattle.std.proofs.Common.{List, [], ◌∷◌, ◌++◌, map, filter, take, length, decimal, unwrap_or, IfSome}
use Rattle.std.proofs.Common.{Option, Some, None, refl, ◌∙◌, arith, ne_eqb, nat_lt}
use Rattle.std.specs.Fmt.{digit_glyph, digits, digits_onto}
use Rattle.std.specs.List.{list_all}
use Rattle.std.proofs.lemmas.Bool.{and_from, cond_both}
use Rattle.std.proofs.lemmas.List.Folds.{list_all-append}
use Rattle.line_grammar.specs.Spelling.{is_text_octet, is_word_octet}
use Rattle.answer_octets.specs.Clean.{IsWordOf}
use Rattle.answer_octets.proofs.Blocks.{word-text}
use Rattle.answer_octets.proofs.Names.{channels-words, nicks-words}
use Rattle.clean_records.specs.Clean.{IsChannel, IsNick, IsText}

abbrev pub AreTexts : List (List ℕ) → Type 0
AreTexts ts = list_all (list_all is_text_octet) ts ≡ true

pub word-is_text : (n : ℕ) (w : List ℕ) → IsWordOf n w → IsText w
word-is_text n w is = word-text w is.word

pub nick-text : (n : List ℕ) → IsNick n → IsText n
nick-text n is = word-text n (nicks-words n is).word

pub channel-text : (c : List ℕ) → IsChannel c → IsText c
channel-text c is = word-text c (channels-words c is).word

pub both : (xs ys : List ℕ) → IsText xs → IsText ys → IsText (xs ++ ys)
both xs ys a b = list_all-append is_text_octet xs ys ∙ and_from _ _ a b

pub one : (t : List ℕ) → IsText t → AreTexts (t ∷ [])
one t is = and_from _ _ is refl

pub two : (t u : List ℕ) → IsText t → IsText u → AreTexts (t ∷ u ∷ [])
two t u a b = and_from _ _ a (one u b)

pub texts-both : (xs ys : List (List ℕ)) → AreTexts xs → AreTexts ys → AreTexts (xs ++ ys)
texts-both xs ys a b = list_all-append (list_all is_text_octet) xs ys ∙ and_from _ _ a b

pub or-text : (o : Option (List ℕ)) (other : List ℕ) → IfSome o IsText → IsText other → IsText (unwrap_or o other)
or-text None other some none = none
or-text (Some t) other some none = some

-- texts that are made one by one
pub texts-map : {A : Type 0} (f : A → List ℕ) → ((x : A) → IsText (f x)) → (xs : List A) → AreTexts (map f xs)
texts-map f is [] = refl
texts-map f is (x ∷ xs) = and_from _ _ (is x) (texts-map f is xs)

-- what passes a filter
pub filter-passes : (p q : ℕ → Bool) → ((b : ℕ) → q b ≡ true → p b ≡ true) → (xs : List ℕ)
    → list_all p (filter q xs) ≡ true
filter-passes p q f [] = refl
filter-passes p q f (x ∷ xs) =
    cond_both (q x) _ _ (λ ys. list_all p ys ≡ true) (λ is. and_from _ _ (f x is) (filter-passes p q f xs))
    (λ _. filter-passes p q f xs)

pub take-short : (n : ℕ) (xs : List ℕ) → length (take n xs) ≤ n
take-short zero xs = omega arith
take-short (suc n) [] = omega arith
take-short (suc n) (x ∷ xs) = omega (arith, take-short n xs)

-- ---- the digits of a number

pub high-text : (b : ℕ) → 48 ≤ b → is_text_octet b ≡ true
high-text b high =
    let n : b ≢ 0 = omega arith in let r : b ≢ 13 = omega arith in let l : b ≢ 10 = omega arith in
    rw (ne_eqb b 0 n, ne_eqb b 13 r, ne_eqb b 10 l) refl

-- from 33 on, no octet ends a word
pub high-word : (b : ℕ) → 33 ≤ b → is_word_octet b ≡ true
high-word b high =
    let s : b ≢ 32 = omega arith in let n : b ≢ 0 = omega arith in
    let r : b ≢ 13 = omega arith in let l : b ≢ 10 = omega arith in
    rw (ne_eqb b 32 s, ne_eqb b 0 n, ne_eqb b 13 r, ne_eqb b 10 l) refl

glyph-text : (d : ℕ) → is_text_octet (digit_glyph false d) ≡ true
glyph-text d =
    cond_both (nat_lt d 10) (48 + d) (87 + d) (λ b. is_text_octet b ≡ true) (λ _. high-text (48 + d) (omega arith))
    (λ _. high-text (87 + d) (omega arith))

onto-text : (k n : ℕ) (acc : List ℕ) → IsText acc → IsText (digits_onto k 10 false n acc)
onto-text zero n acc is = is
onto-text (suc k) n acc is =
    let more : IsText (digit_glyph false (n % 10) ∷ acc) = and_from _ _ (glyph-text (n % 10)) is in
    cond_both (eqb (n / 10) 0) _ _ IsText (λ _. more) (λ _. onto-text k (n / 10) _ more)

pub decimal-text : (n : ℕ) → IsText (decimal n)
unfolding digits
decimal-text n = onto-text 64 n [] refl
