-- What is UTF-8 stays so where it is escaped, and where its escapes are read; and no NUL comes into it.
use Rattle.std.proofs.Common.{◌≡◌, ◌≢◌, ℕ, ◌+◌, ◌/◌, ◌%◌, ◌<◌, ◌≤◌, Bool, true, not, ◌&&◌, eqb, ltb, List, []}
use Rattle.std.proofs.Common.{◌∷◌, ◌++◌}
use Rattle.std.proofs.Common.{append-nil, refl, arith, sym, ap, subst, ◌∙◌, inl, inr, length}
use Rattle.std.specs.List.{AllByRecursion, list_all}
use Rattle.std.specs.Str.{IsUtf8}
use Rattle.std.proofs.lemmas.Bool.{and_from, and_parts, not-true, cases_lt, cases_eq, cond_both, ne_eqb, le-ltb}
use Rattle.std.proofs.lemmas.List.Concat.{flat_map-append}
use Rattle.std.proofs.lemmas.List.Folds.{list_all-append}
use Rattle.std.proofs.lemmas.Str.{IsUtf8-append, IsUtf8-nil, IsUtf8-encode, encode_ascii, length-encode}
use Rattle.std.proofs.lemmas.Str.{len_utf8_bounds}
use lib.Utf8.{encode, encodes, scalar, scalars}
use Rattle.line_grammar.specs.Spelling.{is_word_octet}
use Rattle.answer_octets.specs.Clean.{is_no_nul}
use Rattle.message_tags.specs.Value.{value, meaning_of, escape_of, escapes_of}
use Rattle.message_tags.proofs.ValueLemmas.{value_at_plain}

-- ---- octets from 128 on

abbrev IsHigh : List ℕ → Type 0
IsHigh bs = AllByRecursion (λ b. 128 ≤ b) bs

two-high : (b c : ℕ) → 128 ≤ b → 128 ≤ c → IsHigh (b ∷ c ∷ [])
two-high b c p q = (p, (q, tt))

three-high : (b c d : ℕ) → 128 ≤ b → 128 ≤ c → 128 ≤ d → IsHigh (b ∷ c ∷ d ∷ [])
three-high b c d p q r = (p, two-high c d q r)

encode-high : (c : ℕ) → 128 ≤ c → IsHigh (encode c)
unfolding encode
encode-high c high =
    rw (le-ltb c 128 high) (cond_both (ltb c 2048) _ _ IsHigh
    (λ _. two-high (192 + c / 64) (128 + c % 64) (omega arith) (omega arith))
    (λ _. cond_both (ltb c 65536) _ _ IsHigh
    (λ _. three-high (224 + c / 4096) (128 + (c / 64) % 64) (128 + c % 64) (omega arith) (omega arith) (omega arith))
    (λ _. (
      (let first : 128 ≤ 240 + c / 262144 = omega arith in first),
      three-high (128 + (c / 4096) % 64) (128 + (c / 64) % 64) (128 + c % 64) (omega arith) (omega arith)
          (omega arith),
    ))))

plain : (b : ℕ) → 128 ≤ b → escape_of b ≡ b ∷ []
plain b high =
    let a : b ≢ 59 = omega arith in let s : b ≢ 32 = omega arith in let k : b ≢ 92 = omega arith in
    let r : b ≢ 13 = omega arith in let n : b ≢ 10 = omega arith in
    rw (ne_eqb b 59 a, ne_eqb b 32 s, ne_eqb b 92 k, ne_eqb b 13 r, ne_eqb b 10 n) refl

meant : (b : ℕ) → 128 ≤ b → meaning_of b ≡ b
meant b high =
    let c : b ≢ 58 = omega arith in let s : b ≢ 115 = omega arith in
    let r : b ≢ 114 = omega arith in let n : b ≢ 110 = omega arith in
    rw (ne_eqb b 58 c, ne_eqb b 115 s, ne_eqb b 114 r, ne_eqb b 110 n) refl

escaped-high : (bs : List ℕ) → IsHigh bs → escapes_of bs ≡ bs
escaped-high [] high = refl
escaped-high (b ∷ bs) high = ap (λ xs. xs ++ escapes_of bs) (plain b high.0)
    ∙ ap (λ xs. b ∷ xs) (escaped-high bs high.1)

value-plain : (b : ℕ) (rest : List ℕ) → b ≢ 92 → value (b ∷ rest) ≡ b ∷ value rest
value-plain b rest other = value_at_plain [] b rest other

value-high : (bs rest : List ℕ) → IsHigh bs → value (bs ++ rest) ≡ bs ++ value rest
value-high [] rest high = refl
value-high (b ∷ bs) rest high =
    let low : 128 ≤ b = high.0 in
    value-plain b (bs ++ rest) (omega arith) ∙ ap (λ xs. b ∷ xs) (value-high bs rest high.1)

-- behind a backslash
value-behind-high : (bs rest : List ℕ) → IsHigh bs → 0 < length bs → value (92 ∷ (bs ++ rest)) ≡ bs ++ value rest
value-behind-high [] rest high some = absurd (omega arith)
value-behind-high (b ∷ bs) rest high some =
    ap (λ x. x ∷ value (bs ++ rest)) (meant b high.0) ∙ ap (λ xs. b ∷ xs) (value-high bs rest high.1)

-- ---- octets below 128

one-ascii : (c : ℕ) → c < 128 → scalar c ≡ true → IsUtf8 (c ∷ [])
one-ascii c low is = subst IsUtf8 (encode_ascii c low) (IsUtf8-encode c is)

pair : (b c : ℕ) → b < 128 → c < 128 → scalar b ≡ true → scalar c ≡ true → IsUtf8 (b ∷ c ∷ [])
pair b c p q s t = IsUtf8-append (b ∷ []) (c ∷ []) (one-ascii b p s) (one-ascii c q t)

escape-utf8 : (c : ℕ) → c < 128 → scalar c ≡ true → IsUtf8 (escape_of c)
escape-utf8 c low is =
    cond_both (eqb c 59) _ _ IsUtf8 (λ _. pair 92 58 (omega arith) (omega arith) refl refl)
    (λ _. cond_both (eqb c 32) _ _ IsUtf8 (λ _. pair 92 115 (omega arith) (omega arith) refl refl)
    (λ _. cond_both (eqb c 92) _ _ IsUtf8 (λ _. pair 92 92 (omega arith) (omega arith) refl refl)
    (λ _. cond_both (eqb c 13) _ _ IsUtf8 (λ _. pair 92 114 (omega arith) (omega arith) refl refl)
    (λ _. cond_both (eqb c 10) _ _ IsUtf8 (λ _. pair 92 110 (omega arith) (omega arith) refl refl)
    (λ _. one-ascii c low is)))))

abbrev IsOne : ℕ → Type 0
IsOne c = IsUtf8 (c ∷ [])

meaning-utf8 : (c : ℕ) → c < 128 → scalar c ≡ true → IsUtf8 (meaning_of c ∷ [])
meaning-utf8 c low is =
    cond_both (eqb c 58) _ _ IsOne (λ _. one-ascii 59 (omega arith) refl)
    (λ _. cond_both (eqb c 115) _ _ IsOne (λ _. one-ascii 32 (omega arith) refl)
    (λ _. cond_both (eqb c 114) _ _ IsOne (λ _. one-ascii 13 (omega arith) refl)
    (λ _. cond_both (eqb c 110) _ _ IsOne (λ _. one-ascii 10 (omega arith) refl) (λ _. one-ascii c low is))))

-- ---- a text, escaped

escaped-one : (c : ℕ) → scalar c ≡ true → IsUtf8 (escapes_of (encode c))
escaped-one c is =
    elim (cases_lt c 128) [
      | inl low ↦ subst (λ bs. IsUtf8 (escapes_of bs)) (sym (encode_ascii c low))
          (subst IsUtf8 (sym (append-nil (escape_of c))) (escape-utf8 c low is))
      | inr high ↦ subst IsUtf8 (sym (escaped-high (encode c) (encode-high c high))) (IsUtf8-encode c is)
    ]

escaped-encodes : (cs : List ℕ) → scalars cs ≡ true → IsUtf8 (escapes_of (encodes cs))
escaped-encodes [] are = IsUtf8-nil
escaped-encodes (c ∷ cs) are =
    let parts = and_parts _ _ are in
    subst IsUtf8 (sym (flat_map-append escape_of (encode c) (encodes cs)))
    (IsUtf8-append (escapes_of (encode c)) (escapes_of (encodes cs)) (escaped-one c parts.0)
    (escaped-encodes cs parts.1))

pub escaped-utf8 : (text : List ℕ) → IsUtf8 text → IsUtf8 (escapes_of text)
escaped-utf8 text is = subst (λ bs. IsUtf8 (escapes_of bs)) is.1.1 (escaped-encodes is.0 is.1.0)

-- ---- a text whose escapes are read

-- from its start, and behind a backslash
record AreTexts (bs : List ℕ) : Type 0 where
  from_start : IsUtf8 (value bs)
  behind : IsUtf8 (value (92 ∷ bs))

texts-low : (c : ℕ) (rest : List ℕ) → c < 128 → scalar c ≡ true → AreTexts rest → AreTexts (c ∷ rest)
texts-low c rest low is are = record {
  from_start =
      elim (cases_eq c 92) [
        | inl same ↦ subst (λ b. IsUtf8 (value (b ∷ rest))) (sym same) are.behind
        | inr other ↦ subst IsUtf8 (sym (value-plain c rest other))
            (IsUtf8-append (c ∷ []) (value rest) (one-ascii c low is) are.from_start)
      ];
  behind = IsUtf8-append (meaning_of c ∷ []) (value rest) (meaning-utf8 c low is) are.from_start;
}

texts-high : (c : ℕ) (rest : List ℕ) → 128 ≤ c → scalar c ≡ true → AreTexts rest → AreTexts (encode c ++ rest)
texts-high c rest high is are = record {
  from_start = subst IsUtf8 (sym (value-high (encode c) rest (encode-high c high)))
      (IsUtf8-append (encode c) (value rest) (IsUtf8-encode c is) are.from_start);
  behind = subst IsUtf8 (sym (value-behind-high (encode c) rest (encode-high c high)
      (omega (arith, length-encode c, (len_utf8_bounds c).0))))
      (IsUtf8-append (encode c) (value rest) (IsUtf8-encode c is) are.from_start);
}

texts-encodes : (cs : List ℕ) → scalars cs ≡ true → AreTexts (encodes cs)
texts-encodes [] are = record { from_start = IsUtf8-nil; behind = IsUtf8-nil }
texts-encodes (c ∷ cs) are =
    let parts = and_parts _ _ are in let later = texts-encodes cs parts.1 in
    elim (cases_lt c 128) [
      | inl low ↦ subst (λ bs. AreTexts (bs ++ encodes cs)) (sym (encode_ascii c low))
          (texts-low c (encodes cs) low parts.0 later)
      | inr high ↦ texts-high c (encodes cs) high parts.0 later
    ]

pub value-utf8 : (raw : List ℕ) → IsUtf8 raw → IsUtf8 (value raw)
value-utf8 raw is = subst (λ bs. IsUtf8 (value bs)) is.1.1 (texts-encodes is.0 is.1.0).from_start

-- ---- no NUL, and nothing that ends a tag

-- what may stand in a tag's value
abbrev pub is_value_octet : ℕ → Bool
is_value_octet b = not (eqb b 59) && is_word_octet b

abbrev AreValue : List ℕ → Type 0
AreValue bs = list_all is_value_octet bs ≡ true

escape-value : (b : ℕ) → is_no_nul b ≡ true → AreValue (escape_of b)
escape-value b some =
    cond_both (eqb b 59) _ _ AreValue (λ _. refl)
    (λ semicolon. cond_both (eqb b 32) _ _ AreValue (λ _. refl)
    (λ space. cond_both (eqb b 92) _ _ AreValue (λ _. refl)
    (λ backslash. cond_both (eqb b 13) _ _ AreValue (λ _. refl)
    (λ cr. cond_both (eqb b 10) _ _ AreValue (λ _. refl)
    (λ lf. rw (semicolon, space, cr, lf, not-true _ some) refl)))))

pub escaped-value : (text : List ℕ) → list_all is_no_nul text ≡ true → list_all is_value_octet (escapes_of text) ≡ true
escaped-value [] some = refl
escaped-value (b ∷ bs) some =
    let parts = and_parts _ _ some in
    list_all-append is_value_octet (escape_of b) (escapes_of bs)
    ∙ and_from _ _ (escape-value b parts.0) (escaped-value bs parts.1)

meaning-some : (b : ℕ) → is_no_nul b ≡ true → is_no_nul (meaning_of b) ≡ true
meaning-some b some =
    let P : ℕ → Type 0 = λ x. is_no_nul x ≡ true in
    cond_both (eqb b 58) _ _ P (λ _. refl) (λ _. cond_both (eqb b 115) _ _ P (λ _. refl)
    (λ _. cond_both (eqb b 114) _ _ P (λ _. refl) (λ _. cond_both (eqb b 110) _ _ P (λ _. refl) (λ _. some))))

pub value-some : (raw : List ℕ) → list_all is_no_nul raw ≡ true → list_all is_no_nul (value raw) ≡ true
value-some [] some = refl
value-some (b ∷ []) some =
    cond_both (eqb b 92) _ _ (λ bs. list_all is_no_nul bs ≡ true) (λ _. refl) (λ _. some)
value-some (b ∷ c ∷ rest) some =
    let parts = and_parts _ _ some in let later = and_parts _ _ parts.1 in
    cond_both (eqb b 92) _ _ (λ bs. list_all is_no_nul bs ≡ true)
    (λ _. and_from _ _ (meaning-some c later.0) (value-some rest later.1))
    (λ _. and_from _ _ parts.0 (value-some (c ∷ rest) parts.1))
