-- A clean line as it is spelled: what its octets are, and what it says after its source.
use Rattle.std.proofs.Common.{◌≡◌, ◌≢◌, ℕ, ◌-◌, ◌<◌, ◌≤◌, Bool, true, false, zero, suc}
use Rattle.std.proofs.Common.{List, [], ◌∷◌, ◌++◌, length, take, drop, Option, Some, None, refl, sym, ap, subst, ◌∙◌}
use Rattle.std.proofs.Common.{append_assoc, append-nil, arith, inl, inr}
use Rattle.std.specs.Prelude.{IfSome}
use Rattle.std.specs.List.{AllByRecursion, list_all, flat_map}
use Rattle.std.proofs.lemmas.Bool.{and_from, and_parts, ne_eqb}
use Rattle.std.proofs.lemmas.List.Folds.{list_all-append}
use Rattle.line_grammar.specs.Grammar.{IsLetter, IsDigit, IsCommand}
use Rattle.line_grammar.specs.Lines.{before_space, after_space}
use Rattle.line_grammar.specs.Reading.{after_source, begins_with, without_spaces}
use Rattle.line_grammar.specs.Spelling.{is_text_octet, is_word_octet, plain_count, spelled_params}
use Rattle.line_grammar.specs.Spelling.{spelled_source, bare_line}
use Rattle.line_grammar.proofs.Readings.{BeginsApart, before_space-word, after_space-word, is_a_command}
use Rattle.line_grammar.proofs.Spelled.{command_free}
use Rattle.numerics.specs.declared.outgoing.Out.{Out}
use Rattle.numerics.specs.Outgoing.{out_text}
use Rattle.answer_octets.specs.Clean.{IsClean}
use Rattle.answer_octets.proofs.Blocks.{word-free, word-text}

abbrev pub AreText : List ℕ → Type 0
AreText bs = list_all is_text_octet bs ≡ true

pub text-both : (xs ys : List ℕ) → AreText xs → AreText ys → AreText (xs ++ ys)
text-both xs ys a b = list_all-append is_text_octet xs ys ∙ and_from _ _ a b

pub text-take : (n : ℕ) (xs : List ℕ) → AreText xs → AreText (take n xs)
text-take zero xs a = refl
text-take (suc n) [] a = refl
text-take (suc n) (x ∷ xs) a = let parts = and_parts _ _ a in and_from _ _ parts.0 (text-take n xs parts.1)

-- ---- a command

text-above : (b : ℕ) → 13 < b → is_text_octet b ≡ true
text-above b high =
    let nul : b ≢ 0 = omega arith in let cr : b ≢ 13 = omega arith in let lf : b ≢ 10 = omega arith in
    rw (ne_eqb b 0 nul, ne_eqb b 13 cr, ne_eqb b 10 lf) refl

letter-high : (b : ℕ) → IsLetter b → 64 < b
letter-high b (inl upper) = omega (arith, upper.0)
letter-high b (inr lower) = omega (arith, lower.0)

letters-text : (bs : List ℕ) → AllByRecursion IsLetter bs → AreText bs
letters-text [] are = refl
letters-text (b ∷ bs) are =
    let high = letter-high b are.0 in and_from _ _ (text-above b (omega arith)) (letters-text bs are.1)

digits-text : (bs : List ℕ) → AllByRecursion IsDigit bs → AreText bs
digits-text [] are = refl
digits-text (b ∷ bs) are =
    let low = are.0.0 in and_from _ _ (text-above b (omega arith)) (digits-text bs are.1)

pub command-text : (word : List ℕ) → IsCommand word → AreText word
command-text word (inl letters) = letters-text word letters.1
command-text word (inr digits) = digits-text word digits.1

-- its first octet is no space, no colon and no `@`
abbrev BeginsCommand : List ℕ → Type 0
BeginsCommand [] = ⊥
BeginsCommand (b ∷ bs) = (b ≢ 32) × (b ≢ 58) × (b ≢ 64)

apart-letter : (b : ℕ) → IsLetter b → (b ≢ 32) × (b ≢ 58) × (b ≢ 64)
apart-letter b is = let high = letter-high b is in (λ e. omega arith, λ e. omega arith, λ e. omega arith)

apart-digit : (b : ℕ) → 48 ≤ b → b ≤ 57 → (b ≢ 32) × (b ≢ 58) × (b ≢ 64)
apart-digit b low high = (λ e. omega arith, λ e. omega arith, λ e. omega arith)

pub command-begins : (word : List ℕ) → IsCommand word → BeginsCommand word
command-begins [] (inl letters) = absurd (let some = letters.0 in omega arith)
command-begins [] (inr digits) = absurd (let some : length {A = ℕ} [] ≡ 3 = digits.0 in omega arith)
command-begins (b ∷ bs) (inl letters) = apart-letter b letters.1.0
command-begins (b ∷ bs) (inr digits) = apart-digit b digits.1.0.0 digits.1.0.1

-- ---- the octets of a line

each-text : (front : List ℕ) (ps : List (List ℕ)) → AreText front → list_all (list_all is_text_octet) ps ≡ true
    → AreText (flat_map (λ p. front ++ p) ps)
each-text front [] f a = refl
each-text front (p ∷ ps) f a =
    let parts = and_parts _ _ a in
    text-both (front ++ p) (flat_map (λ q. front ++ q) ps) (text-both front p f parts.0) (each-text front ps f parts.1)

all-take : (n : ℕ) (ps : List (List ℕ)) → list_all (list_all is_text_octet) ps ≡ true
    → list_all (list_all is_text_octet) (take n ps) ≡ true
all-take zero ps a = refl
all-take (suc n) [] a = refl
all-take (suc n) (p ∷ ps) a = let parts = and_parts _ _ a in and_from _ _ parts.0 (all-take n ps parts.1)

all-drop : (n : ℕ) (ps : List (List ℕ)) → list_all (list_all is_text_octet) ps ≡ true
    → list_all (list_all is_text_octet) (drop n ps) ≡ true
all-drop zero ps a = a
all-drop (suc n) [] a = refl
all-drop (suc n) (p ∷ ps) a = all-drop n ps (and_parts _ _ a).1

params-text : (ps : List (List ℕ)) (colon : Bool) → list_all (list_all is_text_octet) ps ≡ true
    → AreText (spelled_params ps colon)
params-text ps colon are =
    let count = plain_count ps colon in
    text-both (flat_map (λ p. 32 ∷ p) (take count ps)) (flat_map (λ p. 32 ∷ 58 ∷ p) (drop count ps))
    (each-text (32 ∷ []) (take count ps) refl (all-take count ps are))
    (each-text (32 ∷ 58 ∷ []) (drop count ps) refl (all-drop count ps are))

source-text : (source : Option (List ℕ)) → IfSome source (λ s. list_all is_word_octet s ≡ true)
    → AreText (spelled_source source)
source-text None is = refl
source-text (Some s) is = text-both s (32 ∷ []) (word-text s is) refl

pub spelled-text : (o : Out) → IsClean o → AreText (out_text o)
unfolding bare_line
spelled-text o c =
    text-both (spelled_source o.source) (o.command ++ spelled_params o.params o.colon) (source-text o.source c.source)
    (text-both o.command (spelled_params o.params o.colon) (command-text o.command (is_a_command o.command c.command))
    (params-text o.params o.colon c.params))

-- ---- it begins as no tags do

plain-command : (word rest : List ℕ) → BeginsCommand word → begins_with 64 (word ++ rest) ≡ false
plain-command [] rest begins = absurd begins
plain-command (b ∷ bs) rest begins = ne_eqb b 64 begins.2

plain-source : (source : Option (List ℕ)) (word rest : List ℕ) → BeginsCommand word
    → begins_with 64 (spelled_source source ++ (word ++ rest)) ≡ false
plain-source None word rest begins = plain-command word rest begins
plain-source (Some s) word rest begins = refl

plain-taken : (s : List ℕ) → begins_with 64 s ≡ false → begins_with 64 (take 510 s) ≡ false
plain-taken [] plain = refl
plain-taken (b ∷ bs) plain = plain

pub spelled-plain : (o : Out) → IsClean o → begins_with 64 (take 510 (out_text o)) ≡ false
unfolding bare_line
spelled-plain o c = plain-taken (out_text o) (plain-source o.source o.command (spelled_params o.params o.colon)
    (command-begins o.command (is_a_command o.command c.command)))

-- ---- what it says after its source

take-past : (n : ℕ) (xs ys : List ℕ) → length xs ≤ n → take n (xs ++ ys) ≡ xs ++ take (n - length xs) ys
take-past n [] ys fits = let same : n ≡ n - 0 = omega arith in ap (λ k. take k ys) same
take-past zero (x ∷ xs) ys fits = absurd (omega arith)
take-past (suc n) (x ∷ xs) ys fits =
    let less : suc n - length (x ∷ xs) ≡ n - length xs = omega arith in
    ap (λ zs. x ∷ zs) (take-past n xs ys (omega arith)) ∙ ap (λ k. x ∷ (xs ++ take k ys)) (sym less)

said-command : (word rest : List ℕ) → BeginsCommand word → after_source (without_spaces (word ++ rest)) ≡ word ++ rest
said-command [] rest begins = absurd begins
said-command (b ∷ bs) rest begins = rw (ne_eqb b 32 begins.0, ne_eqb b 58 begins.1) refl

skip-command : (word rest : List ℕ) → BeginsCommand word → without_spaces (word ++ rest) ≡ word ++ rest
skip-command [] rest begins = absurd begins
skip-command (b ∷ bs) rest begins = rw (ne_eqb b 32 begins.0) refl

pub said-source : (source : Option (List ℕ)) (word rest : List ℕ)
    → IfSome source (λ s. list_all is_word_octet s ≡ true)
    → BeginsCommand word → after_source (without_spaces (spelled_source source ++ (word ++ rest))) ≡ word ++ rest
said-source None word rest is begins = said-command word rest begins
said-source (Some s) word rest is begins =
    ap (λ t. without_spaces (after_space t)) (append_assoc s (32 ∷ []) (word ++ rest))
    ∙ ap without_spaces (after_space-word s (32 ∷ (word ++ rest)) (word-free s is) refl)
    ∙ skip-command word rest begins

flat-apart : (front : List ℕ) (ps : List (List ℕ)) (rest : List ℕ) → BeginsApart rest
    → BeginsApart (flat_map (λ p. 32 ∷ (front ++ p)) ps ++ rest)
flat-apart front [] rest apart = apart
flat-apart front (p ∷ ps) rest apart = refl

take-apart : (n : ℕ) (xs : List ℕ) → BeginsApart xs → BeginsApart (take n xs)
take-apart zero xs apart = tt
take-apart (suc n) [] apart = tt
take-apart (suc n) (x ∷ xs) apart = apart

params-apart : (ps : List (List ℕ)) (colon : Bool) → BeginsApart (spelled_params ps colon)
params-apart ps colon =
    let count = plain_count ps colon in
    flat-apart [] (take count ps) (flat_map (λ p. 32 ∷ 58 ∷ p) (drop count ps))
    (subst BeginsApart (append-nil (flat_map (λ p. 32 ∷ 58 ∷ p) (drop count ps)))
    (flat-apart (58 ∷ []) (drop count ps) [] tt))

-- the first word is the command
pub spelled-command : (o : Out) → IsClean o → before_space (after_source (without_spaces (take 510 (out_text o))))
    ≡ o.command
unfolding bare_line
spelled-command o c =
    let front = spelled_source o.source ++ o.command in
    let params = spelled_params o.params o.colon in
    let left = 510 - length front in
    let is = is_a_command o.command c.command in
    let begins = command-begins o.command is in
    let whole : take 510 (out_text o) ≡ spelled_source o.source ++ (o.command ++ take left params) = ap (take 510)
    (sym (append_assoc (spelled_source o.source) o.command params)) ∙ take-past 510 front params c.fits
    ∙ append_assoc (spelled_source o.source) o.command (take left params) in
    ap (λ t. before_space (after_source (without_spaces t))) whole
    ∙ ap before_space (said-source o.source o.command (take left params) c.source begins)
    ∙ before_space-word o.command (take left params) (command_free o.command is)
    (take-apart left params (params-apart o.params o.colon))
