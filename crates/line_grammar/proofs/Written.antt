-- What is written is read again.
use Rattle.std.proofs.Common.{◌≡◌, ◌≢◌, ℕ, ◌+◌, ◌-◌, ◌<◌, ◌≤◌, Bool, true, false, cond, List, [], ◌∷◌}
use Rattle.std.proofs.Common.{◌++◌, length, take, drop, suc, zero, refl, ap, sym, subst, ◌∙◌, inl, inr}
use Rattle.std.proofs.Common.{arith, eqb, append_assoc, append-nil, get_or, length-take}
use Rattle.std.specs.Prelude.{Some, None, Option, IfSome}
use Rattle.std.specs.List.{AllByRecursion, flat_map, list_all, list_any}
use Rattle.std.proofs.lemmas.List.{drop_more, drop_all, take_all, take-append-drop}
use Rattle.std.proofs.lemmas.Bool.{and_from, and_parts, eqb-false, ne_eqb, not-true, not_from_false, or_parts}
use Rattle.line_grammar.specs.declared.message.Message.{Message}
use Rattle.line_grammar.specs.Grammar.{IsFreeOf, IsGap, IsLetter, IsDigit, IsCommand, SpellsTags, SpellsSource}
use Rattle.line_grammar.specs.Grammar.{IsMiddle, SpellsParameters, none, middle, trailing, fifteenth, Reads}
use Rattle.line_grammar.proofs.Readings.{is_a_command}
use Rattle.line_grammar.specs.Spelling.{is_text_octet, is_word_octet, plain_count, plain_parameters, needs_colon}
use Rattle.line_grammar.specs.Spelling.{IsWritable, spelled_tags, spelled_source, spelled_params, spelling, bare_line}

-- ---- text

-- none of NUL, CR and LF
abbrev pub IsText : List ℕ → Type 0
IsText bs = AllByRecursion (λ b. (b ≢ 0) × (b ≢ 13) × (b ≢ 10)) bs

text-append : (xs ys : List ℕ) → IsText xs → IsText ys → IsText (xs ++ ys)
text-append [] ys a b = b
text-append (x ∷ xs) ys a b = (a.0, text-append xs ys a.1 b)

letters_text : (bs : List ℕ) → AllByRecursion IsLetter bs → IsText bs
letters_text [] a = tt
letters_text (b ∷ bs) a = (
  elim a.0 [
    | inl u ↦ (λ e. omega (arith, u.0, u.1), λ e. omega (arith, u.0, u.1), λ e. omega (arith, u.0, u.1))
    | inr l ↦ (λ e. omega (arith, l.0, l.1), λ e. omega (arith, l.0, l.1), λ e. omega (arith, l.0, l.1))
  ],
  letters_text bs a.1,
)

digits_text : (bs : List ℕ) → AllByRecursion IsDigit bs → IsText bs
digits_text [] a = tt
digits_text (b ∷ bs) a = (
  (
    λ e. omega (arith, a.0.0, a.0.1),
    λ e. omega (arith, a.0.0, a.0.1),
    λ e. omega (arith, a.0.0, a.0.1),
  ),
  digits_text bs a.1,
)

command_text : (word : List ℕ) → IsCommand word → IsText word
command_text word (inl letters) = letters_text word letters.1
command_text word (inr digits) = digits_text word digits.1

text_at : (b : ℕ) → 13 < b → (b ≢ 0) × (b ≢ 13) × (b ≢ 10)
text_at b l = (λ e. omega arith, λ e. omega arith, λ e. omega arith)

tags_text : (tags : List ℕ) → IsText tags → IsText (spelled_tags tags)
tags_text [] a = tt
tags_text (b ∷ bs) a = (text_at 64 (omega arith), text-append (b ∷ bs) (32 ∷ []) a (text_at 32 (omega arith), tt))

source_text : (source : Option (List ℕ)) → IfSome source (λ s. IsText s) → IsText (spelled_source source)
source_text None a = tt
source_text (Some s) a = (text_at 58 (omega arith), text-append s (32 ∷ []) a (text_at 32 (omega arith), tt))

each_text : (front : List ℕ) (ps : List (List ℕ)) → IsText front → AllByRecursion IsText ps
    → IsText (flat_map (λ p. front ++ p) ps)
each_text front [] f a = tt
each_text front (p ∷ ps) f a = text-append (front ++ p) _ (text-append front p f a.0) (each_text front ps f a.1)

all-take : (n : ℕ) (ps : List (List ℕ)) → AllByRecursion IsText ps → AllByRecursion IsText (take n ps)
all-take zero ps a = tt
all-take (suc n) [] a = tt
all-take (suc n) (p ∷ ps) a = (a.0, all-take n ps a.1)

all-drop : (n : ℕ) (ps : List (List ℕ)) → AllByRecursion IsText ps → AllByRecursion IsText (drop n ps)
all-drop zero ps a = a
all-drop (suc n) [] a = tt
all-drop (suc n) (p ∷ ps) a = all-drop n ps a.1

-- ---- what the tests say

text_octet : (b : ℕ) → is_text_octet b ≡ true → (b ≢ 0) × (b ≢ 13) × (b ≢ 10)
text_octet b e =
    let parts = and_parts _ _ e in let ends = and_parts _ _ parts.1 in
    (eqb-false b 0 (not-true _ parts.0), eqb-false b 13 (not-true _ ends.0), eqb-false b 10 (not-true _ ends.1))

is_text : (bs : List ℕ) → list_all is_text_octet bs ≡ true → IsText bs
is_text [] e = tt
is_text (b ∷ bs) e = let parts = and_parts _ _ e in (text_octet b parts.0, is_text bs parts.1)

are_text : (ps : List (List ℕ)) → list_all (λ p. list_all is_text_octet p) ps ≡ true → AllByRecursion IsText ps
are_text [] e = tt
are_text (p ∷ ps) e = let parts = and_parts _ _ e in (is_text p parts.0, are_text ps parts.1)

word_text : (bs : List ℕ) → list_all is_word_octet bs ≡ true → IsText bs
word_text [] e = tt
word_text (b ∷ bs) e = let parts = and_parts _ _ e in (text_octet b (and_parts _ _ parts.0).1, word_text bs parts.1)

word_free : (bs : List ℕ) → list_all is_word_octet bs ≡ true → IsFreeOf 32 bs
word_free [] e = tt
word_free (b ∷ bs) e = let parts = and_parts _ _ e in
    (eqb-false b 32 (not-true _ (and_parts _ _ parts.0).0), word_free bs parts.1)

source_is_text : (source : Option (List ℕ)) → IfSome source (λ s. list_all is_word_octet s ≡ true)
    → IfSome source (λ s. IsText s)
source_is_text None e = e
source_is_text (Some s) e = word_text s e

source_is_free : (source : Option (List ℕ)) → IfSome source (λ s. list_all is_word_octet s ≡ true)
    → IfSome source (λ s. IsFreeOf 32 s)
source_is_free None e = e
source_is_free (Some s) e = word_free s e

pub spelling_text : (m : Message) → IsWritable m → IsText (spelling m)
unfolding spelling bare_line
spelling_text m w =
    let params = are_text m.params w.params in
    let plain = each_text (32 ∷ []) (plain_parameters m.params m.colon) (text_at 32 (omega arith), tt)
    (all-take (plain_count m.params m.colon) m.params params) in
    let last = each_text (32 ∷ 58 ∷ []) (drop (plain_count m.params m.colon) m.params) (
      text_at 32 (omega arith),
      (text_at 58 (omega arith), tt),
    ) (all-drop (plain_count m.params m.colon) m.params params) in
    text-append (spelled_tags m.tags) _ (tags_text m.tags (word_text m.tags w.tags))
    (text-append (spelled_source m.source) _ (source_text m.source (source_is_text m.source w.source))
    (text-append m.command _ (command_text m.command (is_a_command m.command w.command)) (text-append _ _ plain last)))

text_tested : (bs : List ℕ) → IsText bs → list_all is_text_octet bs ≡ true
text_tested [] a = refl
text_tested (b ∷ bs) a =
    and_from _ _ (and_from _ _ (not_from_false _ (ne_eqb b 0 a.0.0)) (and_from _ _
    (not_from_false _ (ne_eqb b 13 a.0.1)) (not_from_false _ (ne_eqb b 10 a.0.2)))) (text_tested bs a.1)

pub spelling_is_text : (m : Message) → IsWritable m → list_all is_text_octet (spelling m) ≡ true
spelling_is_text m w = text_tested (spelling m) (spelling_text m w)

text_no_nul : (bs : List ℕ) → IsText bs → IsFreeOf 0 bs
text_no_nul [] a = tt
text_no_nul (b ∷ bs) a = (a.0.0, text_no_nul bs a.1)

-- ---- parameters

one_space : IsGap (32 ∷ [])
one_space = (omega arith, (refl, tt))

any_space-free : (bs : List ℕ) → list_any (λ c. eqb c 32) bs ≡ false → IsFreeOf 32 bs
any_space-free [] n = tt
any_space-free (b ∷ bs) n = let parts = or_parts _ _ n in (eqb-false b 32 parts.0, any_space-free bs parts.1)

plain_is_middle : (p : List ℕ) → needs_colon p ≡ false → IsMiddle p
plain_is_middle [] n = cc
plain_is_middle (b ∷ bs) n =
    let parts = or_parts _ _ n in let free = any_space-free (b ∷ bs) parts.1 in
    ((free.0, eqb-false b 58 parts.0), free)

-- parameters that are all plain: the one after n middles is the last
all_plain : (n : ℕ) (ps : List (List ℕ)) → length ps ≤ n + 1 → list_any needs_colon ps ≡ false
    → SpellsParameters n (flat_map (λ p. 32 ∷ p) ps) ps false
all_plain n [] few plain = none n [] tt
all_plain zero (p ∷ []) few plain =
    let word = plain_is_middle p (or_parts _ _ plain).0 in
    subst (λ x. SpellsParameters zero (32 ∷ x) (p ∷ []) false) (sym (append-nil p))
    (fifteenth (32 ∷ []) p one_space word.0)
all_plain zero (p ∷ q ∷ ps) few plain = absurd (omega arith)
all_plain (suc n) (p ∷ ps) few plain =
    let parts = or_parts _ _ plain in
    middle n (32 ∷ []) p (flat_map (λ q. 32 ∷ q) ps) ps false one_space (plain_is_middle p parts.0)
    (all_plain n ps (omega arith) parts.1)

-- parameters the last of which comes after a colon
colon_last : (n : ℕ) (ps : List (List ℕ)) (last : List ℕ) → length ps ≤ n → list_any needs_colon ps ≡ false
    → SpellsParameters n (flat_map (λ p. 32 ∷ p) ps ++ 32 ∷ 58 ∷ last) (ps ++ last ∷ []) true
colon_last n [] last few plain = trailing n (32 ∷ []) last one_space
colon_last zero (p ∷ ps) last few plain = absurd (omega arith)
colon_last (suc n) (p ∷ ps) last few plain =
    let parts = or_parts _ _ plain in
    let rest = flat_map (λ q. 32 ∷ q) ps in
    subst (λ x. SpellsParameters (suc n) (32 ∷ x) (p ∷ (ps ++ last ∷ [])) true)
    (sym (append_assoc p rest (32 ∷ 58 ∷ last)))
    (middle n (32 ∷ []) p (rest ++ 32 ∷ 58 ∷ last) (ps ++ last ∷ []) true one_space (plain_is_middle p parts.0)
    (colon_last n ps last (omega arith) parts.1))

split_last : (ps : List (List ℕ)) → 0 < length ps → (last : List ℕ) × (drop (length ps - 1) ps ≡ last ∷ [])
    × (ps ≡ take (length ps - 1) ps ++ last ∷ [])
split_last ps some =
    let count = length ps - 1 in
    let within : count < length ps = omega arith in
    let last = get_or ps count [] in
    let one : drop count ps ≡ last ∷ [] = drop_more ps count [] within ∙ ap
    (λ t. last ∷ t) (drop_all (count + 1) ps (omega arith)) in
    (last, one, sym (take-append-drop count ps) ∙ ap (λ t. take count ps ++ t) one)

params_again : (ps : List (List ℕ)) (colon : Bool) → let count = cond colon (length ps - 1) (length ps) in
    length ps ≤ 15 → (colon ≡ true → 0 < length ps) → list_any needs_colon (take count ps) ≡ false
    → SpellsParameters 14 (flat_map (λ p. 32 ∷ p) (take count ps) ++ flat_map
    (λ p. 32 ∷ 58 ∷ p) (drop count ps)) ps colon
params_again ps false few some plain =
    let whole : take (length ps) ps ≡ ps = take_all (length ps) ps (omega arith) in
    let rest : drop (length ps) ps ≡ [] = drop_all (length ps) ps (omega arith) in
    rw (whole, rest, append-nil) (all_plain 14 ps few (rw whole at plain))
params_again ps true few some plain =
    let count = length ps - 1 in
    let before = take count ps in let split = split_last ps (some refl) in let last = split.0 in
    let spelled = flat_map (λ p. 32 ∷ p) before in
    let short : length before ≤ 14 = omega (arith, length-take count ps) in
    subst (λ t. SpellsParameters 14 (spelled ++ flat_map (λ p. 32 ∷ 58 ∷ p) t) ps true) (sym split.1)
    (subst (λ all. SpellsParameters 14 (spelled ++ 32 ∷ 58 ∷ (last ++ [])) all true) (sym split.2)
    (subst (λ text. SpellsParameters 14 (spelled ++ 32 ∷ 58 ∷ text) (before ++ last ∷ []) true)
    (sym (append-nil last)) (colon_last 14 before last short plain)))

-- ---- the message

tags_again : (tags : List ℕ) → IsFreeOf 32 tags → SpellsTags (spelled_tags tags) tags
tags_again [] f = refl
tags_again (b ∷ bs) f = (refl, f, refl)

source_again : (source : Option (List ℕ)) → IfSome source (λ s. IsFreeOf 32 s)
    → SpellsSource (spelled_source source) source
source_again None f = refl
source_again (Some s) f = (f, (32 ∷ [], one_space, refl))

pub written_reads : (m : Message) → IsWritable m → list_any needs_colon (plain_parameters m.params m.colon) ≡ false
    → Reads (spelling m) m
unfolding spelling bare_line
written_reads m w plain =
    record {
      tags_part = spelled_tags m.tags;
      spaces = [];
      source_part = spelled_source m.source;
      params_part = spelled_params m.params m.colon;
      whole = refl;
      tags = tags_again m.tags (word_free m.tags w.tags);
      are_spaces = tt;
      source = source_again m.source (source_is_free m.source w.source);
      command = is_a_command m.command w.command;
      params = params_again m.params m.colon w.few_params w.colon_before_last plain;
      no_nul = text_no_nul _ (spelling_text m w);
    }

pub joined_parts : (tags source command plain last : List ℕ) → ((tags ++ (source ++ command)) ++ plain) ++ last
    ≡ tags ++ (source ++ (command ++ (plain ++ last)))
joined_parts tags source command plain last = simp append_assoc

-- the test that was made is of the plain parameters
pub plain_found : (m : Message) (all front : List (List ℕ)) (count : ℕ) (answer : Bool) → answer
    ≡ list_any needs_colon front → front ≡ take count all → all ≡ m.params → count ≡ plain_count all m.colon
    → answer ≡ false → list_any needs_colon (plain_parameters m.params m.colon) ≡ false
plain_found m all front count answer test taken is counted fails =
    ap (λ ps. list_any needs_colon (plain_parameters ps m.colon)) (sym is) ∙ ap
    (λ (n : ℕ). list_any needs_colon (take n all)) (sym counted) ∙ ap (list_any needs_colon) (sym taken)
    ∙ sym test ∙ fails
