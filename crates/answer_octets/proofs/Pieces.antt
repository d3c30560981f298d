-- What is read of a stream has no octet that ends a line.
use Rattle.std.proofs.Common.{◌≡◌, ◌≢◌, ℕ, Bool, true, not, List, [], ◌∷◌, ◌++◌}
use Rattle.std.proofs.Common.{refl, sym, subst, ◌∙◌}
use Rattle.std.specs.List.{list_all, flat_map}
use Rattle.std.proofs.lemmas.Bool.{and_from, and_parts, cond_both, ne_eqb, not-true, not_from_false, or_parts}
use Rattle.std.proofs.lemmas.List.Folds.{list_all-append}
use Rattle.line_grammar.specs.declared.message.Message.{Message}
use Rattle.line_grammar.specs.Grammar.{IsFreeOf, Reads, SpellsParameters, SpellsTags, none, middle, trailing}
use Rattle.line_grammar.specs.Grammar.{fifteenth}
use Rattle.line_grammar.specs.Lines.{ended_lines, is_line_end, is_too_long, longer, piece_of}
use Rattle.line_grammar.specs.Spelling.{is_text_octet, is_word_octet}
use Rattle.line_grammar.proofs.Readings.{command_is}
use Rattle.line_grammar.proofs.Spelled.{reading_is_reads}
use Rattle.answer_octets.specs.Clean.{HasText, is_one_line}
use Rattle.answer_octets.specs.Laws.{PiecesAreOneLine, ReadIsText}
use Rattle.answer_octets.proofs.Spelled.{AreText}

abbrev is_inside : ℕ → Bool
is_inside b = not (is_line_end b)

-- ---- pieces

longer-inside : (b : ℕ) (ls : List (List ℕ)) → is_inside b ≡ true → list_all (list_all is_inside) ls ≡ true
    → list_all (list_all is_inside) (longer b ls) ≡ true
longer-inside b [] one all = refl
longer-inside b (l ∷ ls) one all =
    let parts = and_parts _ _ all in and_from _ _ (and_from _ _ one parts.0) parts.1

ended-inside : (bs : List ℕ) → list_all (list_all is_inside) (ended_lines bs) ≡ true
ended-inside [] = refl
ended-inside (b ∷ bs) =
    cond_both (is_line_end b) _ _ (λ ls. list_all (list_all is_inside) ls ≡ true) (λ _. ended-inside bs)
    (λ other. longer-inside b (ended_lines bs) (not_from_false _ other) (ended-inside bs))

piece-one : (line : List ℕ) → list_all is_inside line ≡ true → list_all is_one_line (piece_of line) ≡ true
piece-one [] inside = refl
piece-one (b ∷ bs) inside =
    and_from _ _ (cond_both (is_too_long (b ∷ bs)) _ _ (λ p. is_one_line p ≡ true) (λ _. refl) (λ _. inside)) refl

all-one : (ls : List (List ℕ)) → list_all (list_all is_inside) ls ≡ true
    → list_all is_one_line (flat_map piece_of ls) ≡ true
all-one [] inside = refl
all-one (l ∷ ls) inside =
    let parts = and_parts _ _ inside in
    list_all-append is_one_line (piece_of l) (flat_map piece_of ls)
    ∙ and_from _ _ (piece-one l parts.0) (all-one ls parts.1)

pub pieces-one : PiecesAreOneLine
pieces-one stream = all-one (ended_lines stream) (ended-inside stream)

-- ---- what is read

text-octet : (b : ℕ) → b ≢ 0 → is_inside b ≡ true → is_text_octet b ≡ true
text-octet b nul inside =
    let parts = or_parts _ _ (not-true _ inside) in
    and_from _ _ (not_from_false _ (ne_eqb b 0 nul)) (and_from _ _ (not_from_false _ parts.0)
    (not_from_false _ parts.1))

line-text : (line : List ℕ) → IsFreeOf 0 line → list_all is_inside line ≡ true → AreText line
line-text [] free inside = refl
line-text (b ∷ bs) free inside =
    let parts = and_parts _ _ inside in and_from _ _ (text-octet b free.0 parts.0) (line-text bs free.1 parts.1)

halves : (xs ys : List ℕ) → AreText (xs ++ ys) → AreText xs × AreText ys
halves xs ys are =
    let parts = and_parts (list_all is_text_octet xs) (list_all is_text_octet ys)
    (sym (list_all-append is_text_octet xs ys) ∙ are) in
    (parts.0, parts.1)

params-read : (n : ℕ) (part : List ℕ) (ps : List (List ℕ)) (colon : Bool) → SpellsParameters n part ps colon
    → AreText part → list_all (list_all is_text_octet) ps ≡ true
params-read n part ps colon (none _ spaces are) text = refl
params-read n part ps colon (middle _ gap word rest others _ is_gap is_middle later) text =
    let front = halves gap (word ++ rest) text in
    let parts = halves word rest front.1 in
    and_from _ _ parts.0 (params-read _ rest others _ later parts.1)
params-read n part ps colon (trailing _ gap last is_gap) text =
    and_from _ _ (halves gap (58 ∷ last) text).1 refl
params-read n part ps colon (fifteenth gap last is_gap plain) text = and_from _ _ (halves gap last text).1 refl

words : (tags : List ℕ) → IsFreeOf 32 tags → AreText tags → list_all is_word_octet tags ≡ true
words [] free text = refl
words (b ∷ bs) free text =
    let parts = and_parts _ _ text in
    and_from _ _ (and_from _ _ (not_from_false _ (ne_eqb b 32 free.0)) parts.0) (words bs free.1 parts.1)

tags-read : (part tags : List ℕ) → SpellsTags part tags → AreText part → list_all is_word_octet tags ≡ true
tags-read [] tags is text = subst (λ ts. list_all is_word_octet ts ≡ true) (sym is) refl
tags-read (b ∷ bs) tags is text =
    words tags is.1 (halves tags (32 ∷ []) (subst AreText is.2 (and_parts _ _ text).1)).0

reads-text : (line : List ℕ) (m : Message) → AreText line → Reads line m → HasText m
reads-text line m text r =
    let all = subst AreText r.whole text in
    let tags = halves r.tags_part _ all in
    let spaces = halves r.spaces _ tags.1 in
    let source = halves r.source_part _ spaces.1 in
    let command = halves m.command r.params_part source.1 in
    record {
      tags = tags-read r.tags_part m.tags r.tags tags.0;
      command = command_is m.command r.command;
      params = params-read 14 r.params_part m.params m.colon r.params command.1;
    }

pub read-text : ReadIsText
read-text line m inside is =
    let r = reading_is_reads line m is in reads-text line m (line-text line r.no_nul inside) r
