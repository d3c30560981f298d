-- The tags before a line: what is read of them, and what stands after them.
use Rattle.std.proofs.Common.{◌≡◌, ◌≢◌, ℕ, true, false, eqb, List, [], ◌∷◌, ◌++◌, length, codes}
use Rattle.std.proofs.Common.{Option, Some, None, refl, sym, ap, subst, ◌∙◌, append_assoc, arith}
use Rattle.std.specs.Option.{option_or}
use Rattle.std.specs.List.{list_all}
use Rattle.std.specs.Str.{bytes_eq}
use Rattle.std.proofs.lemmas.Bool.{and_from, and_parts, cond-false, eqb-false, ne_eqb, not-true, not_from_false}
use Rattle.std.proofs.lemmas.List.Folds.{list_all-append}
use Rattle.line_grammar.specs.Grammar.{IsFreeOf}
use Rattle.line_grammar.specs.Lines.{before_space, after_space}
use Rattle.line_grammar.specs.Reading.{begins_with, after_source, without_spaces}
use Rattle.line_grammar.specs.Spelling.{is_text_octet, is_word_octet}
use Rattle.line_grammar.proofs.Readings.{before_space-word, after_space-word}
use Rattle.message_tags.specs.Tags.{tag}
use Rattle.labels_batches.specs.Rendered.{with_tag, with_end}
use Rattle.answer_octets.specs.TextLines.{tag_in, line_words}
use Rattle.answer_octets.proofs.ReadBack.{tag-append, tag-none}

-- no tags, or `@` and tags, each octet that of a word; and what is read of them under a key
abbrev pub IsBlock : List ℕ → Option (List ℕ) → List ℕ → Type 0
IsBlock key read [] = read ≡ None
IsBlock key read (b ∷ tags) = (b ≡ 64) × (list_all is_word_octet tags ≡ true) × (tag tags key ≡ read)

has-some : (b : ℕ) (tags : List ℕ) → eqb (length (b ∷ tags)) 0 ≡ false
has-some b tags = let some : length (b ∷ tags) ≢ 0 = omega arith in ne_eqb (length (b ∷ tags)) 0 some

with-more : (b : ℕ) (tags part : List ℕ) → with_tag (b ∷ tags) part ≡ b ∷ (tags ++ 59 ∷ part)
with-more b tags part = ap (λ s. (b ∷ tags) ++ (s ++ part)) (cond-false _ (codes "@") (codes ";") (has-some b tags))

ended-more : (b : ℕ) (tags : List ℕ) → with_end (b ∷ tags) ≡ b ∷ (tags ++ 32 ∷ [])
ended-more b tags = cond-false _ (b ∷ tags) ((b ∷ tags) ++ codes " ") (has-some b tags)

or-none : (own read : Option (List ℕ)) → read ≡ None → own ≡ option_or own read
or-none None read none = sym none
or-none (Some v) read none = refl

words-after : (tags part : List ℕ) → list_all is_word_octet tags ≡ true → list_all is_word_octet part ≡ true
    → list_all is_word_octet (tags ++ 59 ∷ part) ≡ true
words-after tags part before after =
    list_all-append is_word_octet tags (59 ∷ part) ∙ and_from _ _ before after

-- one tag more, or several
pub block-more : (key block part : List ℕ) (read own : Option (List ℕ)) → IsBlock key read block
    → list_all is_word_octet part ≡ true → tag part key ≡ own → IsBlock key (option_or own read) (with_tag block part)
block-more key [] part read own is words reads = (refl, words, reads ∙ or-none own read is)
block-more key (b ∷ tags) part read own is words reads =
    subst (IsBlock key (option_or own read)) (sym (with-more b tags part)) (
      is.0,
      words-after tags part is.1 words,
      tag-append key tags part ∙ ap (λ o. option_or o (tag tags key)) reads ∙ ap (option_or own) is.2,
    )

pub word-free : (bs : List ℕ) → list_all is_word_octet bs ≡ true → IsFreeOf 32 bs
word-free [] words = tt
word-free (b ∷ bs) words =
    let parts = and_parts _ _ words in
    (eqb-false b 32 (not-true _ (and_parts _ _ parts.0).0), word-free bs parts.1)

pub word-text : (bs : List ℕ) → list_all is_word_octet bs ≡ true → list_all is_text_octet bs ≡ true
word-text [] words = refl
word-text (b ∷ bs) words =
    let parts = and_parts _ _ words in and_from _ _ (and_parts _ _ parts.0).1 (word-text bs parts.1)

-- what is read of the tags before a line
pub block-read : (key block u : List ℕ) (read : Option (List ℕ)) → bytes_eq [] key ≡ false → begins_with 64 u ≡ false
    → IsBlock key read block → tag_in (with_end block ++ u) key ≡ read
block-read key [] u read some plain is =
    ap (λ t. tag t key) (cond-false (begins_with 64 u) _ _ plain)
    ∙ tag-none key [] (and_from _ _ (not_from_false _ some) refl) ∙ sym is
block-read key (b ∷ tags) u read some plain is =
    subst (λ x. tag_in (with_end (x ∷ tags) ++ u) key ≡ read) (sym is.0)
    (ap (λ t. tag_in (t ++ u) key) (ended-more 64 tags)
    ∙ ap (λ t. tag (before_space t) key) (append_assoc tags (32 ∷ []) u)
    ∙ ap (λ t. tag t key) (before_space-word tags (32 ∷ u) (word-free tags is.1) refl) ∙ is.2)

-- what stands after them
pub block-said : (key block u : List ℕ) (read : Option (List ℕ)) → begins_with 64 u ≡ false → IsBlock key read block
    → line_words (with_end block ++ u) ≡ after_source (without_spaces u)
block-said key [] u read plain is =
    ap (λ t. after_source (without_spaces t)) (cond-false (begins_with 64 u) _ _ plain)
block-said key (b ∷ tags) u read plain is =
    subst (λ x. line_words (with_end (x ∷ tags) ++ u) ≡ after_source (without_spaces u)) (sym is.0)
    (ap (λ t. line_words (t ++ u)) (ended-more 64 tags)
    ∙ ap (λ t. after_source (without_spaces (after_space t))) (append_assoc tags (32 ∷ []) u)
    ∙ ap (λ t. after_source (without_spaces t)) (after_space-word tags (32 ∷ u) (word-free tags is.1) refl))

-- no octet of it ends a line
pub block-text : (key block u : List ℕ) (read : Option (List ℕ)) → list_all is_text_octet u ≡ true
    → IsBlock key read block → list_all is_text_octet (with_end block ++ u) ≡ true
block-text key [] u read plain is = plain
block-text key (b ∷ tags) u read plain is =
    let front : list_all is_text_octet (with_end (64 ∷ tags)) ≡ true =
    ap (list_all is_text_octet) (ended-more 64 tags) ∙ list_all-append is_text_octet tags (32 ∷ [])
    ∙ and_from _ _ (word-text tags is.1) refl in
    subst (λ x. list_all is_text_octet (with_end (x ∷ tags) ++ u) ≡ true) (sym is.0)
    (list_all-append is_text_octet (with_end (64 ∷ tags)) u ∙ and_from _ _ front plain)
