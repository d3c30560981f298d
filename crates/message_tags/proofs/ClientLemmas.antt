-- Writing client-only tags, a tag at a time.
use Rattle.std.proofs.Common.{◌≡◌, ℕ, ◌==◌, if◌then◌else◌, Bool, true, false, List, [], ◌∷◌, ◌++◌, map}
use Rattle.std.proofs.Common.{filter, length, append_assoc, arith, refl, sym, ap, subst, ◌∙◌}
use Rattle.std.specs.List.{join_with_byte}
use Rattle.std.proofs.lemmas.Bool.{cond-false, cond_both, ne_eqb, false≢true}
use Rattle.message_tags.specs.declared.tag.Tag.{Tag}
use Rattle.message_tags.specs.Value.{escapes_of}
use Rattle.message_tags.specs.ClientOnly.{last_of_each, is_client_only, spelling_of, spellings, plus_tag}

-- tag data with more tags added to it
abbrev pub joined_onto : List ℕ → List (List ℕ) → List ℕ
joined_onto tag_data [] = tag_data
joined_onto tag_data (piece ∷ pieces) = joined_onto (plus_tag tag_data piece) pieces

joined-some : (first : ℕ) (tag_data piece : List ℕ) → plus_tag (first ∷ tag_data) piece
    ≡ (first ∷ tag_data) ++ 59 ∷ piece
joined-some first tag_data piece =
    let filled : length (first ∷ tag_data) ≡ 0 → ⊥ = λ e. omega arith in cond-false _ _ _ (ne_eqb _ 0 filled)

join_with_byte-append : (front piece : List ℕ) (pieces : List (List ℕ))
    → join_with_byte 59 ((front ++ piece) ∷ pieces) ≡ front ++ join_with_byte 59 (piece ∷ pieces)
join_with_byte-append front piece [] = refl
join_with_byte-append front piece (next ∷ pieces) = append_assoc front piece _

-- once something stands, each further tag is parted by `;`
joined_onto-some : (first : ℕ) (tag_data : List ℕ) (pieces : List (List ℕ)) → joined_onto (first ∷ tag_data) pieces
    ≡ join_with_byte 59 ((first ∷ tag_data) ∷ pieces)
joined_onto-some first tag_data [] = refl
joined_onto-some first tag_data (piece ∷ pieces) =
    ap (λ d. joined_onto d pieces) (joined-some first tag_data piece)
    ∙ joined_onto-some first (tag_data ++ 59 ∷ piece) pieces
    ∙ join_with_byte-append (first ∷ tag_data) (59 ∷ piece) pieces
    ∙ ap (λ xs. (first ∷ tag_data) ++ xs) (join_with_byte-append (59 ∷ []) piece pieces)

-- an octet stands first
IsFilled : List ℕ → Type 0
IsFilled xs = (first : ℕ) × (rest : List ℕ) × (xs ≡ first ∷ rest)

abbrev AllFilled : List (List ℕ) → Type 0
AllFilled [] = Unit {0}
AllFilled (piece ∷ pieces) = IsFilled piece × AllFilled pieces

joined_onto-nil : (pieces : List (List ℕ)) → AllFilled pieces → joined_onto [] pieces ≡ join_with_byte 59 pieces
unfolding IsFilled
joined_onto-nil [] filled = refl
joined_onto-nil (piece ∷ pieces) filled =
    subst (λ p. joined_onto p pieces ≡ join_with_byte 59 (p ∷ pieces)) (sym filled.0.2)
    (joined_onto-some filled.0.0 filled.0.1 pieces)

-- the spelling of a client-only tag begins with the key's `+`
spelling_is_filled : (tag : Tag) (key : List ℕ) → tag.key ≡ key
    → is_client_only (record { key = key; value = tag.value }) ≡ true
    → IsFilled (spelling_of (record { key = key; value = tag.value }))
unfolding IsFilled
spelling_is_filled tag [] is marked = absurd (false≢true marked)
spelling_is_filled tag (first ∷ rest) is marked =
    cond_both (length tag.value == 0) (first ∷ rest) ((first ∷ rest) ++ 61 ∷ escapes_of tag.value) IsFilled
    (λ none. (first, rest, refl)) (λ some. (first, rest ++ 61 ∷ escapes_of tag.value, refl))

filled_by : (marked : Bool) (tag : Tag) (others : List Tag) → is_client_only tag ≡ marked
    → AllFilled (map spelling_of others) → AllFilled (map spelling_of (if marked then tag ∷ others else others))
filled_by true tag others is filled = (spelling_is_filled tag tag.key refl is, filled)
filled_by false tag others is filled = filled

spellings_are_filled : (tags : List Tag) → AllFilled (map spelling_of (filter is_client_only tags))
spellings_are_filled [] = tt
spellings_are_filled (tag ∷ tags) = filled_by (is_client_only tag) tag (filter is_client_only tags) refl
    (spellings_are_filled tags)

pub joined_onto_all : (tags : List Tag) → joined_onto [] (spellings tags) ≡ join_with_byte 59 (spellings tags)
joined_onto_all tags = joined_onto-nil (spellings tags) (spellings_are_filled (last_of_each tags))
