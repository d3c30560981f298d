-- What holds of the lines that words are cut into.
use Rattle.std.proofs.Common.{◌≡◌, ℕ, ◌+◌, ◌<◌, ◌≤◌, nat_lt, nat_le, true, false, List, [], ◌∷◌, ◌++◌, length, refl}
use Rattle.std.proofs.Common.{ap, sym, subst, ◌∙◌, inl, inr, arith, append_assoc, append-nil, length-append}
use Rattle.std.specs.List.{All, AllByRecursion, flat_map}
use Rattle.std.proofs.lemmas.Bool.{cases_Bool, and_parts, ltb-true, leb-true}
use Rattle.std.proofs.lemmas.Grind.{flat_map-append}
use Rattle.std.proofs.lemmas.List.Elements.{All-from_recursion, recursion_from_All}
use Rattle.numerics.specs.Numerics.{names_text}
use Rattle.numerics.specs.Cut.{takes, lines_with, cut_lines, IsWithin, AreFull}

-- ---- the length of a line

pub one_spaced : (word : List ℕ) → length (names_text (word ∷ [])) ≡ length word
one_spaced word = ap length (append-nil word)

length-more : (first : List ℕ) (line : List (List ℕ)) (word : List ℕ)
    → length (names_text (first ∷ (line ++ word ∷ []))) ≡ length (names_text (first ∷ line)) + (1 + length word)
length-more first line word =
    let after = λ (ws : List (List ℕ)). flat_map (λ w. 32 ∷ w) ws in
    let parts : after (line ++ word ∷ []) ≡ after line ++ after (word ∷ []) = flat_map-append
    (λ w. 32 ∷ w) line (word ∷ []) in
    let last : length (after (word ∷ [])) ≡ 1 + length word = omega (arith, ap length (append-nil word)) in
    omega (
      arith,
      ap (λ t. length (first ++ t)) parts,
      last,
      length-append first (after line ++ after (word ∷ [])),
      length-append (after line) (after (word ∷ [])),
      length-append first (after line),
    )

pub more_spaced : (line : List (List ℕ)) (word : List ℕ) → 0 < length line → length (names_text (line ++ word ∷ []))
    ≡ length (names_text line) + (1 + length word)
more_spaced [] word some = absurd (omega (arith, some))
more_spaced (first ∷ line) word some = length-more first line word

-- ---- a step

pub filled-more : (room most : ℕ) (line : List (List ℕ)) (word : List ℕ) (words : List (List ℕ))
    → takes room most line word ≡ true → lines_with room most line (word ∷ words)
    ≡ lines_with room most (line ++ word ∷ []) words
filled-more room most line word words e = rw (e, lines_with) refl

pub filled-full : (room most : ℕ) (line : List (List ℕ)) (word : List ℕ) (words : List (List ℕ))
    → takes room most line word ≡ false → lines_with room most line (word ∷ words)
    ≡ line ∷ lines_with room most (word ∷ []) words
filled-full room most line word words e = rw (e, lines_with) refl

-- ---- the lines joined are the words

joined-filled : (room most : ℕ) (line words : List (List ℕ)) → flat_map (λ l. l) (lines_with room most line words)
    ≡ line ++ words
joined-filled room most line [] = refl
joined-filled room most line (word ∷ words) =
    elim (cases_Bool (takes room most line word)) [
      | inl more ↦ ap (flat_map (λ l. l)) (filled-more room most line word words more)
          ∙ joined-filled room most (line ++ word ∷ []) words ∙ append_assoc line (word ∷ []) words
      | inr full ↦ ap (flat_map (λ l. l)) (filled-full room most line word words full) ∙ ap
          (λ ws. line ++ ws) (joined-filled room most (word ∷ []) words)
    ]

pub joined-cut : (room most : ℕ) (words : List (List ℕ)) → flat_map (λ l. l) (cut_lines room most words) ≡ words
unfolding cut_lines
joined-cut room most [] = refl
joined-cut room most (word ∷ words) = joined-filled room most (word ∷ []) words

-- ---- each line is within its room

one_within : (room most : ℕ) (word : List ℕ) → 0 < most → length word ≤ room → IsWithin room most (word ∷ [])
one_within room most word some fits = record {
  has_word = omega arith;
  few_words = omega arith;
  fits = omega (arith, one_spaced word);
}

more_within : (room most : ℕ) (line : List (List ℕ)) (word : List ℕ) → takes room most line word ≡ true
    → IsWithin room most (line ++ word ∷ [])
more_within room most line word e =
    let parts = and_parts (nat_lt (length line) most) (nat_le (length (names_text (line ++ word ∷ []))) room) e in
    record {
      has_word = omega (arith, length-append line (word ∷ []));
      few_words = omega (arith, length-append line (word ∷ []), ltb-true (length line) most parts.0);
      fits = leb-true _ room parts.1;
    }

within-filled : (room most : ℕ) (line words : List (List ℕ)) → 0 < most → IsWithin room most line → AllByRecursion
    (λ w. length w ≤ room) words → AllByRecursion (IsWithin room most) (lines_with room most line words)
within-filled room most line [] some within fit = (within, tt)
within-filled room most line (word ∷ words) some within fit =
    elim (cases_Bool (takes room most line word)) [
      | inl more ↦ subst (AllByRecursion (IsWithin room most)) (sym (filled-more room most line word words more))
          (within-filled room most (line ++ word ∷ []) words some (more_within room most line word more) fit.1)
      | inr full ↦ subst (AllByRecursion (IsWithin room most)) (sym (filled-full room most line word words full))
          (within, within-filled room most (word ∷ []) words some (one_within room most word some fit.0) fit.1)
    ]

within-by_recursion : (room most : ℕ) (words : List (List ℕ)) → (0 < length words → 0 < most)
    → AllByRecursion (λ w. length w ≤ room) words → AllByRecursion (IsWithin room most) (cut_lines room most words)
unfolding cut_lines
within-by_recursion room most [] some fit = tt
within-by_recursion room most (word ∷ words) some fit = let more = some (omega arith) in
    within-filled room most (word ∷ []) words more (one_within room most word more fit.0) fit.1

pub within-cut : (room most : ℕ) (words : List (List ℕ)) → (0 < length words → 0 < most)
    → All (λ w. length w ≤ room) words → All (IsWithin room most) (cut_lines room most words)
within-cut room most words some fit = All-from_recursion (IsWithin room most) (cut_lines room most words)
    (within-by_recursion room most words some (recursion_from_All (λ w. length w ≤ room) words fit))

-- ---- each line is full

-- the first of the lines begins as the line that they go on with
record Begins (word : List ℕ) (lines : List (List (List ℕ))) : Type 0 where
  more : List (List ℕ)
  others : List (List (List ℕ))
  are : lines ≡ (word ∷ more) ∷ others

begins-filled : (room most : ℕ) (word : List ℕ) (line words : List (List ℕ))
    → Begins word (lines_with room most (word ∷ line) words)
begins-filled room most word line [] = record { more = line; others = []; are = refl }
begins-filled room most word line (next ∷ words) =
    elim (cases_Bool (takes room most (word ∷ line) next)) [
      | inl more ↦ subst (Begins word) (sym (filled-more room most (word ∷ line) next words more))
          (begins-filled room most word (line ++ next ∷ []) words)
      | inr full ↦ record {
        more = line;
        others = lines_with room most (next ∷ []) words;
        are = filled-full room most (word ∷ line) next words full;
      }
    ]

full_before : (room most : ℕ) (line : List (List ℕ)) (word : List ℕ) (lines : List (List (List ℕ)))
    → takes room most line word ≡ false → Begins word lines → AreFull room most lines
    → AreFull room most (line ∷ lines)
full_before room most line word lines full begins rest =
    subst (λ ls. AreFull room most (line ∷ ls)) (sym begins.are) (full, subst (AreFull room most) begins.are rest)

full-filled : (room most : ℕ) (line words : List (List ℕ)) → AreFull room most (lines_with room most line words)
full-filled room most line [] = tt
full-filled room most line (word ∷ words) =
    elim (cases_Bool (takes room most line word)) [
      | inl more ↦ subst (AreFull room most) (sym (filled-more room most line word words more))
          (full-filled room most (line ++ word ∷ []) words)
      | inr full ↦ subst (AreFull room most) (sym (filled-full room most line word words full)) (full_before room
          most line word _ full (begins-filled room most word [] words) (full-filled room most (word ∷ []) words))
    ]

pub full-cut : (room most : ℕ) (words : List (List ℕ)) → AreFull room most (cut_lines room most words)
unfolding cut_lines
full-cut room most [] = tt
full-cut room most (word ∷ words) = full-filled room most (word ∷ []) words
