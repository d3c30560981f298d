-- Words in lines, each filled before the next is begun: this project's own choice. A line has room for so many
-- octets, with a space between each two words, and for so many words.
use Rattle.std.specs.Prelude.{◌≡◌, ℕ, ◌<◌, ◌≤◌, Bool, true, false, ◌&&◌, nat_le, nat_lt}
use Rattle.std.specs.Prelude.{List, [], ◌∷◌, ◌++◌, length, slice_index_or}
use Rattle.numerics.specs.Numerics.{names_text}

-- whether a line of these words has room for one more
abbrev pub takes : ℕ → ℕ → List (List ℕ) → List ℕ → Bool
takes room most line word = nat_lt (length line) most && nat_le (length (names_text (line ++ word ∷ []))) room

-- the lines of words that go on with this one
abbrev pub lines_with : ℕ → ℕ → List (List ℕ) → List (List ℕ) → List (List (List ℕ))
lines_with room most line [] = line ∷ []
lines_with room most line (word ∷ words) = elim (takes room most line word) [
  | true ↦ lines_with room most
      (line ++ word ∷ []) words
  | false ↦ line ∷ lines_with room most (word ∷ []) words
]

-- the lines of words: none where there is no word
unfoldable pub cut_lines : ℕ → ℕ → List (List ℕ) → List (List (List ℕ))
cut_lines room most [] = []
cut_lines room most (word ∷ words) = lines_with room most (word ∷ []) words

-- the most tokens of RPL_ISUPPORT in a line: with whom it tells and the text they are the 15 parameters that a line
-- may have (RFC 2812, section 2.3.1)
abbrev pub most_tokens : ℕ
most_tokens = 13

-- a line that has a word, and room for all of its words
pub record IsWithin (room most : ℕ) (line : List (List ℕ)) : Type 0 where
  pub has_word : 0 < length line
  pub few_words : length line ≤ most
  pub fits : length (names_text line) ≤ room

-- no line had room for the first word of the next
abbrev pub AreFull : ℕ → ℕ → List (List (List ℕ)) → Type 0
AreFull room most [] = Unit {0}
AreFull room most (line ∷ []) = Unit {0}
AreFull room most (line ∷ next ∷ lines) = (takes room most line (slice_index_or next 0 []) ≡ false)
    × AreFull room most (next ∷ lines)
