-- A numeric's row as the program has it before it is spelled, borrowed from the numeric: RFC 2812, section 2.3.1.
use Rattle.std.specs.Prelude.{ℕ, List, [], ◌∷◌, ◌++◌, map, decimal, Option, Some, None}
use Rattle.std.specs.List.{flat_map}
use Rattle.numerics.specs.Numerics.{RowForm, flags, sign, names_text}
use Rattle.numerics.specs.declared.row_lines.Word.{Word}
use Rattle.numerics.specs.declared.row_lines.Word.TheVariants.{Of, Plain, Letter, Number, Flags, Sign}
use Rattle.numerics.specs.declared.row_lines.Words.{Words}
use Rattle.numerics.specs.declared.row_lines.Words.TheVariants.{No, One, Two, Four, Six, Each, Before}
use Rattle.numerics.specs.declared.row_lines.RowText.{RowText}
use Rattle.numerics.specs.declared.row_lines.RowText.TheVariants.{Without, Said, Given, Ending, Joined, Spaced}
use Rattle.numerics.specs.declared.row_lines.NumericRow.{NumericRow as BorrowedRow}

abbrev pub word_of : Word → List ℕ
word_of (Of octets) = octets.now
word_of (Plain octets) = octets.now
word_of (Letter letter) = letter ∷ []
word_of (Number number) = decimal number
word_of (Flags away prefix) = flags away prefix
word_of (Sign secret) = sign secret

abbrev pub words_of : Words → List (List ℕ)
words_of No = []
words_of (One a) = map word_of (a ∷ [])
words_of (Two a b) = map word_of (a ∷ b ∷ [])
words_of (Four a b c d) = map word_of (a ∷ b ∷ c ∷ d ∷ [])
words_of (Six a b c d e f) = map word_of (a ∷ b ∷ c ∷ d ∷ e ∷ f ∷ [])
words_of (Each words) = words.now
words_of (Before a b words) = map word_of (a ∷ b ∷ []) ++ words.now

abbrev pub text_of : RowText → Option (List ℕ)
text_of Without = None
text_of (Said octets) = Some octets.now
text_of (Given octets) = Some octets.now
text_of (Ending octets end) = Some (octets.now ++ end.now)
text_of (Joined a b c d) = Some (flat_map word_of (a ∷ b ∷ c ∷ d ∷ []))
text_of (Spaced names) = Some (names_text names.now)

abbrev pub row_of : BorrowedRow → RowForm
row_of r = record { code = r.0.now; words = words_of r.1; text = text_of r.2 }
