-- The lines of a text, which CR LF ends (RFC 2812, section 2.3).
use Rattle.std.specs.Prelude.{ℕ, suc, ◌+◌, ◌==◌, ◌&&◌, cond, nat_eq, List, [], ◌∷◌, ◌++◌}
use Rattle.std.specs.List.{starts_with}
use Rattle.answer_octets.specs.TextLines.{text_lines}

-- CR LF
abbrev pub line_break : List ℕ
line_break = 13 ∷ 10 ∷ []

-- how many octets stand before the first CR LF: all, where there is none
abbrev pub line_length : List ℕ → ℕ
line_length [] = 0
line_length (x ∷ xs) = cond (starts_with nat_eq (x ∷ xs) line_break) 0 (suc (line_length xs))

-- the CR LF that the last line of a text lacks, if it lacks one
abbrev pub lacked_end : List ℕ → List ℕ
lacked_end [] = []
lacked_end (b ∷ []) = line_break
lacked_end (b ∷ c ∷ rest) = cond (b == 13 && c == 10) (lacked_end rest) (lacked_end (c ∷ rest))

-- the lines of a text, without their CR LF, as whoever receives it reads it; a last line without its end is one, too
unfoldable pub lines : List ℕ → List (List ℕ)
lines text = text_lines (text ++ lacked_end text)
