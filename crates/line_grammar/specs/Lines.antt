-- The lines of a byte stream: RFC 2812, section 2.3 (either CR or LF ends a line, empty ones are ignored), with the
-- limits of IRCv3 message-tags (4094 octets of tag data, 510 of the rest).
use Rattle.std.specs.Prelude.{◌≡◌, ℕ, Bool, false, ◌||◌, ◌==◌, nat_lt, cond, List, []}
use Rattle.std.specs.Prelude.{◌∷◌, ◌++◌, length, Option, Some, None}
use Rattle.std.specs.List.{flat_map, list_any}
use Rattle.line_grammar.specs.declared.splitter.Piece.{Piece}
use Rattle.line_grammar.specs.declared.splitter.Piece.TheVariants.{Line, TooLong}

-- CR or LF
abbrev pub is_line_end : ℕ → Bool
is_line_end b = b == 13 || b == 10

-- a line goes on to the left by one octet; what never ends is no line
abbrev pub longer : ℕ → List (List ℕ) → List (List ℕ)
longer b [] = []
longer b (line ∷ more) = (b ∷ line) ∷ more

-- each line that ends in the stream, empty ones included
abbrev pub ended_lines : List ℕ → List (List ℕ)
ended_lines [] = []
ended_lines (b ∷ bs) = cond (is_line_end b) ([] ∷ ended_lines bs) (longer b (ended_lines bs))

-- what stands after the last line end
abbrev pub open_line : List ℕ → List ℕ
open_line [] = []
open_line (b ∷ bs) = cond (is_line_end b || list_any is_line_end bs) (open_line bs) (b ∷ open_line bs)

-- what stands after the first space: nothing where there is none
abbrev pub after_space : List ℕ → List ℕ
after_space [] = []
after_space (b ∷ bs) = cond (b == 32) bs (after_space bs)

-- what stands before the first space: all where there is none
abbrev pub before_space : List ℕ → List ℕ
before_space [] = []
before_space (b ∷ bs) = cond (b == 32) [] (b ∷ before_space bs)

-- more than 510 octets; in a line that begins with `@`, more than 4094 from there to the first space, or more than
-- 510 after it
abbrev pub is_too_long : List ℕ → Bool
is_too_long [] = false
is_too_long (b ∷ bs) = cond (b == 64)
    (nat_lt 4094 (length (before_space bs)) || nat_lt 510 (length (after_space bs))) (nat_lt 510 (length (b ∷ bs)))

-- an empty line is left out
abbrev pub piece_of : List ℕ → List Piece
piece_of [] = []
piece_of (b ∷ bs) = cond (is_too_long (b ∷ bs)) TooLong (Line (b ∷ bs)) ∷ []

-- the lines of a stream
abbrev pub lines : List ℕ → List Piece
lines bs = flat_map piece_of (ended_lines bs)

-- what is kept of a line: its octets, or only that it is too long
abbrev pub kept_of : List ℕ → Option (List ℕ)
kept_of line = cond (is_too_long line) None (Some line)

-- what a splitter keeps after a stream: the unfinished line, or only that it is too long
abbrev pub left_by : List ℕ → Option (List ℕ)
left_by bs = kept_of (open_line bs)

-- octets come after a stream: the list of pieces grows by the lines that end in them, and what is kept is left by
-- the longer stream
pub record Feeds (stream octets : List ℕ) (kept : Option (List ℕ)) (old new : List Piece) : Type 0 where
  pub added : List Piece
  pub keeps : kept ≡ left_by (stream ++ octets)
  pub grows : new ≡ old ++ added
  pub adds : lines (stream ++ octets) ≡ lines stream ++ added
