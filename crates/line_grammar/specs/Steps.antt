-- What the steps of cutting a stream into lines do, each in terms of the lines: this project's own choice.
use Rattle.std.specs.Prelude.{◌≡◌, ℕ, true, false, List, [], ◌∷◌, ◌++◌, Option, Some, None}
use Rattle.std.specs.List.{list_any}
use Rattle.line_grammar.specs.declared.splitter.Piece.{Piece}
use Rattle.line_grammar.specs.declared.splitter.Piece.TheVariants.{Line, TooLong}
use Rattle.line_grammar.specs.Lines.{is_line_end, kept_of}

-- what is kept where the line goes on
abbrev pub kept_with : Option (List ℕ) → List ℕ → Option (List ℕ)
kept_with None bs = None
kept_with (Some line) bs = kept_of (line ++ bs)

-- the piece that a line end makes of what was kept: none of an empty line
abbrev pub ended_piece : Option (List ℕ) → List Piece
ended_piece None = TooLong ∷ []
ended_piece (Some []) = []
ended_piece (Some (b ∷ bs)) = Line (b ∷ bs) ∷ []

-- octets are a front with no line end in it, a line end, and a rest
pub record EndsLine (octets front rest : List ℕ) : Type 0 where
  pub line_end : ℕ
  pub whole : octets ≡ front ++ line_end ∷ rest
  pub is_end : is_line_end line_end ≡ true
  pub none_before : list_any is_line_end front ≡ false
