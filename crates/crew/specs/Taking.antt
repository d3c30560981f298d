-- What is read of a stream: words of private contracts.
use Rattle.std.specs.Prelude.{◌≡◌, ℕ, List, ◌++◌, Option}
use Rattle.std.specs.Io.KnownBytes.{Consumes}
use Rattle.line_grammar.specs.declared.splitter.Piece.{Piece}
use Rattle.line_grammar.specs.Lines.{lines, left_by}

-- octets were read, all of whose lines were done after the old ones, and this is kept of the unfinished one
pub record HasDone (before after : Option (List ℕ)) (old new : List Piece) (now : Option (List ℕ)) : Type 0 where
  pub octets : List ℕ
  pub read : Consumes before after octets
  pub done : new ≡ old ++ lines octets
  pub kept : now ≡ left_by octets
