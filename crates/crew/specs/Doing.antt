-- What came of reading a session's lines on a thread of its own: this project's own.
use Rattle.std.specs.Prelude.{◌≡◌, ℕ, Bool, true, List, ◌++◌, Option}
use Rattle.std.specs.Io.KnownBytes.{Consumes}
use Rattle.line_grammar.specs.declared.splitter.Piece.{Piece}
use Rattle.line_grammar.specs.Lines.{lines}
use Rattle.session_io.specs.Doing.{DoesFront}

-- octets were read, of whose lines the first were done, in order, after the old ones; all of them where `all` is true
pub record DoesLines (before after : Option (List ℕ)) (old new : List Piece) (all : Bool) : Type 0 where
  pub octets : List ℕ
  pub read : Consumes before after octets
  pub front : DoesFront old new (lines octets)
  pub whole : all ≡ true → new ≡ old ++ lines octets
