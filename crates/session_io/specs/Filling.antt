-- What is read of a stream: words of private contracts.
use Rattle.std.specs.Prelude.{◌≡◌, ℕ, Bool, true, List, length, take, Option}
use Rattle.std.specs.Io.KnownBytes.{Consumes}
use Rattle.line_grammar.specs.declared.splitter.Piece.{Piece}
use Rattle.line_grammar.specs.Lines.{left_by, Feeds}
use Rattle.receive_buffer.specs.Taking.{Taken}
use Rattle.session_io.specs.Doing.{DoesFront}

-- the next octets were read, none of them where pieces were left, and the pieces that end in them come after those
-- that were left
pub record Fills (before after : Option (List ℕ)) (was now : Taken) : Type 0 where
  pub octets : List ℕ
  pub read : Consumes before after octets
  pub feeds : (stream : List ℕ) → was.kept ≡ left_by stream
      → Feeds stream octets now.kept was.pieces now.pieces

-- of the pieces of an intake the first were done, in order, after the old ones; where `all` is true the others are
-- left in it, in order. What is unfinished stays as it was
pub record DoesPieces (was now : Taken) (old new : List Piece) (all : Bool) : Type 0 where
  pub front : DoesFront old new was.pieces
  pub leaves : all ≡ true → now.pieces ≡ front.left
  pub keeps : now.kept ≡ was.kept

-- these pieces are the first of those
abbrev pub IsFront : List Piece → List Piece → Type 0
IsFront first pieces = take (length first) pieces ≡ first
