-- What is read of a stream: this project's own.
use Rattle.std.specs.Prelude.{◌≡◌, ℕ, List, [], Option}
use Rattle.std.specs.Io.KnownBytes.{Consumes}
use Rattle.line_grammar.specs.declared.splitter.Piece.{Piece}
use Rattle.line_grammar.specs.Lines.{left_by, Feeds}

-- what a clause sees of an intake: what is kept of the unfinished line, and the pieces that were read and aren't done
pub record Taken : Type 0 where
  pub kept : Option (List ℕ)
  pub pieces : List Piece

-- the next octets were read, and these are the pieces that end in them
pub record TakesIn (before after : Option (List ℕ)) (kept now : Option (List ℕ)) (pieces : List Piece) : Type 0 where
  pub octets : List ℕ
  pub read : Consumes before after octets
  pub feeds : (stream : List ℕ) → kept ≡ left_by stream → Feeds stream octets now [] pieces
