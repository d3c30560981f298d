-- What clauses see of lines that are done: this project's own promise of how the threads of a server do them.
use Rattle.std.specs.Prelude.{◌≡◌, ℕ, ℤ, Bool, true, false, List, ◌++◌, length, All, ◌⊎◌, Option}
use Rattle.std.specs.Io.KnownBytes.{Consumes}
use Rattle.line_grammar.specs.declared.splitter.Piece.{Piece}
use Rattle.line_grammar.specs.Lines.{lines, left_by}
use Rattle.chronicle.specs.History.{Rec, shut}
use Rattle.session_ends.specs.Turn.{BatonView}
use Rattle.session_ends.specs.Done.{Done as Told}
use Rattle.session_ends.specs.Ledger.{newest_missed}
use Rattle.session_ends.specs.Timing.{IsAt}
use Rattle.receive_buffer.specs.Taking.{Taken}
use Rattle.session_io.specs.declared.reading.Next.{Next}
use Rattle.session_io.specs.declared.reading.Next.TheVariants.{More, Short, Nothing, Left, Over}

-- what is told of a line is what its record says, which is the newest of this history: its number, who missed it,
-- and whether its own session is shut
pub record TellsOfNewest (told : Told) (h : List Rec) (session : ℕ) : Type 0 where
  pub number : told.number ≡ length h
  pub missed : told.missed ≡ newest_missed h
  pub shut : told.shut ≡ shut h session

-- all whom the newest record of a history misses were shut, and so was its own session where that is shut
pub record AreShut (shuts : ℕ → Type 0) (h : List Rec) (session : ℕ) : Type 0 where
  pub missed : All shuts (newest_missed h)
  pub own : shut h session ≡ true → shuts session

-- the newest line of a baton was done at a moment that the clock showed, or at that of the record before it where
-- that is later, and whom it shut was shut
pub record IsSeenTo (shows : ℤ → Type 0) (shuts : ℕ → Type 0) (b : BatonView) : Type 0 where
  pub clock : ℤ
  pub shown : shows clock
  pub moment : IsAt clock b.front
  pub shut : AreShut shuts b.front b.session

-- no line was done, or the newest was seen to
abbrev pub IsNewestSeenTo : (ℤ → Type 0) → (ℕ → Type 0) → BatonView → BatonView → Type 0
IsNewestSeenTo shows shuts old new = (new ≡ old) ⊎ IsSeenTo shows shuts new

-- of these pieces the first were done, in order, after the old ones
pub record DoesFront (old new pieces : List Piece) : Type 0 where
  pub done : List Piece
  pub left : List Piece
  pub parts : pieces ≡ done ++ left
  pub grown : new ≡ old ++ done

-- octets come after a stream: of the pieces that an intake had left and those that end in the octets the first were
-- done, in order, after the old ones; where `all` is true the others are left in the intake, in order, and it keeps
-- the unfinished line
pub record DoesNext (stream octets : List ℕ) (was now : Taken) (old new : List Piece) (all : Bool) : Type 0 where
  pub pieces : List Piece
  pub adds : lines (stream ++ octets) ≡ lines stream ++ pieces
  pub front : DoesFront old new (was.pieces ++ pieces)
  pub leaves : all ≡ true → now.pieces ≡ front.left
  pub keeps : all ≡ true → now.kept ≡ left_by (stream ++ octets)

-- the next octets of a stream were read, whatever came before, of which the intake kept what was unfinished
pub record DoesRead (before after : Option (List ℕ)) (was now : Taken) (old new : List Piece)
    (all : Bool) : Type 0 where
  pub octets : List ℕ
  pub read : Consumes before after octets
  pub next : (stream : List ℕ) → was.kept ≡ left_by stream → DoesNext stream octets was now old new all

-- no more is read
abbrev pub is_over : Next → Bool
is_over More = false
is_over Short = false
is_over Nothing = false
is_over Left = false
is_over (Over why) = true

-- nothing more is read, nor done, for now
abbrev pub is_left : Next → Bool
is_left More = false
is_left Short = false
is_left Nothing = false
is_left Left = true
is_left (Over why) = false
