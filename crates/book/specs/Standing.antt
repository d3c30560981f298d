-- How the rows of a register stand for a history: this project's own promise.
use Rattle.std.specs.Prelude.{◌≡◌, ℕ, ◌<◌, ◌≤◌, List, ◌∷◌, [], ◌++◌, ◌==◌, cond, Option, Some, None}
use Rattle.line_grammar.specs.declared.splitter.Piece.{Piece}
use Rattle.chronicle.specs.History.{Rec, sessions, accepted}
use Rattle.register.specs.declared.claims.Row.{Row}
use Rattle.register.specs.Rows.{outbox_at, pieces_at}

-- a line that was begun and isn't done yet: its session and its piece
abbrev pub Begun : Type 0
Begun = Option (ℕ × Piece)

-- what of it is of session t
abbrev pub begun_by : Begun → ℕ → List Piece
begun_by None t = []
begun_by (Some b) t = cond (b.0 == t) (b.1 ∷ []) []

-- each session that a history opened has a row, whose pieces, with the line that was begun, are those that the
-- history accepts; no other session has one
pub record StandsFor {N : Type 0} (rows : List (Row N)) (begun : Begun) (h : List Rec) : Type 0 where
  pub pieces : (t : ℕ) → 0 < t → t ≤ sessions h → (ps : List Piece) × (pieces_at rows t ≡ Some ps)
      × (accepted h t ≡ ps ++ begun_by begun t)
  pub none : (t : ℕ) → sessions h < t → outbox_at rows t ≡ None
