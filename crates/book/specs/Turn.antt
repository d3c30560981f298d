-- What clauses see of a baton: this project's own.
use Rattle.std.specs.Prelude.{◌≡◌, ℕ, ◌+◌, List, [], ◌∷◌, ◌++◌, length}
use Rattle.line_grammar.specs.declared.splitter.Piece.{Piece}
use Rattle.chronicle.specs.History.{Rec, accepted}

-- whose line is next and which, the pieces done with the baton, and the history when the newest of them was done, or
-- when the session was opened
pub record BatonView : Type 0 where
  pub session : ℕ
  pub next : ℕ
  pub pieces : List Piece
  pub front : List Rec

-- the pieces done with a baton are those that its history accepts of its session, and are counted
pub record IsInTurn (b : BatonView) : Type 0 where
  pub next : b.next ≡ length b.pieces
  pub pieces : b.pieces ≡ accepted b.front b.session

-- the baton of a session that was opened by this history
abbrev pub new_turn : ℕ → List Rec → BatonView
new_turn s h = record { session = s; next = 0; pieces = []; front = h }

-- one more piece was done, by this history
abbrev pub next_turn : BatonView → Piece → List Rec → BatonView
next_turn b p h = record { session = b.session; next = b.next + 1; pieces = b.pieces ++ p ∷ []; front = h }
