-- What clauses see of a register and of its tokens: this project's own.
use Rattle.std.specs.Prelude.{ℕ, List, [], ◌∷◌, ◌++◌, Option, Some, None}
use Rattle.atomic_table.specs.Seated.{TableId}
use Rattle.line_grammar.specs.declared.splitter.Piece.{Piece}
use Rattle.register.specs.declared.claims.Row.{Row}
use Rattle.register.specs.declared.claims.MarkClaim.{MarkClaim}
use Rattle.register.specs.declared.claims.StubClaim.{StubClaim}
use Rattle.register.specs.declared.claims.Known.{Known}
use Rattle.register.specs.Rows.{new_row, with_piece}

-- a register: which table of seats it is, and its rows
pub record RegisterView (N : Type 0) : Type 0 where
  pub table : TableId
  pub rows : List (Row N)

-- a stub: its session, and the outbox that it was given for
pub record Stubbed (N : Type 0) : Type 0 where
  pub session : ℕ
  pub outbox : Option N

-- the mark of a session that was let in just now, and one with one more piece done
abbrev pub new_mark : ℕ → MarkClaim
new_mark s = record { session = s; pieces = [] }

abbrev pub longer_mark : MarkClaim → Piece → MarkClaim
longer_mark m p = record { session = m.session; pieces = m.pieces ++ p ∷ [] }

abbrev pub pieces_or : Option MarkClaim → List Piece
pieces_or None = []
pieces_or (Some m) = m.pieces

module _ {N : Type 0} where
  -- the stub of a session that was let in with this outbox
  abbrev pub new_stub : ℕ → N → Stubbed N
  new_stub s n = record { session = s; outbox = Some n }

  -- a session was let in
  abbrev pub with_session : RegisterView N → ℕ → N → RegisterView N
  with_session m s n = record { table = m.table; rows = new_row s n ∷ m.rows }

  -- one more piece of a session is done
  abbrev pub with_done : RegisterView N → ℕ → Piece → RegisterView N
  with_done m s p = record { table = m.table; rows = with_piece m.rows s p }

  -- ---- what a seat shows, and nothing where it doesn't

  abbrev pub rows_or : Option (List (Row N)) → List (Row N)
  rows_or None = []
  rows_or (Some xs) = xs

  abbrev pub rows_of : Known N → List (Row N)
  rows_of v = rows_or v.rows

  abbrev pub pieces_of : Known N → List Piece
  pieces_of v = pieces_or v.mark

  abbrev pub outbox_or : Option (StubClaim N) → Option N
  outbox_or None = None
  outbox_or (Some n) = Some n.outbox

  abbrev pub outbox_of : Known N → Option N
  outbox_of v = outbox_or v.stub

  abbrev pub session_or : Option (StubClaim N) → Option ℕ
  session_or None = None
  session_or (Some n) = Some n.session

  -- the session whose stub a seat has
  abbrev pub stub_session : Known N → Option ℕ
  stub_session v = session_or v.stub
