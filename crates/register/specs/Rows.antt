-- What stands in a register: this project's own. A row a session, the newest first; a session has one at most.
use Rattle.std.specs.Prelude.{ℕ, ◌==◌, cond, List, [], ◌∷◌, ◌++◌, Option, Some, None}
use Rattle.line_grammar.specs.declared.splitter.Piece.{Piece}
use Rattle.register.specs.declared.claims.Row.{Row}

module _ {N : Type 0} where
  -- the row of a session that is let in with its outbox: nothing is done yet
  abbrev pub new_row : ℕ → N → Row N
  new_row s n = record { session = s; outbox = n; pieces = [] }

  -- which outbox a session has, where it was let in
  abbrev pub outbox_at : List (Row N) → ℕ → Option N
  outbox_at [] s = None
  outbox_at (r ∷ rs) s = cond (r.session == s) (Some r.outbox) (outbox_at rs s)

  -- the pieces done of a session, where it was let in
  abbrev pub pieces_at : List (Row N) → ℕ → Option (List Piece)
  pieces_at [] s = None
  pieces_at (r ∷ rs) s = cond (r.session == s) (Some r.pieces) (pieces_at rs s)

  abbrev pub longer : Row N → Piece → Row N
  longer r p = record { session = r.session; outbox = r.outbox; pieces = r.pieces ++ p ∷ [] }

  -- one more piece of a session is done
  abbrev pub with_piece : List (Row N) → ℕ → Piece → List (Row N)
  with_piece [] s p = []
  with_piece (r ∷ rs) s p = cond (r.session == s) (longer r p ∷ rs) (r ∷ with_piece rs s p)
