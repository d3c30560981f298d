-- The rule of a register, and how seats are split and joined under it: this project's own.
use Rattle.std.specs.Prelude.{◌≡◌, ℕ, List, [], ◌∷◌, ◌++◌, Option, Some, None, IfSome}
use mathlib.Core.Option as opt
use lib.ListN.{get_elem?}
use Rattle.line_grammar.specs.declared.splitter.Piece.{Piece}
use Rattle.register.specs.declared.claims.Row.{Row}
use Rattle.register.specs.declared.claims.MarkClaim.{MarkClaim}
use Rattle.register.specs.declared.claims.StubClaim.{StubClaim}
use Rattle.register.specs.declared.claims.Known.{Known}
use Rattle.register.specs.Rows.{outbox_at, pieces_at, with_piece}

-- the first, if there is one
abbrev pub either : {A : Type 0} → Option A → Option A → Option A
either None o = o
either (Some x) o = Some x

module _ {N : Type 0} where
  -- seat `by` has the mark of a session, and the pieces that it shows are those of the session's row
  abbrev pub IsMark : List (Row N) → (ℕ → ℕ) → ℕ → MarkClaim → Type 0
  IsMark rows mark_of by m = (mark_of m.session ≡ by) × (pieces_at rows m.session ≡ Some m.pieces)

  -- seat `by` has the stub of a session, and the outbox that it shows is that of the session's row
  abbrev pub IsStub : List (Row N) → (ℕ → ℕ) → ℕ → StubClaim N → Type 0
  IsStub rows stub_of by n = (stub_of n.session ≡ by) × (outbox_at rows n.session ≡ Some n.outbox)

  -- the register's own seat shows all rows; a mark's seat shows one session and its pieces, a stub's one session and
  -- its outbox. A session has one mark and one stub at most. A spent seat shows nothing
  abbrev pub Fits : ℕ → List (Row N) → (ℕ → ℕ) → (ℕ → ℕ) → ℕ → Known N → Type 0
  Fits own rows mark_of stub_of by v = IfSome v.rows (λ xs. (by ≡ own) × (xs ≡ rows))
      × IfSome v.mark (IsMark rows mark_of by) × IfSome v.stub (IsStub rows stub_of by)

  -- the rule: there are rows, a seat that is the register's own, and a seat for each session's mark and for its
  -- stub, and all views fit these
  pub record Kept (views : List (Known N)) : Type 0 where
    pub own : ℕ
    pub rows : List (Row N)
    pub mark_of : ℕ → ℕ
    pub stub_of : ℕ → ℕ
    pub fits : (by : ℕ) (v : Known N) → get_elem? views by ≡ opt.some v → Fits own rows mark_of stub_of by v

  -- ---- views

  abbrev pub keeper : List (Row N) → Known N
  keeper xs = record { rows = Some xs; mark = None; stub = None }

  abbrev pub only_mark : Option MarkClaim → Known N
  only_mark m = record { rows = None; mark = m; stub = None }

  abbrev pub only_stub : Option (StubClaim N) → Known N
  only_stub n = record { rows = None; mark = None; stub = n }

  abbrev pub only_rows : Known N → Known N
  only_rows v = record { rows = v.rows; mark = None; stub = None }

  abbrev pub without_stub : Known N → Known N
  without_stub v = record { rows = v.rows; mark = v.mark; stub = None }

  abbrev pub spent : Known N
  spent = record { rows = None; mark = None; stub = None }

  -- ---- steps

  -- the register's own seat lets a session in: it has the row and the stub, and the mark is split off
  abbrev pub letting_in : Row N → Option (List (Row N)) → Known N → Known N
  letting_in r None v = v
  letting_in r (Some xs) v = record {
    rows = Some (r ∷ xs);
    mark = v.mark;
    stub = Some (record { session = r.session; outbox = r.outbox });
  }

  abbrev pub admitting : Option (Row N) → Known N → Known N
  admitting None v = v
  admitting (Some r) v = letting_in r v.rows v

  abbrev pub let_in : Row N → Option (List (Row N)) → Known N
  let_in r None = spent
  let_in r (Some xs) = only_mark (Some (record { session = r.session; pieces = r.pieces }))

  abbrev pub admitted : Option (Row N) → Known N → Known N
  admitted None v = spent
  admitted (Some r) v = let_in r v.rows

  -- a seat takes in the mark or the stub of another
  abbrev pub joined : Known N → Known N → Known N
  joined v w = record { rows = v.rows; mark = either w.mark v.mark; stub = either w.stub v.stub }

  -- the register's own seat has a mark in, and its session's row gets one more piece
  abbrev pub adding : Piece → Option (List (Row N)) → Option MarkClaim → Known N → Known N
  adding p None m v = v
  adding p (Some xs) None v = v
  adding p (Some xs) (Some m) v = record { rows = Some (with_piece xs m.session p); mark = None; stub = v.stub }

  abbrev pub advancing : Option Piece → Known N → Known N
  advancing None v = v
  advancing (Some p) v = adding p v.rows v.mark v

  -- and the mark is split off, with that piece
  abbrev pub added : Piece → Option (List (Row N)) → Option MarkClaim → Known N
  added p None m = spent
  added p (Some xs) None = spent
  added p (Some xs) (Some m) = only_mark (Some (record { session = m.session; pieces = m.pieces ++ p ∷ [] }))

  abbrev pub advanced : Option Piece → Known N → Known N
  advanced None v = spent
  advanced (Some p) v = added p v.rows v.mark

  -- what the register's own seat has taken in is what stands in its rows
  abbrev pub Learns : Known N → Type 0
  Learns v = IfSome v.rows (λ xs. IfSome v.mark (λ m. pieces_at xs m.session ≡ Some m.pieces)
      × IfSome v.stub (λ n. outbox_at xs n.session ≡ Some n.outbox))
