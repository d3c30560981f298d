-- What a session's inbox holds, and how reading changes it: this project's own choice.
use Rattle.std.specs.Prelude.{◌≡◌, ℕ, ℤ, ◌+◌, ◌-◌, List, ◌∷◌, ◌++◌, length}
use Rattle.std.specs.Prelude.{slice_index_or, slice_set, Option, Some, None}
use Rattle.line_grammar.specs.declared.splitter.Piece.{Piece}
use Rattle.line_grammar.specs.Lines.{lines}
use Rattle.chronicle.specs.declared.record.Kind.TheVariants.{Said}
use Rattle.deliveries.specs.declared.delivery.Delivery.{Delivery}
use Rattle.interleave.specs.declared.worker.Place.{Place}
use Rattle.interleave.specs.declared.worker.Place.TheVariants.{Home}
use Rattle.book.specs.Ring.{Waiting}
use Rattle.book.specs.Ledger.{Shown, Turn, Out, IsOut, MayBegin, after_begin}
use Rattle.interleave.specs.State.{Seen, nothing_fed}
use Rattle.interleave.specs.Steps.{with_place, with_left, with_fed, with_begun}

-- what clauses see of it, and the session's baton until that is given up
pub record Held : Type 0 where
  pub seen : Seen
  pub turn : Option Turn

abbrev pub with_seen : Held → Seen → Held
with_seen b seen = record { seen = seen; turn = b.turn }

-- the baton went elsewhere
abbrev pub moved_to : Held → Place → Held
moved_to b place = with_seen b (with_place b.seen place)

-- a line ended: the baton is at home and goes on
abbrev pub ended_at : Held → Turn → Held
ended_at b turn = record {
  seen = with_place b.seen Home;
  turn = Some (record { session = turn.session; next = turn.next + 1 });
}

-- the session was given up with its baton, and so much was left
abbrev pub reaped_at : Held → List Delivery → Held
reaped_at b items = record { seen = with_left b.seen items; turn = None }

abbrev pub no_inbox : Held
no_inbox = record { seen = nothing_fed; turn = None }

-- of session t
abbrev pub held_at : List Held → ℕ → Held
held_at boxes t = slice_index_or boxes (t - 1) no_inbox

abbrev pub with_held : List Held → ℕ → Held → List Held
with_held boxes t b = slice_set boxes (t - 1) b

-- octets were read, and n lines ended in them
pub record IsRead (b : Held) (octets : List ℕ) (n : ℕ) (c : Held) : Type 0 where
  pub added : List Piece
  pub adds : lines (b.seen.fed ++ octets) ≡ lines b.seen.fed ++ added
  pub number : n ≡ length added
  pub after : c ≡ with_seen b (with_fed b.seen octets added)

-- the book m began the line in a worker's hand, and is k
pub record IsBegun (b : Held) (m : Shown Waiting) (w : ℕ) (moment : ℤ) (p : Out) (c : Held)
    (k : Shown Waiting) : Type 0 where
  pub turn : Turn
  pub piece : Piece
  pub rest : List Piece
  pub baton : b.turn ≡ Some turn
  pub next : b.seen.pending ≡ piece ∷ rest
  pub may : MayBegin m turn moment
  pub out : IsOut k p
  pub line : (p.session ≡ turn.session) × (p.next ≡ Some (turn.next + 1))
  pub book : k ≡ after_begin m (Said turn.session turn.next piece) moment
  pub inbox : c ≡ with_seen b (with_begun b.seen w rest)
