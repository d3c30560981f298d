-- How what a play keeps stands for its book: this project's own choice.
use Rattle.std.specs.Prelude.{◌≡◌, ℕ, ◌-◌, ◌<◌, ◌≤◌, Bool, cond, List, length, map, slice_index_or, Option, Some, None}
use Rattle.chronicle.specs.History.{Rec, accepted}
use Rattle.book.specs.Ring.{Waiting}
use Rattle.book.specs.Ledger.{Shown, Turn, Out, IsOut, is_here}
use Rattle.interleave.specs.declared.worker.Place.{Place}
use Rattle.interleave.specs.declared.worker.Place.TheVariants.{Home, Hand, Begun}
use Rattle.interleave.specs.declared.play.Holder.{Holder}
use Rattle.interleave.specs.Inbox.{Held, held_at}
use Rattle.interleave.specs.State.{Seen, State, IsSound}

abbrev pub seen_of : Held → Seen
seen_of b = b.seen

abbrev pub worker_of : Option Holder → Option ℕ
worker_of None = None
worker_of (Some x) = Some x.worker

-- without the batons and the plan
abbrev pub state_of : Shown Waiting → ℕ → List Held → List (Option ℕ) → Option Holder → State
state_of m sendq boxes jobs holder = record {
  book = m;
  sendq = sendq;
  inboxes = map seen_of boxes;
  jobs = jobs;
  holder = worker_of holder;
}

-- a baton goes on where its line ends, not where that begins
abbrev pub next_at : Place → ℕ → ℕ
next_at Home n = n
next_at (Hand w) n = n
next_at (Begun w) n = n - 1

abbrev pub baton_at : List Rec → ℕ → Place → Turn
baton_at h t place = record { session = t; next = next_at place (length (accepted h t)) }

-- the plan of a line of this session, or of a sweep or a tick
abbrev pub IsPlanOf : List Rec → Option ℕ → Out → Type 0
IsPlanOf h None p = p.next ≡ None
IsPlanOf h (Some s) p = (p.session ≡ s) × (p.next ≡ Some (length (accepted h s))) × (0 < length (accepted h s))

-- who holds the lock has the plan that is out
abbrev pub IsHolding : Shown Waiting → List (Option ℕ) → Option Holder → Type 0
IsHolding m jobs None = Unit {0}
IsHolding m jobs (Some x) = IsOut m x.plan × IsPlanOf m.history (slice_index_or jobs (x.worker - 1) None) x.plan

-- a session has its baton until it is given up
abbrev pub baton_of : Bool → Turn → Option Turn
baton_of here turn = cond here (Some turn) None

-- what clauses see is sound, and each session has its baton
pub record IsKept (m : Shown Waiting) (sendq : ℕ) (boxes : List Held) (jobs : List (Option ℕ))
    (holder : Option Holder) : Type 0 where
  pub sound : IsSound (state_of m sendq boxes jobs holder)
  pub turns : (t : ℕ) → 0 < t → t ≤ length boxes → (held_at boxes t).turn
      ≡ baton_of (is_here m.outboxes t) (baton_at m.history t (held_at boxes t).seen.place)
  pub holding : IsHolding m jobs holder
