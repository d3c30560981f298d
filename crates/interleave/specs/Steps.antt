-- The steps of a play: a relation of the state, an event, its answer and the state after it. This project's own
-- promise.
use Rattle.std.specs.Prelude.{◌≡◌, ℕ, ℤ, ◌+◌, ◌-◌, ◌==◌, Bool, true, false, not, ◌&&◌, List, [], ◌∷◌, ◌++◌}
use Rattle.std.specs.Prelude.{length, slice_get, slice_set, Option, Some, None, Result, Ok, Err}
use Rattle.std.specs.List.{list_any}
use Rattle.line_grammar.specs.declared.splitter.Piece.{Piece}
use Rattle.line_grammar.specs.Lines.{lines}
use Rattle.casemapping.specs.Names.{host_shape}
use Rattle.chronicle.specs.declared.record.Kind.TheVariants as kind
use Rattle.chronicle.specs.declared.why.Why.{Why}
use Rattle.chronicle.specs.History.{Rec, sessions, accepted, shut, actor}
use Rattle.chronicle.specs.Idle.{is_tick}
use Rattle.deliveries.specs.declared.delivery.Delivery.{Delivery}
use Rattle.book.specs.Ring.{empty_ring}
use Rattle.book.specs.Done.{Done}
use Rattle.book.specs.Hung.{Hung}
use Rattle.book.specs.Step.{Step}
use Rattle.book.specs.Step.TheVariants as step
use Rattle.book.specs.Ledger.{MayOpen, MayBegin, MayHang, MaySweep, MayTick, MayReap}
use Rattle.book.specs.Ledger.{HasRoom, newest_missed, to_sweep, to_ping}
use Rattle.book.specs.Ledger as book
use Rattle.book.specs.RingAnswers.{told_of}
use Rattle.interleave.specs.declared.worker.Place.{Place}
use Rattle.interleave.specs.declared.worker.Place.TheVariants.{Home, Hand, Begun}
use Rattle.interleave.specs.declared.event.Event.{Event}
use Rattle.interleave.specs.declared.event.Event.TheVariants.{Connect, Feed, Pick, Begin, Put, End, Back}
use Rattle.interleave.specs.declared.event.Event.TheVariants.{Take, Hang, Sweep, Tick, Reap}
use Rattle.interleave.specs.declared.event.Note.{Note}
use Rattle.interleave.specs.declared.event.Note.TheVariants as note
use Rattle.interleave.specs.declared.event.StepRefusal.{StepRefusal}
use Rattle.interleave.specs.State.{Seen, State, nothing_fed, inbox_at, job_of, queue_of}
use Rattle.interleave.specs.Refusals.{turn_of, own_refusal, IsRefused}

-- a client's host has the shape of one
abbrev pub IsWellShaped : Event → Type 0
IsWellShaped (Connect host moment) = host_shape host ≡ true
IsWellShaped (Feed s octets) = Unit {0}
IsWellShaped (Pick w s) = Unit {0}
IsWellShaped (Begin w moment) = Unit {0}
IsWellShaped (Put w) = Unit {0}
IsWellShaped (End w) = Unit {0}
IsWellShaped (Back w) = Unit {0}
IsWellShaped (Take s) = Unit {0}
IsWellShaped (Hang w s why moment) = Unit {0}
IsWellShaped (Sweep w moment) = Unit {0}
IsWellShaped (Tick w moment) = Unit {0}
IsWellShaped (Reap s) = Unit {0}

-- ---- the states after steps

abbrev pub with_inbox : State → ℕ → Seen → List Seen
with_inbox m s b = slice_set m.inboxes (s - 1) b

abbrev pub with_job : State → ℕ → Option ℕ → List (Option ℕ)
with_job m w j = slice_set m.jobs (w - 1) j

-- a session's baton went elsewhere
abbrev pub with_place : Seen → Place → Seen
with_place b place = record { fed = b.fed; pending = b.pending; place = place; taken = b.taken; left = b.left }

-- one more item was taken of a session
abbrev pub with_taken : Seen → Delivery → Seen
with_taken b x = record { fed = b.fed; pending = b.pending; place = b.place; taken = b.taken ++ x ∷ []; left = b.left }

-- what waited for it was set aside
abbrev pub with_left : Seen → List Delivery → Seen
with_left b xs = record { fed = b.fed; pending = b.pending; place = b.place; taken = b.taken; left = xs }

-- a worker began its first line
abbrev pub with_begun : Seen → ℕ → List Piece → Seen
with_begun b w rest = record { fed = b.fed; pending = rest; place = Begun w; taken = b.taken; left = b.left }

-- octets, and the lines that ended in them
abbrev pub with_fed : Seen → List ℕ → List Piece → Seen
with_fed b octets added = record {
  fed = b.fed ++ octets;
  pending = b.pending ++ added;
  place = b.place;
  taken = b.taken;
  left = b.left;
}

-- one more session, of which nothing was read
abbrev pub step_connect : State → List ℕ → ℤ → State
step_connect m host moment = record {
  book = book.after_open m.book host moment (empty_ring m.sendq);
  sendq = m.sendq;
  inboxes = m.inboxes ++ nothing_fed ∷ [];
  jobs = m.jobs;
  holder = m.holder;
}

-- octets were fed to a session, and lines ended in them
abbrev pub step_feed : State → ℕ → List ℕ → List Piece → State
step_feed m s octets added = record {
  book = m.book;
  sendq = m.sendq;
  inboxes = with_inbox m s (with_fed (inbox_at m s) octets added);
  jobs = m.jobs;
  holder = m.holder;
}

-- a worker has a session's baton and its first unread line
abbrev pub step_pick : State → ℕ → ℕ → State
step_pick m w s = record {
  book = m.book;
  sendq = m.sendq;
  inboxes = with_inbox m s (with_place (inbox_at m s) (Hand w));
  jobs = with_job m w (Some s);
  holder = m.holder;
}

-- a line is accepted, its deliveries are planned, and its worker holds the lock
abbrev pub step_begin : State → ℕ → ℕ → Piece → List Piece → ℤ → State
step_begin m w s piece rest moment =
    record {
      book = book.after_begin m.book (kind.Said s (length (accepted m.book.history s)) piece) moment;
      sendq = m.sendq;
      inboxes = with_inbox m s (with_begun (inbox_at m s) w rest);
      jobs = m.jobs;
      holder = Some w;
    }

-- the plan's first delivery was put, or missed where its outbox was full
abbrev pub step_put : State → State
step_put m = record {
  book = book.put_next m.book m.book.plan;
  sendq = m.sendq;
  inboxes = m.inboxes;
  jobs = m.jobs;
  holder = m.holder;
}

-- the lock is free, and the baton is back where the plan was a line's
abbrev pub step_end : State → ℕ → Option ℕ → State
step_end m w None = record {
  book = book.after_end m.book;
  sendq = m.sendq;
  inboxes = m.inboxes;
  jobs = m.jobs;
  holder = None;
}
step_end m w (Some s) = record {
  book = book.after_end m.book;
  sendq = m.sendq;
  inboxes = with_inbox m s (with_place (inbox_at m s) Home);
  jobs = with_job m w None;
  holder = None;
}

-- the line in the worker's hand is unread again, and the baton is back
abbrev pub back : State → ℕ → ℕ → State
back m w s = record {
  book = m.book;
  sendq = m.sendq;
  inboxes = with_inbox m s (with_place (inbox_at m s) Home);
  jobs = with_job m w None;
  holder = m.holder;
}

-- what waited longest for a session was taken
abbrev pub step_take : State → ℕ → Delivery → State
step_take m s x = record {
  book = book.after_take m.book s;
  sendq = m.sendq;
  inboxes = with_inbox m s (with_taken (inbox_at m s) x);
  jobs = m.jobs;
  holder = m.holder;
}

-- a session was ended, and its last item was put or missed at once
abbrev pub step_hang : State → ℕ → Why → ℤ → State
step_hang m s why moment = record {
  book = book.after_all m.book (kind.Hung s why) moment;
  sendq = m.sendq;
  inboxes = m.inboxes;
  jobs = m.jobs;
  holder = m.holder;
}

-- a session is gone, its deliveries are planned, and a worker holds the lock
abbrev pub step_sweep : State → ℕ → ℕ → ℤ → State
step_sweep m w s moment = record {
  book = book.after_begin m.book (kind.Gone s) moment;
  sendq = m.sendq;
  inboxes = m.inboxes;
  jobs = m.jobs;
  holder = Some w;
}

-- the idle are pinged, their deliveries are planned, and a worker holds the lock
abbrev pub step_tick : State → ℕ → ℤ → State
step_tick m w moment = record {
  book = book.after_begin m.book kind.Ticked moment;
  sendq = m.sendq;
  inboxes = m.inboxes;
  jobs = m.jobs;
  holder = Some w;
}

-- a session was given up, and what waited for it was set aside
abbrev pub step_reap : State → ℕ → State
step_reap m s = record {
  book = book.after_reap m.book s;
  sendq = m.sendq;
  inboxes = with_inbox m s (with_left (inbox_at m s) (queue_of m s));
  jobs = m.jobs;
  holder = m.holder;
}

-- ---- what a step that isn't refused does

abbrev pub IsFeed : State → ℕ → List ℕ → Note → State → Type 0
IsFeed m s octets n k = (added : List Piece)
    × (lines ((inbox_at m s).fed ++ octets) ≡ lines (inbox_at m s).fed ++ added) × (n ≡ note.Read (length added))
    × (k ≡ step_feed m s octets added)

-- of the session whose line the worker has
abbrev pub IsBegin : State → ℕ → Option ℕ → ℤ → Note → State → Type 0
IsBegin m w None moment n k = ⊥
IsBegin m w (Some s) moment n k =
    (piece : Piece) × (rest : List Piece) × ((inbox_at m s).pending ≡ piece ∷ rest)
    × MayBegin m.book (turn_of m.book s) moment × (n ≡ note.Record (length m.book.history + 1))
    × (k ≡ step_begin m w s piece rest moment)

abbrev pub note_of : Step → Note
note_of (step.Put s) = note.Put s
note_of (step.Missed s) = note.Missed s

abbrev pub IsPut : State → Note → State → Type 0
IsPut m n k = (s : Step) × (told_of m.book m.book.plan ≡ Some s) × (n ≡ note_of s) × (k ≡ step_put m)

-- whether the session of the newest record is shut; a tick has none
abbrev pub is_actor_shut : List Rec → Bool
is_actor_shut [] = false
is_actor_shut (r ∷ h) = not (is_tick r.kind) && shut (r ∷ h) (actor r.kind)

-- the number and the missed of the record, and whether its session is shut
abbrev pub IsEnd : State → ℕ → Note → State → Type 0
IsEnd m w n k =
    (d : Done) × (n ≡ note.Done d) × (d.number ≡ length m.book.history) × (d.missed ≡ newest_missed m.book.history)
    × (d.shut ≡ is_actor_shut m.book.history) × (k ≡ step_end m w (job_of m w))

abbrev pub IsBack : State → ℕ → Option ℕ → Note → State → Type 0
IsBack m w None n k = ⊥
IsBack m w (Some s) n k = (n ≡ note.Back) × (k ≡ back m w s)

-- of what waits longest
abbrev pub IsTake : State → ℕ → Option Delivery → Note → State → Type 0
IsTake m s None n k = (n ≡ note.Empty) × (k ≡ m)
IsTake m s (Some x) n k = (n ≡ note.Item x) × (k ≡ step_take m s x)

abbrev pub IsHang : State → ℕ → Why → ℤ → Note → State → Type 0
IsHang m s why moment n k =
    (d : Hung) × (n ≡ note.Hung d) × MayHang m.book s moment × (d.number ≡ length m.book.history + 1)
    × (d.missed ≡ list_any (λ u. u == s) (newest_missed k.book.history)) × (k ≡ step_hang m s why moment)

-- of the session that is to be swept
abbrev pub IsSweep : State → ℕ → Option ℕ → ℤ → Note → State → Type 0
IsSweep m w None moment n k = (n ≡ note.Swept None) × (k ≡ m)
IsSweep m w (Some s) moment n k = (n ≡ note.Swept (Some (length m.book.history + 1))) × (k ≡ step_sweep m w s moment)

-- of those who are to be pinged
abbrev pub IsTick : State → ℕ → List ℕ → ℤ → Note → State → Type 0
IsTick m w [] moment n k = (n ≡ note.Ticked None) × (k ≡ m)
IsTick m w (t ∷ ts) moment n k = HasRoom m.book × (n ≡ note.Ticked (Some (length m.book.history + 1)))
    × (k ≡ step_tick m w moment)

abbrev pub IsDone : State → Event → Note → State → Type 0
IsDone m (Connect host moment) n k = MayOpen m.book moment × (n ≡ note.Session (sessions m.book.history + 1))
    × (k ≡ step_connect m host moment)
IsDone m (Feed s octets) n k = IsFeed m s octets n k
IsDone m (Pick w s) n k = (n ≡ note.Picked) × (k ≡ step_pick m w s)
IsDone m (Begin w moment) n k = IsBegin m w (job_of m w) moment n k
IsDone m (Put w) n k = IsPut m n k
IsDone m (End w) n k = IsEnd m w n k
IsDone m (Back w) n k = IsBack m w (job_of m w) n k
IsDone m (Take s) n k = IsTake m s (slice_get (queue_of m s) 0) n k
IsDone m (Hang w s why moment) n k = IsHang m s why moment n k
IsDone m (Sweep w moment) n k = MaySweep m.book moment × IsSweep m w (to_sweep m.book.history) moment n k
IsDone m (Tick w moment) n k = MayTick m.book moment × IsTick m w (to_ping m.book.history moment) moment n k
IsDone m (Reap s) n k = MayReap m.book s × (n ≡ note.Left (length (queue_of m s))) × (k ≡ step_reap m s)

-- one event, its answer, and the state after it. A refusal changes nothing
abbrev pub IsStep : State → Event → Result Note StepRefusal → State → Type 0
IsStep m e (Ok n) k = (own_refusal m e ≡ None) × IsDone m e n k
IsStep m e (Err r) k = IsRefused m e (own_refusal m e) r × (k ≡ m)
