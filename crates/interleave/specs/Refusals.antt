-- Why a step is refused: the first cause that holds, want of memory apart. This project's own promise.
use Rattle.std.specs.Prelude.{◌≡◌, ◌≢◌, ℕ, ℤ, ◌||◌, Bool, true, false, cond, List, []}
use Rattle.std.specs.Prelude.{◌∷◌, length, Option, Some, None, IsSome}
use Rattle.std.specs.Option.{is_some}
use Rattle.chronicle.specs.History.{accepted}
use Rattle.book.specs.Ring.{Waiting}
use Rattle.book.specs.OpenRefusal.{OpenRefusal}
use Rattle.book.specs.OpenRefusal.TheVariants as opening
use Rattle.book.specs.LineRefusal.{LineRefusal}
use Rattle.book.specs.LineRefusal.TheVariants as accepting
use Rattle.book.specs.SweepRefusal.{SweepRefusal}
use Rattle.book.specs.SweepRefusal.TheVariants as sweeping
use Rattle.book.specs.TickRefusal.{TickRefusal}
use Rattle.book.specs.TickRefusal.TheVariants as ticking
use Rattle.book.specs.Ledger.{Shown, Turn, MayOpen, MayBegin, MaySweep, MayTick, IsSomebodyIdle, HasRoom, to_sweep}
use Rattle.book.specs.Ledger.{IsOpenRefusal, IsLineRefusal, IsHangRefusal, IsSweepRefusal, IsTickRefusal}
use Rattle.book.specs.Ledger.{IsReapRefusal}
use Rattle.interleave.specs.declared.event.Event.{Event}
use Rattle.interleave.specs.declared.event.Event.TheVariants.{Connect, Feed, Pick, Begin, Put, End, Back}
use Rattle.interleave.specs.declared.event.Event.TheVariants.{Take, Hang, Sweep, Tick, Reap}
use Rattle.interleave.specs.declared.event.BookRefusal.TheVariants as by_book
use Rattle.interleave.specs.declared.event.StepRefusal.{StepRefusal}
use Rattle.interleave.specs.declared.event.StepRefusal.TheVariants.{NoSession, NoWorker, Locked, NotHolding}
use Rattle.interleave.specs.declared.event.StepRefusal.TheVariants.{HasJob, NoJob, InFlight, NothingRead}
use Rattle.interleave.specs.declared.event.StepRefusal.TheVariants.{NothingLeft, PutsLeft, Book, Memory}
use Rattle.interleave.specs.State.{State, inbox_at, is_known, is_worker, job_of, holds, is_home}

abbrev pub is_empty : {X : Type 0} → List X → Bool
is_empty [] = true
is_empty (x ∷ xs) = false

-- ---- each cause, before those that come after it

abbrev pub no_session : State → ℕ → Option StepRefusal → Option StepRefusal
no_session m s later = cond (is_known m s) later (Some NoSession)

abbrev pub no_worker : State → ℕ → Option StepRefusal → Option StepRefusal
no_worker m w later = cond (is_worker m w) later (Some NoWorker)

abbrev pub not_free : State → Option StepRefusal → Option StepRefusal
not_free m later = cond (is_some m.holder) (Some Locked) later

abbrev pub not_holding : State → ℕ → Option StepRefusal → Option StepRefusal
not_holding m w later = cond (holds m.holder w) later (Some NotHolding)

abbrev pub has_job : State → ℕ → Option StepRefusal → Option StepRefusal
has_job m w later = cond (is_some (job_of m w) || holds m.holder w) (Some HasJob) later

abbrev pub no_job : State → ℕ → Option StepRefusal → Option StepRefusal
no_job m w later = cond (is_some (job_of m w)) later (Some NoJob)

abbrev pub in_flight : State → ℕ → Option StepRefusal → Option StepRefusal
in_flight m s later = cond (is_home (inbox_at m s).place) later (Some InFlight)

abbrev pub nothing_read : State → ℕ → Option StepRefusal
nothing_read m s = cond (is_empty (inbox_at m s).pending) (Some NothingRead) None

abbrev pub nothing_left : State → Option StepRefusal
nothing_left m = cond (is_empty m.book.plan) (Some NothingLeft) None

abbrev pub puts_left : State → Option StepRefusal
puts_left m = cond (is_empty m.book.plan) None (Some PutsLeft)

abbrev pub holds_lock : State → ℕ → Option StepRefusal
holds_lock m w = cond (holds m.holder w) (Some Locked) None

-- a step's own causes, in order
abbrev pub own_refusal : State → Event → Option StepRefusal
own_refusal m (Connect host moment) = not_free m None
own_refusal m (Feed s octets) = no_session m s None
own_refusal m (Pick w s) = no_worker m w (no_session m s (has_job m w (in_flight m s (nothing_read m s))))
own_refusal m (Begin w moment) = no_worker m w (not_free m (no_job m w None))
own_refusal m (Put w) = no_worker m w (not_holding m w (nothing_left m))
own_refusal m (End w) = no_worker m w (not_holding m w (puts_left m))
own_refusal m (Back w) = no_worker m w (no_job m w (holds_lock m w))
own_refusal m (Take s) = no_session m s None
own_refusal m (Hang w s why moment) = no_worker m w (not_free m None)
own_refusal m (Sweep w moment) = no_worker m w (not_free m (has_job m w None))
own_refusal m (Tick w moment) = no_worker m w (not_free m (has_job m w None))
own_refusal m (Reap s) = no_session m s (not_free m (in_flight m s None))

-- ---- where none of these holds, the book's causes come, and want of memory. Pick, Put, End, Back, Take, Hang and
-- Reap take no memory

-- the next line of session t
abbrev pub turn_of : Shown Waiting → ℕ → Turn
turn_of m t = record { session = t; next = length (accepted m.history t) }

-- want of memory is told as itself
abbrev pub of_open : OpenRefusal → StepRefusal
of_open opening.Memory = Memory
of_open e = Book (by_book.Open e)

abbrev pub of_line : LineRefusal → StepRefusal
of_line accepting.Memory = Memory
of_line e = Book (by_book.Line e)

abbrev pub of_sweep : SweepRefusal → StepRefusal
of_sweep sweeping.Memory = Memory
of_sweep e = Book (by_book.Sweep e)

abbrev pub of_tick : TickRefusal → StepRefusal
of_tick ticking.Memory = Memory
of_tick e = Book (by_book.Tick e)

abbrev pub IsOpenRefused : Shown Waiting → ℤ → StepRefusal → Type 0
IsOpenRefused m moment (Book (by_book.Open e)) = IsOpenRefusal m moment e × (e ≢ opening.Memory)
IsOpenRefused m moment Memory = MayOpen m moment
IsOpenRefused m moment r = ⊥

abbrev pub IsLineRefused : Shown Waiting → Turn → ℤ → StepRefusal → Type 0
IsLineRefused m turn moment (Book (by_book.Line e)) = IsLineRefusal m turn moment e × (e ≢ accepting.Memory)
IsLineRefused m turn moment Memory = MayBegin m turn moment
IsLineRefused m turn moment r = ⊥

abbrev pub IsBeginRefused : Shown Waiting → Option ℕ → ℤ → StepRefusal → Type 0
IsBeginRefused m None moment r = ⊥
IsBeginRefused m (Some s) moment r = IsLineRefused m (turn_of m s) moment r

abbrev pub IsHangRefused : Shown Waiting → ℕ → ℤ → StepRefusal → Type 0
IsHangRefused m s moment (Book (by_book.Hang e)) = IsHangRefusal m s moment e
IsHangRefused m s moment r = ⊥

abbrev pub IsSweepRefused : Shown Waiting → ℤ → StepRefusal → Type 0
IsSweepRefused m moment (Book (by_book.Sweep e)) = IsSweepRefusal m moment e × (e ≢ sweeping.Memory)
IsSweepRefused m moment Memory = MaySweep m moment × IsSome (to_sweep m.history)
IsSweepRefused m moment r = ⊥

abbrev pub IsTickRefused : Shown Waiting → ℤ → StepRefusal → Type 0
IsTickRefused m moment (Book (by_book.Tick e)) = IsTickRefusal m moment e × (e ≢ ticking.Memory)
IsTickRefused m moment Memory = MayTick m moment × IsSomebodyIdle m moment × HasRoom m
IsTickRefused m moment r = ⊥

abbrev pub IsReapRefused : Shown Waiting → ℕ → StepRefusal → Type 0
IsReapRefused m s (Book (by_book.Reap e)) = IsReapRefusal m s e
IsReapRefused m s r = ⊥

abbrev pub IsLaterRefusal : State → Event → StepRefusal → Type 0
IsLaterRefusal m (Connect host moment) r = IsOpenRefused m.book moment r
IsLaterRefusal m (Feed s octets) r = r ≡ Memory
IsLaterRefusal m (Pick w s) r = ⊥
IsLaterRefusal m (Begin w moment) r = IsBeginRefused m.book (job_of m w) moment r
IsLaterRefusal m (Put w) r = ⊥
IsLaterRefusal m (End w) r = ⊥
IsLaterRefusal m (Back w) r = ⊥
IsLaterRefusal m (Take s) r = ⊥
IsLaterRefusal m (Hang w s why moment) r = IsHangRefused m.book s moment r
IsLaterRefusal m (Sweep w moment) r = IsSweepRefused m.book moment r
IsLaterRefusal m (Tick w moment) r = IsTickRefused m.book moment r
IsLaterRefusal m (Reap s) r = IsReapRefused m.book s r

-- an event with this own refusal, if there is one, is refused so
abbrev pub IsRefused : State → Event → Option StepRefusal → StepRefusal → Type 0
IsRefused m e (Some own) r = r ≡ own
IsRefused m e None r = IsLaterRefusal m e r
