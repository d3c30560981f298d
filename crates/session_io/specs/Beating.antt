-- What came of a tick, and of ending who is late: this project's own.
use Rattle.std.specs.Prelude.{◌≡◌, ℤ, Option, Some, None, Result, IfSome, OnOk}
use Rattle.chronicle.specs.declared.why.Why.TheVariants.{PingTimeout}
use Rattle.chronicle.specs.declared.ids.SessionId.{SessionId}
use Rattle.session_ends.specs.Ends.{Puttings, accepts, refuses}
use Rattle.session_ends.specs.Done.{Done}
use Rattle.session_ends.specs.Hung.{Hung}
use Rattle.session_ends.specs.HangRefusal.{HangRefusal}
use Rattle.session_ends.specs.TickRefusal.{TickRefusal}
use Rattle.session_ends.specs.Ledger.{Shown, late}
use Rattle.session_ends.specs.Outcomes.{IsTickOutcome}
use Rattle.session_ends.specs.Hanging.{Hangs}

-- a record pings whoever is idle at this moment, or nobody is; or the cause of the refusal holds, and nothing changed
abbrev pub Ticks : Shown Puttings → Shown Puttings → ℤ → Result (Option Done) TickRefusal → Type 0
Ticks old new moment answer = IsTickOutcome accepts refuses old new moment answer

-- a session, and what came of ending it
abbrev pub Ended : Type 0
Ended = SessionId × Result Hung HangRefusal

-- the late session of the lowest number was ended for its silence, or nobody is late at this moment
pub record HangsLate (old new : Shown Puttings) (moment : ℤ) (ended : Option Ended) : Type 0 where
  pub some : IfSome ended (λ e. (late old.history moment ≡ Some e.0) × Hangs old new e.0 PingTimeout moment e.1)
  pub none : ended ≡ None → late old.history moment ≡ None

-- nobody was left, or one that was late wasn't ended
abbrev pub IsLast : Option Ended → Type 0
IsLast ended = IfSome ended (λ e. OnOk e.1 ⊥)
