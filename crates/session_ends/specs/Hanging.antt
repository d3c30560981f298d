-- What came of ending a session whose outbox is a channel: this project's own.
use Rattle.std.specs.Prelude.{ℕ, ℤ, Result}
use Rattle.chronicle.specs.declared.why.Why.{Why}
use Rattle.book.specs.Ends.{Puttings, accepts, refuses}
use Rattle.book.specs.Hung.{Hung as Told}
use Rattle.book.specs.HangRefusal.{HangRefusal}
use Rattle.book.specs.Ledger.{Shown}
use Rattle.book.specs.Outcomes.{IsHangOutcome}

abbrev pub Hangs : Shown Puttings → Shown Puttings → ℕ → Why → ℤ → Result Told HangRefusal → Type 0
Hangs old new session why moment hung = IsHangOutcome accepts refuses old new session why moment hung
