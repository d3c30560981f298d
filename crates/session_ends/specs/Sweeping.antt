-- What came of a sweep where outboxes are channels: this project's own.
use Rattle.std.specs.Prelude.{ℕ, ℤ, Option, Result}
use Rattle.std.specs.Option.{option_map}
use Rattle.chronicle.specs.declared.why.Why.{Why}
use Rattle.book.specs.Ends.{Puttings, accepts, refuses}
use Rattle.book.specs.Done.{Done}
use Rattle.book.specs.SweepRefusal.{SweepRefusal}
use Rattle.book.specs.Ledger.{Shown, to_sweep, ended_for}
use Rattle.book.specs.Outcomes.{IsSweepOutcome}

abbrev pub Sweeps : Shown Puttings → Shown Puttings → ℤ → Result (Option Done) SweepRefusal → Type 0
Sweeps old new moment answer = IsSweepOutcome accepts refuses old new moment answer

-- who is swept next, and why that session ended
abbrev pub ended_next : Shown Puttings → Option (ℕ × Why)
ended_next m = option_map (λ s. (s, ended_for m s)) (to_sweep m.history)
