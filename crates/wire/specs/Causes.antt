-- Why a stream takes no more, for now or for good: what it answered. This project's own.
use Rattle.std.specs.Prelude.{◌≡◌, ◌≤◌, ◌<◌}
use Rattle.wire.specs.declared.stream.Stop.{Stop}
use Rattle.wire.specs.declared.stream.Stop.TheVariants.{Later, Fault}
use Rattle.wire.specs.declared.stream.Stream.{Stream}

-- nothing more stopped it
abbrev pub AreSame : {T : Type 0} → Stream T → Stream T → Type 0
AreSame s t = (t.pauses.value ≡ s.pauses.value) × (t.faults.value ≡ s.faults.value)

-- it answered that it takes nothing now
abbrev pub Pauses : {T : Type 0} → Stream T → Stream T → Type 0
Pauses s t = (s.pauses.value < t.pauses.value) × (t.faults.value ≡ s.faults.value)

-- it answered that it takes no more
abbrev pub Faults : {T : Type 0} → Stream T → Stream T → Type 0
Faults s t = (s.pauses.value ≤ t.pauses.value) × (s.faults.value < t.faults.value)

-- what stopped a write was the stream's answer
abbrev pub HasCause : {T : Type 0} → Stop → Stream T → Stream T → Type 0
HasCause Later s t = Pauses s t
HasCause (Fault why) s t = Faults s t
