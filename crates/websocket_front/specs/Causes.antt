-- Why calls of a front fail: what its socket and its memory answered. This project's own.
use Rattle.std.specs.Prelude.{◌≤◌, ◌<◌, ◌+◌, ℕ}
use Rattle.websocket_front.specs.declared.front.FrontFault.{FrontFault}
use Rattle.websocket_front.specs.declared.front.FrontFault.TheVariants.{Io, Protocol, Memory}
use Rattle.websocket_front.specs.declared.front.Meaning.{Meaning}
use Rattle.websocket_front.specs.declared.front.Meaning.TheVariants.{Later, Closed, Fault}
use Rattle.websocket_front.specs.declared.counted_socket.Causes.{Causes}

-- one answer more
abbrev pub count_one : Meaning → Causes → Causes
count_one Later c = record c { pauses = c.pauses + 1 }
count_one Closed c = c
count_one (Fault Io) c = record c { failures = c.failures + 1 }
count_one (Fault Protocol) c = record c { breaches = c.breaches + 1 }
count_one (Fault Memory) c = record c { shortages = c.shortages + 1 }

-- how many answers were this fault
abbrev pub count_of : FrontFault → Causes → ℕ
count_of Io c = c.failures
count_of Protocol c = c.breaches
count_of Memory c = c.shortages

-- none is forgotten
abbrev pub Grows : Causes → Causes → Type 0
Grows c d =
    (c.pauses ≤ d.pauses) × (c.failures ≤ d.failures) × (c.breaches ≤ d.breaches) × (c.shortages ≤ d.shortages)

-- the socket or the memory answered this fault
abbrev pub Answers : FrontFault → Causes → Causes → Type 0
Answers f c d = count_of f c < count_of f d

-- the stream answered that it has or takes nothing now
abbrev pub Pauses : Causes → Causes → Type 0
Pauses c d = c.pauses < d.pauses
