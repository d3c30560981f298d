-- When nothing more is written on a thread of its own: this project's own.
use Rattle.std.specs.Prelude.{◌≡◌, ◌<◌, ◌⊎◌, true, []}
use Rattle.session_io.specs.Wired.{Wired, ends}

-- the session's last item went out; or the session was found to be shut, and all went out and the outbox was found
-- empty, or the stream answered that it takes nothing now; or it answered that it takes no more
abbrev pub IsOver : Type 0 → Wired → Wired → Type 0
IsOver shut w v =
    ((v.rest ≡ []) × (v.waiting ≡ []) × (ends v.taken ≡ true))
    ⊎ ((shut × (v.rest ≡ []) × (v.waiting ≡ []) × (w.empties < v.empties))
    ⊎ ((shut × (w.pauses < v.pauses)) ⊎ (0 < v.faults)))
