use Rattle.std.proofs.Common.{ℕ, ◌<◌, get_or}
use Rattle.session_ends.proofs.disconnecting.shut_missed.Given as goal

-- so many were shut
abbrev pub invariant-loop-missed : goal.invariant-loop-missed
invariant-loop-missed g l = (k : ℕ) → k < l.missed-index → (d : ℕ)
    → g.S.Sockets.shuts l.sockets (get_or l.missed-items k d)
