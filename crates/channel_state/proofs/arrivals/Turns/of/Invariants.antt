use Rattle.std.proofs.Common.{◌≡◌, ℕ, take}
use Rattle.channel_state.specs.State.{among}
use Rattle.channel_state.specs.Held.{has_come}
use Rattle.channel_state.proofs.arrivals.Turns.of.Given as goal

abbrev pub invariant-loop-session : goal.invariant-loop-session
invariant-loop-session l = (t : ℕ) → has_come l.turns.entries t ≡ among t (take l.session-index l.sessions)
