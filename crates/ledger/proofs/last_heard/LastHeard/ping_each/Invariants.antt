use Rattle.std.proofs.Common.{◌≡◌, ℕ, ◌<◌, true, take, length, slice_index_or, is_some}
use Rattle.ledger.specs.LastHeard.{since_at, with_pings}
use Rattle.ledger.proofs.last_heard.LastHeard.ping_each.Given as goal

-- those so far are pinged, and each still is to be found
abbrev pub invariant-loop-session : goal.invariant-loop-session
invariant-loop-session l = (l.self ≡ with_pings l.fn.self (take l.session-index l.sessions))
    × ((i : ℕ) → i < length l.sessions → is_some (since_at l.self (slice_index_or l.sessions i 0)) ≡ true)
