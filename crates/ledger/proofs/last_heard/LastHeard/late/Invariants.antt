use Rattle.std.proofs.Common.{◌≡◌, ℕ, List, length}
use Rattle.ledger.proofs.Picking.{IsSeen}
use Rattle.ledger.specs.LastHeard.{is_overdue, lowest}
use Rattle.ledger.proofs.last_heard.LastHeard.late.Given as goal

-- those that pass of the sessions that were seen so far
abbrev pub invariant-loop-number : goal.invariant-loop-number
invariant-loop-number l = (found : List ℕ) × IsSeen (is_overdue l.seats l.moment) l.self l.rest found
    × (l.late ≡ lowest found)

abbrev pub decreases-loop-number : goal.decreases-loop-number
decreases-loop-number l = length l.rest
