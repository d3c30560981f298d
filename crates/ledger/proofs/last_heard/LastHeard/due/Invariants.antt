use Rattle.std.proofs.Common.{length}
use Rattle.ledger.proofs.Picking.{IsSeen}
use Rattle.ledger.specs.LastHeard.{is_due}
use Rattle.ledger.proofs.last_heard.LastHeard.due.Given as goal

-- those that pass of the sessions that were seen so far
abbrev pub invariant-loop-number : goal.invariant-loop-number
invariant-loop-number l = IsSeen (is_due l.seats l.moment) l.self l.rest l.due.items

abbrev pub decreases-loop-number : goal.decreases-loop-number
decreases-loop-number l = length l.rest
