use Rattle.ledger.specs.Seats.{boxes_of}
use Rattle.ledger.proofs.Noting.{AreCountedTo}
use Rattle.ledger.proofs.outboxes.Outboxes.counts.Given as goal

-- the sessions at the places so far are counted
abbrev pub invariant-loop-place : goal.invariant-loop-place
invariant-loop-place over l = AreCountedTo over.O.Outbox.sent l.seats (boxes_of l.self-inside.outboxes.entries
    l.self-inside.opened) l.last_heard l.self-inside.outboxes.entries l.place l.counts.entries
