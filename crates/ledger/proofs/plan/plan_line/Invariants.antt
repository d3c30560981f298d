use Rattle.std.proofs.Common.{◌≡◌, ◌≤◌, length, map, take}
use Rattle.std.specs.VecDeque.{deque_capacity}
use Rattle.ledger.specs.FanOut.{deliveries_of, heard_by}
use Rattle.ledger.proofs.plan.plan_line.Given as goal

-- what is planned is for those hearers that were reached
abbrev pub invariant-loop-hearer : goal.invariant-loop-hearer
invariant-loop-hearer l = record {
  same : l.line ≡ l.fn.line;
  room : length l.hearers ≤ deque_capacity l.plan;
  few : length l.plan.items ≤ l.hearer-index;
  plan : l.plan.items ≡ deliveries_of l.by.seats.now l.by.actor l.by.number
      (map (heard_by l.by.roster.now.facts l.fn.line.moment l.fn.line.line) (take l.hearer-index l.hearers));
}
