use Rattle.std.proofs.Common.{◌≡◌, ◌++◌, ◌-◌, ◌≤◌, length, map, drop}
use Rattle.ledger.specs.FanOut.{deliveries_of, heard_of, one_each}
use Rattle.ledger.proofs.plan.plan_others.Given as goal

-- what is planned, with what the hearings that are left make
abbrev pub invariant-loop-from : goal.invariant-loop-from
invariant-loop-from l = record {
  same : l.lines ≡ l.fn.lines;
  within : l.from ≤ length l.heard;
  plan : l.plan.items ++ deliveries_of l.by.seats.now l.by.actor l.by.number
      (one_each (map (heard_of l.fn.lines) (drop l.from l.heard)))
      ≡ deliveries_of l.by.seats.now l.by.actor l.by.number (one_each (map (heard_of l.fn.lines) l.heard));
}

abbrev pub decreases-loop-from : goal.decreases-loop-from
decreases-loop-from l = length l.heard - l.from
