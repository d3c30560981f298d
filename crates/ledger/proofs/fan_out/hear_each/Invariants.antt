use Rattle.std.proofs.Common.{◌≡◌, ◌++◌, map, take}
use Rattle.ledger.specs.FanOut.{hearing_of}
use Rattle.ledger.proofs.fan_out.hear_each.Given as goal

abbrev pub invariant-loop-hearer : goal.invariant-loop-hearer
invariant-loop-hearer l = l.heard.items ≡ l.fn.heard.items
    ++ map (hearing_of l.roster.facts l.line) (take l.hearer-index l.hearers)
