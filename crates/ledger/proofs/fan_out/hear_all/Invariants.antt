use Rattle.std.proofs.Common.{◌≡◌, ◌++◌, drop}
use Rattle.ledger.specs.FanOut.{hearings}
use Rattle.ledger.proofs.fan_out.hear_all.Given as goal

-- who hears the lines so far, with those of the lines that are left
abbrev pub invariant-loop-line : goal.invariant-loop-line
invariant-loop-line l = l.heard.items ++ hearings l.roster.facts l.line (drop l.line l.shown)
    ≡ hearings l.roster.facts 0 l.shown
