use Rattle.std.proofs.Common.{drop}
use Rattle.ledger.specs.FanOut.{ascends}
use Rattle.ledger.proofs.fan_out.ascend.Given as goal

-- all ascend, if those that are left do
abbrev pub invariant-loop-session : goal.invariant-loop-session
invariant-loop-session l = ascends l.last (drop l.session-index l.sessions) → ascends 0 l.sessions
