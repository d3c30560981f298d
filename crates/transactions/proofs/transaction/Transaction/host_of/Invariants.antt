use Rattle.std.proofs.Common.{◌≡◌, take}
use Rattle.roster.specs.LookBack.{after, host}
use Rattle.transactions.proofs.transaction.Transaction.host_of.Given as goal

abbrev pub invariant-loop-deed : goal.invariant-loop-deed
invariant-loop-deed l = l.host ≡ host (after l.self.base (take l.deed-index l.deed-items)) l.session
