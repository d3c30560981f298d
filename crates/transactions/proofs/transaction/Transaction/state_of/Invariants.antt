use Rattle.std.proofs.Common.{◌≡◌, take}
use Rattle.roster.specs.LookBack.{after, state}
use Rattle.transactions.proofs.transaction.Transaction.state_of.Given as goal

abbrev pub invariant-loop-deed : goal.invariant-loop-deed
invariant-loop-deed l = l.state.state ≡ state (after l.self.base (take l.deed-index l.deed-items)) l.channel
