use Rattle.std.proofs.Common.{◌≡◌, take}
use Rattle.roster.specs.LookBack.{after}
use Rattle.transactions.specs.Seen.{seen}
use Rattle.transactions.proofs.transaction.Transaction.touches.Given as goal

abbrev pub invariant-loop-deed : goal.invariant-loop-deed
invariant-loop-deed l = seen (after l.self.base (take l.deed-index l.deed-items)) l.channel
    ≡ seen l.self.base l.channel
