use Rattle.std.proofs.Common.{◌≡◌, true, Some, option_copied, take}
use Rattle.roster.specs.LookBack.{after, has_member, name}
use Rattle.transactions.proofs.transaction.Transaction.spelling.Given as goal

abbrev pub invariant-loop-deed : goal.invariant-loop-deed
invariant-loop-deed l =
    has_member (after l.self.base (take l.deed-index l.deed-items)) l.channel ≡ true
    → option_copied l.spelling ≡ Some (name (after l.self.base (take l.deed-index l.deed-items)) l.channel)
