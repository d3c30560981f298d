use Rattle.std.proofs.Common.{◌≡◌, take}
use Rattle.registration.specs.Enrol.{enrolment}
use Rattle.roster.specs.LookBack.{after, enrol}
use Rattle.transactions.proofs.transaction.Transaction.enrol_of.Given as goal

abbrev pub invariant-loop-deed : goal.invariant-loop-deed
invariant-loop-deed l = enrolment l.enrol ≡ enrol (after l.self.base (take l.deed-index l.deed-items)) l.session
