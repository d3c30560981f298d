use Rattle.outbox.proofs.Keeps.{are_sent, takes}
use Rattle.outbox.proofs.ends.Writer.take.Goals as goal

pub take-requires-clause-rule : goal.take-requires-clause-rule
take-requires-clause-rule g c = (takes _ _ c.self.invariant.1, are_sent _ _ c.self.invariant.1)
