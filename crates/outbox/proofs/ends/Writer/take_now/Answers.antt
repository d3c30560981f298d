use Rattle.outbox.proofs.Keeps.{are_sent, takes}
use Rattle.outbox.proofs.ends.Writer.take_now.Goals as goal

pub take_now-requires-clause-rule : goal.take_now-requires-clause-rule
take_now-requires-clause-rule g c = (takes _ _ c.self.invariant.1, are_sent _ _ c.self.invariant.1)
