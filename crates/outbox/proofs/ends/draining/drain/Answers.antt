use Rattle.outbox.proofs.Keeps.{takes, rests}
use Rattle.outbox.proofs.ends.draining.drain.Goals as goal

pub try_recv_as-requires-clause-rule : goal.try_recv_as-requires-clause-rule
try_recv_as-requires-clause-rule g c =
    (takes _ _ c.loop-count.invariant.takes, rests _ _ c.loop-count.invariant.sends c.loop-count.invariant.takes)
