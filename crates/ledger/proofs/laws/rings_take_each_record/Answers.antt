use Rattle.ledger.proofs.RingSteps.{ring-done}
use Rattle.ledger.proofs.laws.rings_take_each_record.Goals as goal

pub returns : goal.returns
returns c = ring-done
