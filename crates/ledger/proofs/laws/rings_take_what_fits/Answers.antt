use Rattle.ledger.proofs.RingSteps.{ring-next}
use Rattle.ledger.proofs.laws.rings_take_what_fits.Goals as goal

pub returns : goal.returns
returns c = ring-next
