use Rattle.deliveries.proofs.GoesOn.{accepted_on}
use Rattle.deliveries.proofs.laws.accepted_goes_on.Goals as goal

pub returns : goal.returns
returns c = accepted_on
