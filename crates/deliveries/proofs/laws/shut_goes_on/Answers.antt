use Rattle.deliveries.proofs.GoesOn.{shut_on}
use Rattle.deliveries.proofs.laws.shut_goes_on.Goals as goal

pub returns : goal.returns
returns c = shut_on
