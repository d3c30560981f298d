use Rattle.deliveries.proofs.GoesOn.{idle_on}
use Rattle.deliveries.proofs.laws.idle_goes_on.Goals as goal

pub returns : goal.returns
returns c = idle_on
