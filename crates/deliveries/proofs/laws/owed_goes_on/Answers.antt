use Rattle.deliveries.proofs.GoesOn.{owed_on}
use Rattle.deliveries.proofs.laws.owed_goes_on.Goals as goal

pub returns : goal.returns
returns c = owed_on
