use Rattle.deliveries.proofs.GoesOn.{pinged_on}
use Rattle.deliveries.proofs.laws.pinged_goes_on.Goals as goal

pub returns : goal.returns
returns c = pinged_on
