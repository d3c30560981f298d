use Rattle.deliveries.proofs.GoesOn.{facts_on}
use Rattle.deliveries.proofs.laws.facts_go_on.Goals as goal

pub returns : goal.returns
returns c = facts_on
