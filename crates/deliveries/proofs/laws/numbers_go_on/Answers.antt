use Rattle.deliveries.proofs.GoesOn.{records_on, sessions_on}
use Rattle.deliveries.proofs.laws.numbers_go_on.Goals as goal

pub returns : goal.returns
returns c = λ g h later. (records_on g h later, sessions_on g h later)
