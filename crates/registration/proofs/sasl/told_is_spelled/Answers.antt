use Rattle.registration.proofs.Spelled.{told-spelled}
use Rattle.registration.proofs.sasl.told_is_spelled.Goals as goal

pub returns : goal.returns
returns c = told-spelled
