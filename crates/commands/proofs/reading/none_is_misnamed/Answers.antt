use Rattle.commands.proofs.Named.{none-misnamed}
use Rattle.commands.proofs.reading.none_is_misnamed.Goals as goal

pub returns : goal.returns
returns c = none-misnamed
