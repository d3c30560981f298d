use Rattle.roster.proofs.FieldLaws.{keys}
use Rattle.roster.proofs.laws.keys_are_the_last.Goals as goal

pub returns : goal.returns
returns c = keys
