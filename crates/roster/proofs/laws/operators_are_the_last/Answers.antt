use Rattle.roster.proofs.FieldLaws.{operators}
use Rattle.roster.proofs.laws.operators_are_the_last.Goals as goal

pub returns : goal.returns
returns c = operators
