use Rattle.roster.proofs.FieldLaws.{limits}
use Rattle.roster.proofs.laws.limits_are_the_last.Goals as goal

pub returns : goal.returns
returns c = limits
