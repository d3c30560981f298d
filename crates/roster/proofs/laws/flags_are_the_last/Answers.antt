use Rattle.roster.proofs.FieldLaws.{flags}
use Rattle.roster.proofs.laws.flags_are_the_last.Goals as goal

pub returns : goal.returns
returns c = flags
