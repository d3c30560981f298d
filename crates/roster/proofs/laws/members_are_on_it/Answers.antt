use Rattle.roster.proofs.FieldLaws.{members_on}
use Rattle.roster.proofs.laws.members_are_on_it.Goals as goal

pub returns : goal.returns
returns c = members_on
