use Rattle.roster.proofs.NameLaws.{spelled}
use Rattle.roster.proofs.laws.spelled_names_are_names.Goals as goal

pub returns : goal.returns
returns c = spelled
