use Rattle.roster.proofs.NameLaws.{one_name}
use Rattle.roster.proofs.laws.channels_have_one_name.Goals as goal

pub returns : goal.returns
returns c = one_name
