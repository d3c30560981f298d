use Rattle.roster.proofs.OnceLaws.{members_once}
use Rattle.roster.proofs.laws.members_are_there_once.Goals as goal

pub returns : goal.returns
returns c = members_once
