use Rattle.roster.proofs.OnceLaws.{sharers_once}
use Rattle.roster.proofs.laws.sharers_are_there_once.Goals as goal

pub returns : goal.returns
returns c = sharers_once
