use Rattle.roster.proofs.OnceLaws.{own_once}
use Rattle.roster.proofs.laws.own_channels_are_there_once.Goals as goal

pub returns : goal.returns
returns c = own_once
