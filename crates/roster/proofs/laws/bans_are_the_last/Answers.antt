use Rattle.roster.proofs.FieldLaws.{bans_last}
use Rattle.roster.proofs.laws.bans_are_the_last.Goals as goal

pub returns : goal.returns
returns c = bans_last
