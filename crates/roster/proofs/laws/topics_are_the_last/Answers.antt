use Rattle.roster.proofs.FieldLaws.{topics}
use Rattle.roster.proofs.laws.topics_are_the_last.Goals as goal

pub returns : goal.returns
returns c = topics
