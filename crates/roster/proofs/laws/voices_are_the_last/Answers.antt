use Rattle.roster.proofs.FieldLaws.{voices}
use Rattle.roster.proofs.laws.voices_are_the_last.Goals as goal

pub returns : goal.returns
returns c = voices
