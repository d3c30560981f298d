use Rattle.roster.proofs.FieldLaws.{invitations}
use Rattle.roster.proofs.laws.invitations_are_the_last.Goals as goal

pub returns : goal.returns
returns c = invitations
