use Rattle.clean_records.proofs.Sessions.{welcomes}
use Rattle.clean_records.proofs.welcomes_are_clean.Goals as goal

pub returns : goal.returns
returns c = welcomes
