use Rattle.clean_records.proofs.Answered.{texts}
use Rattle.clean_records.proofs.texts_are_cut.Goals as goal

pub returns : goal.returns
returns c = texts
