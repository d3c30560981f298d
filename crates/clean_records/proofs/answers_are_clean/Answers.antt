use Rattle.clean_records.proofs.Answered.{answers}
use Rattle.clean_records.proofs.answers_are_clean.Goals as goal

pub returns : goal.returns
returns c = answers
