use Rattle.interleave.proofs.Answered.{labelled-first}
use Rattle.interleave.proofs.laws.labelled_first.Goals as goal

pub returns : goal.returns
returns c = labelled-first c.label_stands_first.ensures
