use Rattle.interleave.proofs.Answered.{labelled-once}
use Rattle.interleave.proofs.laws.labelled_once.Goals as goal

pub returns : goal.returns
returns c = labelled-once c.label_stands_first.ensures
