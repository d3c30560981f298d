use Rattle.labels_batches.proofs.Once.{label-first}
use Rattle.labels_batches.proofs.laws.label_stands_first.Goals as goal

pub returns : goal.returns
returns c = label-first
