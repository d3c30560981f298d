use Rattle.labels_batches.proofs.Once.{several-closed}
use Rattle.labels_batches.proofs.laws.several_lines_are_a_closed_batch.Goals as goal

pub returns : goal.returns
returns c = several-closed
