use Rattle.labels_batches.proofs.Once.{lone-opens-none}
use Rattle.labels_batches.proofs.laws.lone_line_opens_no_batch.Goals as goal

pub returns : goal.returns
returns c = lone-opens-none
