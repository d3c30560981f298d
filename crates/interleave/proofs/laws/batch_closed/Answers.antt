use Rattle.interleave.proofs.Answered.{batch-closed}
use Rattle.interleave.proofs.laws.batch_closed.Goals as goal

pub returns : goal.returns
returns c = batch-closed c.several_lines_are_a_closed_batch.ensures
