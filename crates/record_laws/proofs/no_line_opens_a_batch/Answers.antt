use Rattle.record_laws.proofs.Rows.{no-line-opens-a-batch}
use Rattle.record_laws.proofs.no_line_opens_a_batch.Goals as goal

pub returns : goal.returns
returns c = no-line-opens-a-batch
