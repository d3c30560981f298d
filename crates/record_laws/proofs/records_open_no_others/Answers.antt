use Rattle.record_laws.proofs.Rows.{opens-no-others}
use Rattle.record_laws.proofs.records_open_no_others.Goals as goal

pub returns : goal.returns
returns c = opens-no-others
