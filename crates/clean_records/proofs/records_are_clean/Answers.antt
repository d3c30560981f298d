use Rattle.clean_records.proofs.Rows.{records}
use Rattle.clean_records.proofs.records_are_clean.Goals as goal

pub returns : goal.returns
returns c = records
