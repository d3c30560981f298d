use Rattle.clean_records.proofs.Own.{own-records}
use Rattle.clean_records.proofs.own_records_are_clean.Goals as goal

pub returns : goal.returns
returns c = own-records
