use Rattle.clean_records.proofs.Histories.{ping-clean}
use Rattle.clean_records.proofs.ping_is_clean.Goals as goal

pub returns : goal.returns
returns c = ping-clean
