use Rattle.clean_records.proofs.Histories.{lines-clean}
use Rattle.clean_records.proofs.lines_are_clean.Goals as goal

pub returns : goal.returns
returns c = lines-clean
