use Rattle.clean_records.proofs.Histories.{facts-clean}
use Rattle.clean_records.proofs.facts_are_clean.Goals as goal

pub returns : goal.returns
returns c = facts-clean
