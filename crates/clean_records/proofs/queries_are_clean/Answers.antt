use Rattle.clean_records.proofs.Reading.{query-commands}
use Rattle.clean_records.proofs.queries_are_clean.Goals as goal

pub returns : goal.returns
returns c = query-commands
