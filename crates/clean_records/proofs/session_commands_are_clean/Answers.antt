use Rattle.clean_records.proofs.Reading.{session-commands}
use Rattle.clean_records.proofs.session_commands_are_clean.Goals as goal

pub returns : goal.returns
returns c = session-commands
