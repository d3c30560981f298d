use Rattle.clean_records.proofs.Reading.{mode-commands}
use Rattle.clean_records.proofs.mode_commands_are_clean.Goals as goal

pub returns : goal.returns
returns c = mode-commands
