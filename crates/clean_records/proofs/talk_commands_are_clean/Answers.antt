use Rattle.clean_records.proofs.Reading.{talk-commands}
use Rattle.clean_records.proofs.talk_commands_are_clean.Goals as goal

pub returns : goal.returns
returns c = talk-commands
