use Rattle.clean_records.proofs.Reading.{channel-commands}
use Rattle.clean_records.proofs.channel_commands_are_clean.Goals as goal

pub returns : goal.returns
returns c = channel-commands
