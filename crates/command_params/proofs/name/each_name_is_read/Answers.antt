use Rattle.command_params.proofs.Named.{each-name}
use Rattle.command_params.proofs.name.each_name_is_read.Goals as goal

pub returns : goal.returns
returns c = each-name
