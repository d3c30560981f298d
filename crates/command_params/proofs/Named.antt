-- Each command is read by its own name.
use Rattle.std.proofs.Common.{refl}
use Rattle.command_params.specs.declared.name.CommandName.TheVariants.{Quit}
use Rattle.command_params.specs.Names.{EachNameIsRead, known_name}

pub each-name : EachNameIsRead
unfolding known_name
each-name Quit = refl
each-name _ = refl
