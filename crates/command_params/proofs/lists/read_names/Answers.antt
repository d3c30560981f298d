use Rattle.std.proofs.Common.{◌∙◌}
use Rattle.command_params.proofs.Distinct.{names_end}
use Rattle.command_params.proofs.lists.read_names.Goals as goal

pub returns : goal.returns
returns c = c.from_vec.ensures ∙ names_end c.args.list.now c.loop-rest.names.items c.loop-rest.rest c.in_default.is
    c.loop-rest.invariant
