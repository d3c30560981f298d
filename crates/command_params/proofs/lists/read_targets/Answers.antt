use Rattle.std.proofs.Common.{◌∙◌}
use Rattle.command_params.proofs.Distinct.{targets_end}
use Rattle.command_params.proofs.lists.read_targets.Goals as goal

pub returns : goal.returns
returns c = c.from_vec.ensures ∙ targets_end c.args.channels.now c.args.keys.now c.loop-rest.targets.items
    c.loop-rest.rest c.loop-rest.keys_left c.in_default.is c.loop-rest.invariant
