use Rattle.std.proofs.Common.{◌∙◌}
use Rattle.command_params.proofs.Distinct.{words_end}
use Rattle.command_params.proofs.lists.read_words.Goals as goal

pub returns : goal.returns
returns c = c.from_vec.ensures ∙ words_end c.args.list.now c.loop-rest.words.items c.loop-rest.rest c.in_default.is
    c.loop-rest.invariant
