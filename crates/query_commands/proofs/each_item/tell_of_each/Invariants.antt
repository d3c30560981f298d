use Rattle.std.proofs.Common.{◌≡◌, drop}
use Rattle.std.specs.List.{flat_map}
use Rattle.query_commands.specs.Telling.{telling_more}
use Rattle.query_commands.proofs.each_item.tell_of_each.Given as goal

abbrev pub invariant-loop-one : goal.invariant-loop-one
invariant-loop-one g l = telling_more l.telling (flat_map (g.R.AnswersEach.told_of l.row) (drop l.one-index l.ones))
    ≡ telling_more l.fn.telling (flat_map (g.R.AnswersEach.told_of l.row) l.ones)
