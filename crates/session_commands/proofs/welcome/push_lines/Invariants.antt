use Rattle.std.proofs.Common.{◌≡◌, map}
use Rattle.std.specs.Vec.Iter.{into_iter_items}
use Rattle.numerics.specs.declared.numeric.Numeric.TheVariants.{ISupport}
use Rattle.query_commands.specs.Telling.{telling_more}
use Rattle.session_commands.proofs.welcome.push_lines.Given as goal

abbrev pub invariant-loop-words : goal.invariant-loop-words
invariant-loop-words l = telling_more l.telling (map ISupport (into_iter_items l.words-iterator))
    ≡ telling_more l.fn.telling (map ISupport l.fn.lines.items)
