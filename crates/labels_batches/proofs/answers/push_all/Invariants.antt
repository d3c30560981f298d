use Rattle.std.proofs.Common.{◌≡◌, ◌++◌, map}
use Rattle.std.specs.Vec.Iter.{into_iter_items}
use Rattle.labels_batches.specs.Answers.{tagged_as}
use Rattle.labels_batches.proofs.answers.push_all.Given as goal

abbrev pub invariant-loop-line : goal.invariant-loop-line
invariant-loop-line l = l.tagged.items ++ map (tagged_as l.tag) (into_iter_items l.line-iterator)
    ≡ l.fn.tagged.items ++ map (tagged_as l.tag) l.fn.lines.items
