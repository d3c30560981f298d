use Rattle.std.proofs.Common.{◌≡◌, ◌++◌, take}
use Rattle.std.specs.List.{flat_map}
use Rattle.labels_batches.specs.Headed.{with_head}
use Rattle.labels_batches.proofs.texts.push_all_headed.Given as goal

abbrev pub invariant-loop-line : goal.invariant-loop-line
invariant-loop-line l = l.text.items ≡ l.fn.text.items
    ++ flat_map (with_head l.caps l.head) (take l.line-index l.lines)
