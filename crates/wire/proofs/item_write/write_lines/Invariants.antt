-- what went out so far is the front of what comes after so many octets
use Rattle.std.proofs.Common.{◌-◌, ◌≤◌, length, drop}
use Rattle.wire.specs.Causes.{AreSame}
use Rattle.wire.specs.Gathering.{gathered_contents}
use Rattle.wire.specs.Wired.{GoesOut}
use Rattle.wire.proofs.item_write.write_lines.Given as goal

abbrev pub invariant-loop-count : goal.invariant-loop-count
invariant-loop-count g l = record {
  more : GoesOut (gathered_contents g.W.Write.contents l.initial.out) (gathered_contents g.W.Write.contents l.out)
      (drop l.from l.text) (drop l.count l.text);
  few : length l.initial.out.waiting.items ≤ 65536 → length l.out.waiting.items ≤ 65536;
  same : AreSame l.initial.out.stream l.out.stream;
}

abbrev pub decreases-loop-count : goal.decreases-loop-count
decreases-loop-count g l = length l.text - l.count
