-- What went out so far is the front of the part.
use Rattle.std.proofs.Common.{◌-◌, ◌≤◌, length, take}
use Rattle.std.specs.Io.KnownBytes.{Appends}
use Rattle.deliveries.proofs.writing.write_all_of.Given as goal

abbrev pub invariant-loop-count : goal.invariant-loop-count
invariant-loop-count g l = (l.count ≤ length l.part)
    × Appends (g.W.Write.contents l.initial.out) (g.W.Write.contents l.out) (take l.count l.part)

abbrev pub decreases-loop-count : goal.decreases-loop-count
decreases-loop-count g l = length l.part - l.count
