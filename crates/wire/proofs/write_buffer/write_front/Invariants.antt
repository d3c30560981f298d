-- what went out so far is the front of the octets, and nothing stopped it
use Rattle.std.proofs.Common.{◌-◌, ◌≤◌, length, take}
use Rattle.std.specs.Io.KnownBytes.{Appends}
use Rattle.wire.specs.Causes.{AreSame}
use Rattle.wire.proofs.write_buffer.write_front.Given as goal

abbrev pub invariant-loop-count : goal.invariant-loop-count
invariant-loop-count g l = record {
  within : l.count ≤ length l.octets;
  written : Appends (g.W.Write.contents l.initial.to.inner) (g.W.Write.contents l.to.inner) (take l.count l.octets);
  same : AreSame l.initial.to l.to;
}

abbrev pub decreases-loop-count : goal.decreases-loop-count
decreases-loop-count g l = length l.octets - l.count
