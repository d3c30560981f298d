use Rattle.std.proofs.Common.{◌≡◌, ◌≤◌, ◌++◌, length, drop}
use Rattle.casemapping.specs.Fold.{name_fold}
use Rattle.casemapping.proofs.folded_name.Folded.new.Given as goal

abbrev pub invariant-loop-octet : goal.invariant-loop-octet
invariant-loop-octet l = record {
  folded : l.octets.items ++ name_fold (drop l.octet-index l.name) ≡ name_fold l.name;
  count : length l.octets.items ≡ l.octet-index;
  room : length l.name ≤ l.octets.capacity;
}
