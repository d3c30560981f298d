use Rattle.std.proofs.Common.{◌≡◌, ◌++◌, drop}
use Rattle.std.specs.List.{flat_map}
use Rattle.roster.specs.Lists.{keyed_name}
use Rattle.roster.proofs.folded_keys.copy_keys.Given as goal

abbrev pub invariant-loop-deed : goal.invariant-loop-deed
invariant-loop-deed l = l.keys.items ++ flat_map keyed_name (drop l.deed-index l.deeds) ≡ flat_map keyed_name l.deeds
