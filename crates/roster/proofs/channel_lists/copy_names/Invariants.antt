use Rattle.std.proofs.Common.{◌≡◌, ◌++◌, drop}
use Rattle.std.specs.List.{flat_map}
use Rattle.roster.specs.Lists.{made_name}
use Rattle.roster.proofs.channel_lists.copy_names.Given as goal

abbrev pub invariant-loop-deed : goal.invariant-loop-deed
invariant-loop-deed l = l.copies.items ++ flat_map made_name (drop l.deed-index l.deeds) ≡ flat_map made_name l.deeds
