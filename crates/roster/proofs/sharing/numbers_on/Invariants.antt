use Rattle.std.proofs.Common.{◌≡◌, ◌++◌, drop}
use Rattle.std.specs.List.{flat_map}
use Rattle.roster.specs.Tables.{members_in}
use Rattle.roster.proofs.sharing.numbers_on.Given as goal

abbrev pub invariant-loop-name : goal.invariant-loop-name
invariant-loop-name l = l.numbers.items ++ flat_map (members_in l.channels.list) (drop l.name-index l.names)
    ≡ flat_map (members_in l.channels.list) l.names
