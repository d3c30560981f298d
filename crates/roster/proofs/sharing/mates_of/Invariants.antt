use Rattle.std.proofs.Common.{◌≡◌, ◌++◌, drop}
use Rattle.roster.specs.Tables.{mates_in}
use Rattle.roster.proofs.sharing.mates_of.Given as goal

abbrev pub invariant-loop-number : goal.invariant-loop-number
invariant-loop-number l = l.mates ++ mates_in l.session l.count (drop l.number-index l.numbers)
    ≡ mates_in l.session l.count l.numbers
