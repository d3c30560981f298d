use Rattle.std.proofs.Common.{◌≡◌}
use Rattle.casemapping.specs.Fold.{name_fold}
use Rattle.roster.specs.Tables.{held_by}
use Rattle.roster.proofs.nicks.Nicks.search.Given as goal

abbrev pub invariant-loop-key : goal.invariant-loop-key
invariant-loop-key l = held_by l.key-iterator (name_fold l.nick) ≡ held_by l.self.list (name_fold l.nick)
