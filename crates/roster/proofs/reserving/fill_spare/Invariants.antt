use Rattle.std.proofs.Common.{◌-◌, length, vec_len}
use Rattle.roster.specs.Stands.{AreSpare}
use Rattle.roster.proofs.reserving.fill_spare.Given as goal

abbrev pub invariant-fill : goal.invariant-fill
invariant-fill l = AreSpare (length l.deeds) l.spare.items

abbrev pub decreases-fill : goal.decreases-fill
decreases-fill l = l.makings - vec_len l.spare
