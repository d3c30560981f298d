use Rattle.std.proofs.Common.{◌+◌, ◌*◌, length}
use Rattle.casemapping.proofs.MaskLemmas.{Keeps, tries_left}
use Rattle.casemapping.proofs.mask.is_match.Given as goal

abbrev pub invariant-places : goal.invariant-places
invariant-places l = Keeps l.mask l.text l.last_star l.pattern l.rest

-- the loop runs at most about as often as the text's length times the mask's
abbrev pub decreases-places : goal.decreases-places
decreases-places l = tries_left l.text l.last_star * (length l.mask + 1) + length l.pattern
