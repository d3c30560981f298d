use Rattle.std.proofs.Common.{◌≡◌, map, take}
use Rattle.numerics.proofs.outgoing.copy_all.Given as goal

abbrev pub invariant-loop-slice : goal.invariant-loop-slice
invariant-loop-slice l = l.copies.items ≡ map (λ s. s.now) (take l.slice-index l.slices)
