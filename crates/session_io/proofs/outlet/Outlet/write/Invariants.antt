use Rattle.std.proofs.Common.{IfSome}
use Rattle.session_io.specs.Writing.{Pumps}
use Rattle.session_io.proofs.outlet.Outlet.write.Given as goal

abbrev pub invariant-loop : goal.invariant-loop
invariant-loop g l = IfSome l.pumped (λ p. Pumps p.before.value p.after.value p.session p.flow)
