use Rattle.std.proofs.Common.{ℤ, subst}
use Rattle.session_ends.specs.Timing.{IsLater}
use Rattle.session_ends.proofs.server.moment_in.Goals as goal

pub returns : goal.returns
returns g c = subst (λ (m : ℤ). IsLater c.args.moment m c.later.result) c.last_moment.ensures c.later.ensures
