-- No capability is left out.
use Rattle.std.proofs.Common.{refl}
use Rattle.registration.specs.declared.caps.Cap.TheVariants.{AwayNotify}
use Rattle.registration.specs.Caps.{EachCapIsKnown}

pub each-known : EachCapIsKnown
each-known AwayNotify = refl
each-known _ = refl
