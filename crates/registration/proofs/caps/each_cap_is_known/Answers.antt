use Rattle.registration.proofs.Known.{each-known}
use Rattle.registration.proofs.caps.each_cap_is_known.Goals as goal

pub returns : goal.returns
returns c = each-known
