use Rattle.roster.proofs.MadeRoom.{alike_refl}
use Rattle.roster.proofs.reserving.reserve_for.Goals as goal

pub returns-in-None-clause-alike : goal.returns-in-None-clause-alike
returns-in-None-clause-alike c = alike_refl c.args.channels.now.list
