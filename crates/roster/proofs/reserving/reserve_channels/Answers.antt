use Rattle.roster.proofs.MadeRoom.{alike_refl, keeps_same}
use Rattle.std.proofs.Common.{List, sym, subst}
use Rattle.roster.specs.declared.tables.Channel.{Channel}
use Rattle.roster.specs.Stands.{Alike}
use Rattle.roster.proofs.reserving.reserve_channels.Goals as goal

pub returns-in_err-reserve-clause-alike : goal.returns-in_err-reserve-clause-alike
returns-in_err-reserve-clause-alike c = subst (λ (ks : List Channel). Alike c.args.channels.now.list ks)
    (sym c.reserve.ensures.list) (alike_refl c.args.channels.now.list)

pub returns-in_err-reserve-clause-kept : goal.returns-in_err-reserve-clause-kept
returns-in_err-reserve-clause-kept c = keeps_same c.args.changes c.args.channels.now.list _ c.reserve.ensures.list
