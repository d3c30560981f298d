use Rattle.std.proofs.Common.{◌≡◌, List, None, false, subst}
use Rattle.std.specs.Result.{IfOk}
use Rattle.deeds.specs.Departure.{departs}
use Rattle.ledger.specs.declared.plan.Planned.{Planned}
use Rattle.ledger.proofs.Plans.{planned_same}
use Rattle.ledger.proofs.plan.prepare_gone.Goals as goal

pub returns-clause-plan : goal.returns-clause-plan
returns-clause-plan c =
    let by = c.args.by.now in let s = by.actor in let v = c.in_ok-verdict.verdict in let fs = by.roster.now.facts in
    subst (λ (ps : List Planned). IfOk c.with_room.result (λ p. p.plan ≡ ps))
    (planned_same by.seats.now by.roster.now.settings fs s by.number None v
    (departs fs s) by.moment false c.in_ok-verdict.ensures.verdict) c.with_room.ensures.plan
