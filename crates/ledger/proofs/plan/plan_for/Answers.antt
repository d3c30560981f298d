use Rattle.std.proofs.Common.{◌++◌, not, List, ap, ◌∙◌}
use Rattle.ledger.specs.declared.plan.Planned.{Planned}
use Rattle.ledger.specs.Ledger.{puts}
use Rattle.ledger.specs.Seats.{hears, told_own}
use Rattle.ledger.proofs.plan.plan_for.Goals as goal

pub returns : goal.returns
returns c =
    let by = c.args.by.now in let seats = by.seats.now in let s = by.actor in
    c.new.ensures ∙ ap (λ (ps : List Planned). ps ++ c.in_ok-others.others.items) c.in_ok-first.ensures ∙ ap
    (λ (ps : List Planned). puts s (told_own (not (hears seats s)) by.number c.args.own c.args.quits) ++ ps)
    c.in_ok-others.ensures
