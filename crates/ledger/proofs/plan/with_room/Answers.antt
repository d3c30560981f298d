use Rattle.std.proofs.Common.{ℕ, List, ap, ◌∙◌}
use Rattle.numerics.specs.declared.outgoing.Out.{Out}
use Rattle.roster.specs.LookBack.{caps}
use Rattle.labels_batches.specs.Answers.{whole_answer}
use Rattle.labels_batches.specs.Rendered.{text_as}
use Rattle.ledger.specs.Seats.{heard_text, planned_with}
use Rattle.ledger.proofs.plan.with_room.Goals as goal

pub returns-clause-plan : goal.returns-clause-plan
returns-clause-plan c =
    let by = c.args.by.now in
    let seats = by.seats.now in
    let s = by.actor in
    let n = by.number in
    let g = by.roster.now.settings in
    let fs = by.roster.now.facts in let m = by.moment in let v = c.args.verdict in let q = c.args.quits in
    let own = c.in_ok-own.ensures ∙ ap (λ (ls : List Out). text_as (caps fs s) m
    (whole_answer g.server c.args.label n v.reply.items ls)) c.deref.ensures.value in
    c.in_ok-plan.ensures ∙ ap (λ (bs : List ℕ). planned_with seats s n bs (heard_text fs m v.others.items) q) own
