use Rattle.std.proofs.Common.{ℕ, List, Option, ap, ◌≡◌, ◌∙◌, subst}
use Rattle.roster.specs.LookBack.{caps}
use Rattle.labels_batches.specs.Labels.{label_of, piece_label}
use Rattle.labels_batches.specs.Answers.{whole_answer}
use Rattle.labels_batches.specs.Rendered.{text_as}
use Rattle.commands.specs.declared.asked.Asked.{Asked}
use Rattle.commands.specs.Asked.{asked_of}
use Rattle.chronicle.specs.History.{is_quit}
use Rattle.transactions.specs.Effects.{deeds_of}
use Rattle.deeds.specs.Rows.{of_asked}
use Rattle.transactions.specs.Verdicts.{IsVerdict}
use Rattle.ledger.specs.Read.{label_for}
use Rattle.ledger.specs.Seats.{heard_text, planned_with}
use Rattle.ledger.proofs.Plans.{planned_same}
use Rattle.ledger.proofs.plan.prepare_line.Goals as goal

pub returns-clause-deeds : goal.returns-clause-deeds
returns-clause-deeds c =
    let by = c.args.by.now in let s = by.actor in let fs = by.roster.now.facts in let g = by.roster.now.settings in
    c.in_ok-with_room.ensures.deeds ∙ c.in_ok-verdict.ensures.verdict.deeds
    ∙ ap (λ (k : Asked). deeds_of (of_asked g fs s k)) (c.line.invariant.asks ∙ ap asked_of c.line.view_is)

pub returns-clause-quits : goal.returns-clause-quits
returns-clause-quits c = c.is_quit-quits.ensures ∙ c.line.invariant.quits ∙ ap is_quit c.line.view_is

pub returns-clause-plan : goal.returns-clause-plan
returns-clause-plan c =
    let by = c.args.by.now in
    let s = by.actor in
    let fs = by.roster.now.facts in let g = by.roster.now.settings in let k = asked_of c.args.line.now in
    let v = c.in_ok-verdict.verdict in
    let seats = by.seats.now in let n = by.number in let m = by.moment in let q = c.is_quit-quits.result in
    let verdict : IsVerdict v s (of_asked g fs s k) =
    subst (λ (a : Asked). IsVerdict v s (of_asked g fs s a))
    (c.line.invariant.asks ∙ ap asked_of c.line.view_is) c.in_ok-verdict.ensures.verdict in
    let label : c.in_ok-label.label ≡ label_of (caps fs s) c.args.line.now =
    c.in_ok-label.ensures ∙ ap (λ (l : Option (List ℕ)). label_for (caps fs s) l)
    (c.line.invariant.labelled ∙ ap piece_label c.line.view_is) in
    c.in_ok-with_room.ensures.plan
    ∙ ap (λ (l : Option (List ℕ)). planned_with seats s n (text_as (caps fs s) m
    (whole_answer g.server l n v.reply.items v.copies.items)) (heard_text fs m v.others.items) q) label
    ∙ planned_same seats g fs s n (label_of (caps fs s) c.args.line.now) v (of_asked g fs s k) m q verdict
