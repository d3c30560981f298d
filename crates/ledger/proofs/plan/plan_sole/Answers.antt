use Rattle.std.proofs.Common.{◌≡◌, ◌++◌, ◌∷◌, [], ℕ, List, map, length, subst, ap, ◌∙◌}
use Rattle.std.specs.Result.{IfOk}
use Rattle.transactions.specs.declared.verdict.ShownLine.{ShownLine}
use Rattle.labels_batches.specs.Spellings.{Spelled}
use Rattle.ledger.specs.declared.plan.Planned.{Planned}
use Rattle.ledger.specs.Ledger.{others}
use Rattle.ledger.specs.Seats.{told_to, heard_text}
use Rattle.ledger.specs.FanOut.{heard_by, deliveries_of, ascends}
use Rattle.ledger.proofs.Ascending.{deliveries_sole, others_sole}
use Rattle.ledger.proofs.plan.plan_sole.Goals as goal

pub returns-then-ascend : goal.returns-then-ascend
returns-then-ascend c =
    let by = c.args.by.now in let seats = by.seats.now in let s = by.actor in let n = by.number in
    let fs = by.roster.now.facts in let hs = c.in_ok-hearers.hearers in let line = c.args.shown.line in
    let up : ascends 0 hs = subst (ascends 0) c.as_slice.ensures (c.ascend.ensures c.if-ascend.true) in
    subst (λ (ps : List Planned). IfOk c.plan_line.result (λ plan. plan.items ≡ ps))
    (ap (λ (x : Spelled). deliveries_of seats s n (map (heard_by fs x.moment x.line)
    c.as_slice-then-ascend.result.now)) c.in_ok-line.ensures
    ∙ ap (λ (ts : List ℕ). deliveries_of seats s n (map (heard_by fs by.moment line) ts))
    c.as_slice-then-ascend.ensures
    ∙ deliveries_sole seats s n fs by.moment line c.args.shown.hearers hs up c.in_ok-hearers.ensures)
    c.plan_line.ensures

pub returns : goal.returns
returns c =
    let by = c.args.by.now in let seats = by.seats.now in let s = by.actor in let n = by.number in
    let fs = by.roster.now.facts in let hs = c.in_ok-hearers.hearers in let line = c.args.shown.line in
    subst (λ (ps : List Planned). IfOk c.plan_lines.result (λ plan. plan.items ≡ ps))
    (ap (λ (xs : List ShownLine). others (told_to seats n (heard_text fs by.moment xs)) s 1 (length seats))
    (c.in_ok-push.ensures.items ∙ ap (λ (xs : List ShownLine). xs ++ record { hearers = hs; line = line } ∷ [])
    c.new-shown.ensures.items)
    ∙ others_sole seats s n fs by.moment line c.args.shown.hearers hs c.in_ok-hearers.ensures)
    c.plan_lines.ensures
