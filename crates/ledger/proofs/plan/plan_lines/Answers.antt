use Rattle.std.proofs.Common.{◌≡◌, ℕ, List, map, subst, ap, ◌∙◌}
use Rattle.std.specs.Result.{IfOk}
use Rattle.labels_batches.specs.Spellings.{Spelled}
use Rattle.transactions.specs.declared.verdict.ShownLine.{ShownLine}
use Rattle.ledger.specs.declared.fan_out.Hearing.{Hearing}
use Rattle.ledger.specs.declared.plan.Planned.{Planned}
use Rattle.ledger.specs.FanOut.{text_for, deliveries_of, heard_of, one_each, spelled_at}
use Rattle.ledger.specs.Seats.{heard_text}
use Rattle.ledger.proofs.FanOut.{deliveries_others}
use Rattle.ledger.proofs.plan.plan_lines.Goals as goal

pub returns : goal.returns
returns c =
    let by = c.args.by.now in let shown = c.args.shown.items in
    let fs = by.roster.now.facts in
    let ls = map (spelled_at by.moment) shown in let hs = c.in_ok-heard.heard.items in
    let texts = subst (λ (xs : List ShownLine). (t : ℕ)
    → text_for (map (heard_of (map (spelled_at by.moment) xs)) hs) t ≡ heard_text fs by.moment xs t)
    c.deref.ensures.value (c.in_ok-heard.ensures.texts by.moment) in
    subst (λ (ps : List Planned). IfOk c.plan_others.result (λ plan. plan.items ≡ ps))
    (ap (λ (xs : List Hearing). deliveries_of by.seats.now by.actor by.number
    (one_each (map (heard_of c.in_ok-lines.lines) xs))) c.deref-2.ensures.value
    ∙ ap (λ (xs : List Spelled). deliveries_of by.seats.now by.actor by.number (one_each (map (heard_of xs) hs)))
    c.in_ok-lines.ensures
    ∙ deliveries_others by.seats.now by.actor by.number (heard_text fs by.moment shown) (map (heard_of ls) hs)
    (c.in_ok-heard.ensures.order ls) texts)
    c.plan_others.ensures
