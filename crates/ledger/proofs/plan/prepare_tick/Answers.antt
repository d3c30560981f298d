use Rattle.std.proofs.Common.{◌≡◌, ℕ, List, [], ◌∷◌, ◌++◌, false, ap, ◌∙◌}
use Rattle.numerics.specs.declared.outgoing.Out.{Out}
use Rattle.deeds.specs.Ping.{ping_line}
use Rattle.transactions.specs.declared.verdict.ShownLine.{ShownLine}
use Rattle.ledger.specs.Seats.{heard_text, planned_with}
use Rattle.ledger.proofs.plan.prepare_tick.Goals as goal

pub returns-clause-plan : goal.returns-clause-plan
returns-clause-plan c =
    let by = c.args.by.now in
    let seats = by.seats.now in
    let s = by.actor in
    let n = by.number in let g = by.roster.now.settings in let fs = by.roster.now.facts in let m = by.moment in
    let line : c.in_ok-line.line ≡ ping_line g.server = c.in_ok-line.ensures
    ∙ ap ping_line (c.as_slice.ensures ∙ ap (λ x. x.server) c.settings.ensures.value) in
    let items : c.push.new.self.items ≡ record { hearers = c.args.sessions.now; line = ping_line g.server } ∷ [] =
    c.in_ok-push.ensures.items ∙ ap (λ (xs : List ShownLine). xs
    ++ record { hearers = c.from_vec.result; line = c.in_ok-line.line } ∷ []) c.new-shown.ensures.items
    ∙ ap (λ (hs : List ℕ). record { hearers = hs; line = c.in_ok-line.line } ∷ [])
    (c.from_vec.ensures ∙ c.in_ok-from_slice.ensures.items)
    ∙ ap (λ (l : Out). record { hearers = c.args.sessions.now; line = l } ∷ []) line in
    c.in_ok-plan.ensures ∙ ap (λ (own : List ℕ). planned_with seats s n own
    (heard_text fs m c.push.new.self.items) false) (c.from_vec-nothing.ensures ∙ c.new.ensures.items)
    ∙ ap (λ (xs : List ShownLine). planned_with seats s n [] (heard_text fs m xs) false) items
