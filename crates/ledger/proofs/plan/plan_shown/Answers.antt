use Rattle.std.proofs.Common.{◌≡◌, [], ℕ, List, length, arith, refl, sym, ap, ◌∙◌}
use Rattle.std.proofs.lemmas.Bool.Decides.{nat_tests}
use Rattle.std.proofs.lemmas.List.{nil_from_length}
use Rattle.transactions.specs.declared.verdict.ShownLine.{ShownLine}
use Rattle.ledger.specs.Ledger.{others}
use Rattle.ledger.specs.Seats.{told_to, heard_text}
use Rattle.ledger.proofs.FanOut.{deliveries_others}
use Rattle.ledger.proofs.plan.plan_shown.Goals as goal

pub returns-then-is_empty : goal.returns-then-is_empty
returns-then-is_empty c =
    let by = c.args.by.now in let seats = by.seats.now in let fs = by.roster.now.facts in
    let none : length c.args.shown.items ≡ 0 = grind (arith, nat_tests) in
    c.new.ensures.items
    ∙ deliveries_others seats by.actor by.number (heard_text fs by.moment []) [] tt (λ (t : ℕ). refl)
    ∙ ap (λ (xs : List ShownLine). others (told_to seats by.number (heard_text fs by.moment xs)) by.actor 1
    (length seats)) (sym (nil_from_length c.args.shown.items none))
