use Rattle.std.proofs.Common.{ap, ◌∙◌, subst}
use Rattle.transactions.specs.TransactionView.{TransactionView}
use Rattle.transactions.specs.Verdicts.{IsVerdict}
use Rattle.transactions.specs.Words.{grown}
use Rattle.deeds.specs.Departure.{departs}
use Rattle.deeds.proofs.departure.decide_gone.Goals as goal

pub returns-clause-verdict : goal.returns-clause-verdict
returns-clause-verdict c =
    let s = c.args.session in
    subst (λ (d : TransactionView). IsVerdict c.finish.result d.session d.effects) (c.in_ok-depart.ensures ∙ ap
    (λ (d : TransactionView). grown d (departs d.facts s)) c.new-tx.ensures) c.finish.ensures.verdict
