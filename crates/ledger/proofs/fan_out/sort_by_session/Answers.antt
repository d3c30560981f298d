use Rattle.std.proofs.Common.{rules}
use Rattle.std.proofs.lemmas.Fn.{always_returns_same}
use Rattle.ledger.specs.declared.fan_out.Hearing.{Hearing}
use Rattle.ledger.proofs.FanOut.{texts_stable, sorted_rises}
use Rattle.ledger.proofs.fan_out.sort_by_session.Goals as goal

pub returns-clause-texts : goal.returns-clause-texts
returns-clause-texts c = λ ls t. texts_stable ls _ _ (c.sort_by_key.ensures.stable (λ (x : Hearing). x.session)
    (always_returns_same _ _ _ (λ a r f h. search rules))) t

pub returns-clause-order : goal.returns-clause-order
returns-clause-order c = λ ls. sorted_rises ls _ (c.in_ok-sort_by_key.ensures.sorted (λ (x : Hearing). x.session)
    (always_returns_same _ _ _ (λ a r f h. search rules)))
