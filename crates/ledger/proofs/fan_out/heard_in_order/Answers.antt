use Rattle.std.proofs.Common.{List, map, ap, ◌∙◌}
use Rattle.ledger.specs.declared.fan_out.Hearing.{Hearing}
use Rattle.ledger.specs.FanOut.{text_for, heard_of, spelled_at}
use Rattle.ledger.proofs.FanOut.{heard_hearings}
use Rattle.ledger.proofs.fan_out.heard_in_order.Goals as goal

pub returns-clause-texts : goal.returns-clause-texts
returns-clause-texts c = λ moment t.
    let ls = map (spelled_at moment) c.args.shown.now in
    c.sort_by_session.ensures.texts ls t
    ∙ ap (λ (xs : List Hearing). text_for (map (heard_of ls) xs) t) c.in_ok-heard.ensures
    ∙ heard_hearings c.args.roster.now.facts moment c.args.shown.now t
