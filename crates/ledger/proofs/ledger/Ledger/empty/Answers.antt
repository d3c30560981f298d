use Rattle.std.proofs.Common.{◌≡◌, [], false, refl, ap, sym}
use Rattle.chronicle.specs.Journal.{Limit}
use Rattle.ledger.proofs.KeptSteps.{empty_kept}
use Rattle.ledger.proofs.Rolling.{shown_empty}
use Rattle.ledger.proofs.LastActivity.{since_none}
use Rattle.ledger.proofs.ledger.Ledger.empty.Goals as goal

pub invariant_of-result : goal.invariant_of-result
invariant_of-result over c =
    let history : c.in-Ok.journal.history ≡ [] = c.in-Ok.ensures.0 in
    record {
      kept = empty_kept over.O.Outbox.sent c.in-Ok.journal c.args.roster.settings c.args.roster.facts c.new-2.result
          c.new-3.result.boxes c.nothing.result
          history c.requires.none c.new-2.ensures c.new-3.ensures c.nothing.ensures;
      based = ap (λ (l : Limit). l.dropped) c.in-Ok.ensures.1;
      cut = sym (ap (λ (l : Limit). l.is_cut) c.in-Ok.ensures.1);
      since = since_none c.in-Ok-new.last_heard c.in-Ok.journal.history c.new-3.result.boxes c.in-Ok-new.ensures
          c.new-3.ensures;
    }

pub returns-clause-ok : goal.returns-clause-ok
returns-clause-ok over c =
    let history : c.in-Ok.journal.history ≡ [] = c.in-Ok.ensures.0 in
    let limit : c.in-Ok.journal.limit
    ≡ record { records = c.args.limit; dropped = 0; is_cut = false } = c.in-Ok.ensures.1 in
    shown_empty c.in-Ok.journal c.args.roster.settings c.args.roster.settings c.new-3.result.boxes c.nothing.result
    c.args.limit history limit refl c.new-3.ensures c.nothing.ensures
