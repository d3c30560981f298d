use Rattle.std.proofs.Common.{List, ap, ◌∙◌}
use Rattle.roster.specs.declared.deed.Deed.{Deed}
use Rattle.roster.specs.LookBack.{why}
use Rattle.ledger.specs.Ledger.{ended_for}
use Rattle.ledger.proofs.ledger.Ledger.why_of.Goals as goal

pub returns : goal.returns
returns over c =
    let s = c.args.session in
    c.why_of.ensures ∙ ap (λ (fs : List Deed). why fs s) c.self.invariant.kept.facts
    ∙ ap (λ m. ended_for m s) c.self.view_is
