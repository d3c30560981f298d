use Rattle.std.proofs.Common.{ℕ, List, ap, ◌∙◌}
use Rattle.roster.specs.declared.deed.Deed.{Deed}
use Rattle.roster.specs.LookBack.{on}
use Rattle.deeds.specs.Deeds.{facts}
use Rattle.ledger.proofs.ledger.Ledger.is_on.Goals as goal

pub returns : goal.returns
returns over c =
    let s = c.args.session in
    c.is_on.ensures ∙ ap (λ (name : List ℕ). on c.self.inside.roster.facts s name) c.as_slice.ensures ∙ ap
    (λ (fs : List Deed). on fs s c.args.channel.now) c.self.invariant.kept.facts
    ∙ ap (λ m. on (facts m.settings m.history) s c.args.channel.now) c.self.view_is
