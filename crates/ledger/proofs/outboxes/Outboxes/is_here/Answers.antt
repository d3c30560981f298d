use Rattle.std.proofs.Common.{◌≡◌, true, false, refl, ap, sym, ◌∙◌}
use Rattle.ledger.proofs.Mapped.{box_there, box_stands}
use Rattle.ledger.proofs.outboxes.Outboxes.is_here.Goals as goal

pub returns-clause-yes : goal.returns-clause-yes
returns-clause-yes over c =
    let a = c.self.inside in
    λ yes. box_there a.outboxes.entries a.opened c.args.self.now.boxes (ap (λ m. m.boxes) c.self.view_is)
    c.args.session c.args.session refl c.self.invariant.opened (sym c.is_in.ensures ∙ yes)

pub returns-clause-no : goal.returns-clause-no
returns-clause-no over c =
    let a = c.self.inside in
    λ no there. let f : false ≡ true = sym no ∙ c.is_in.ensures ∙ box_stands a.outboxes.entries a.opened
    c.args.self.now.boxes (ap (λ m. m.boxes) c.self.view_is) c.args.session c.args.session refl there in cc
