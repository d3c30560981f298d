use Rattle.std.proofs.Common.{ap, ◌∙◌, subst}
use Rattle.roster.specs.Legal.{AreLegal}
use Rattle.deeds.specs.Deeds.{facts}
use Rattle.ledger.proofs.ledger.Ledger.facts_are_legal.Goals as goal

pub returns : goal.returns
returns over c = subst AreLegal (c.self.invariant.kept.facts ∙ ap (λ m. facts m.settings m.history) c.self.view_is)
    c.sound.ensures.legal
