use Rattle.std.proofs.Common.{Some, is_some, nat_eq, ap, sym, subst, ◌∙◌}
use Rattle.ledger.specs.Noted.{counts_at, Forgets}
use Rattle.ledger.proofs.Noting.{forgotten_some}
use Rattle.ledger.proofs.base.forget_counts.Goals as goal

pub returns-in-Some : goal.returns-in-Some
returns-in-Some c =
    subst (λ o. Forgets o (Some c.forget.new.self) c.args.session) (sym c.in-Some.is) (
      c.forget.ensures.front,
      c.forget.ensures.settings,
      λ t. ap is_some (c.forget.ensures.counts t)
          ∙ forgotten_some (nat_eq c.args.session t) (counts_at c.in-Some.kept.counts t),
    )
