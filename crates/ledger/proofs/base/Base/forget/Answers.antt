use Rattle.std.proofs.Common.{ℕ, cond, nat_eq, None, ap, ◌∙◌}
use Rattle.ledger.specs.Noted.{counts_at}
use Rattle.ledger.proofs.Noting.{forgotten_counts}
use Rattle.ledger.proofs.base.Base.forget.Goals as goal

pub invariant_of-self : goal.invariant_of-self
invariant_of-self c =
    let a = c.self.inside in let cs = a.counts.entries in let s = c.args.session in (
      c.self.invariant.0,
      forgotten_counts a.roster.settings a.history.value.history cs c.swap_remove.new.self.entries s
          (λ t. c.swap_remove.ensures.updates.0 t
          ∙ ap (λ (n : ℕ). cond (nat_eq n t) None (counts_at cs t)) c.number.ensures) c.self.invariant.1,
    )

pub returns-clause-counts : goal.returns-clause-counts
returns-clause-counts c =
    let cs = c.self.inside.counts.entries in let s = c.args.session in
    λ t. c.swap_remove.ensures.updates.0 t
    ∙ ap (λ (n : ℕ). cond (nat_eq n t) None (counts_at cs t)) c.number.ensures
    ∙ ap (λ m. cond (nat_eq s t) None (counts_at m.counts t)) c.self.view_is
