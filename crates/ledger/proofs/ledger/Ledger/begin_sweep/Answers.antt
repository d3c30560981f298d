use Rattle.std.proofs.Common.{ℕ, Some, sym, ap, ◌∙◌}
use Rattle.chronicle.specs.declared.record.Kind.TheVariants.{Gone}
use Rattle.ledger.specs.Ledger.{after_begin}
use Rattle.ledger.proofs.ledger.Ledger.begin_sweep.Goals as goal

pub returns-in_ok-sweep_one-in-Some-clause-some : goal.returns-in_ok-sweep_one-in-Some-clause-some
returns-in_ok-sweep_one-in-Some-clause-some over c =
    let swept = c.in_ok-sweep_one-in-Some.ensures in let session = sym swept.line.0 in (
      sym c.in-Some.ensures ∙ ap (λ (s : ℕ). Some s) session,
      swept.ok ∙ ap (λ (s : ℕ). after_begin c.args.self.now (Gone s) c.args.moment) session,
      swept.out,
      swept.line.1,
    )
