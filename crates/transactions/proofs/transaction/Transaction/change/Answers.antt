use Rattle.std.proofs.Common.{arith, ◌≡◌, ◌∷◌, ap, ◌∙◌}
use Rattle.std.proofs.lemmas.Grind.{common_steps}
use Rattle.channel_state.specs.State.{with_change}
use Rattle.roster.specs.declared.deed.Deed.TheVariants.{Changed}
use Rattle.transactions.specs.Look.{looked_at}
use Rattle.transactions.specs.Seen.{Seen}
use Rattle.transactions.proofs.Named.{seen_after}
use Rattle.transactions.proofs.transaction.Transaction.change.Goals as goal

pub returns-clause-known : goal.returns-clause-known
returns-clause-known c =
    let fs = c.args.self.now.facts in let k = c.args.seen.now in let x = c.args.change in
    let facts : c.establish.new.self.facts ≡ Changed k.name x ∷ fs = grind (arith, common_steps) in
    let now : looked_at c.change.new.self
    ≡ record { name = k.name; state = with_change x k.state } = c.change.ensures ∙ ap
    (λ (j : Seen). record { name = j.name; state = with_change x j.state })
    (c.copy.ensures.same ∙ c.seen.view_is) in
    seen_after fs c.establish.new.self.facts k
    (looked_at c.change.new.self) x facts now c.requires.seen c.requires.lasts
