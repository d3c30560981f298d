use Rattle.std.proofs.Common.{◌≡◌, List, ◌+◌, drop, ap, sym, ◌∙◌}
use Rattle.registration.specs.declared.settings.Settings.{Settings}
use Rattle.roster.specs.declared.deed.Deed.{Deed}
use Rattle.transactions.specs.TransactionView.{TransactionView, grown}
use Rattle.channel_commands.specs.Each.{each}
use Rattle.channel_commands.proofs.Lists.{each_more, each_done}
use Rattle.channel_commands.proofs.each_name.do_for_each.Goals as goal

pub loop-one-preserved : goal.loop-one-preserved
loop-one-preserved g c =
    let d0 = c.args.tx.now in let of = g.R.DoesFor.effects_of c.args.command.now in
    let row = of d0.settings d0.base in
    let xs = c.args.ones.now in
    let i = c.loop-one.one-index in let d = c.loop-one.tx in let x = c.one-item.result in
    let one : c.do_for.new.tx ≡ grown d (row d.facts x) =
    c.in_ok-do_for.ensures
    ∙ ap (λ (h : Settings). grown d (of h d.base d.facts x)) c.loop-one.invariant.settings
    ∙ ap (λ (fs : List Deed). grown d (of d0.settings fs d.facts x)) c.loop-one.invariant.base in
    record {
      settings = ap (λ (e : TransactionView). e.settings) one ∙ c.loop-one.invariant.settings;
      base = ap (λ (e : TransactionView). e.base) one ∙ c.loop-one.invariant.base;
      done = ap (λ (e : TransactionView). grown e (each row e.facts (drop (i + 1) xs))) one
          ∙ each_more row d xs i x c.loop-one-test.true c.one-item.is ∙ c.loop-one.invariant.done;
    }

pub returns : goal.returns
returns g c =
    let d0 = c.args.tx.now in
    sym (each_done (g.R.DoesFor.effects_of c.args.command.now d0.settings d0.base) c.loop-one.tx c.args.ones.now
    c.loop-one.one-index c.loop-one-test.false) ∙ c.loop-one.invariant.done
