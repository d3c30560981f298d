use Rattle.std.proofs.Common.{◌≡◌, drop}
use Rattle.transactions.specs.TransactionView.{grown}
use Rattle.channel_commands.specs.Each.{each}
use Rattle.channel_commands.proofs.each_name.do_for_each.Given as goal

abbrev pub invariant-loop-one : goal.invariant-loop-one
invariant-loop-one g l = let d = l.fn.tx in let row = g.R.DoesFor.effects_of l.command d.settings d.base in record {
  settings : l.tx.settings ≡ d.settings;
  base : l.tx.base ≡ d.base;
  done : grown l.tx (each row l.tx.facts (drop l.one-index l.ones)) ≡ grown d (each row d.facts l.ones);
}
