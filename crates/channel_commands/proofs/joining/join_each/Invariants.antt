use Rattle.std.proofs.Common.{◌≡◌, drop}
use Rattle.transactions.specs.TransactionView.{grown}
use Rattle.channel_commands.specs.Each.{each_counted}
use Rattle.channel_commands.specs.Joining.{joins_one}
use Rattle.channel_commands.proofs.joining.join_each.Given as goal

abbrev pub invariant-loop-target : goal.invariant-loop-target
invariant-loop-target l = let d = l.fn.tx in let row = joins_one d.settings d.base l.session l.from in record {
  settings : l.tx.settings ≡ d.settings;
  base : l.tx.base ≡ d.base;
  done : grown l.tx (each_counted row l.tx.facts l.joined (drop l.target-index l.targets))
      ≡ grown d (each_counted row d.facts l.count l.targets);
}
