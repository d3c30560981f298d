use Rattle.std.proofs.Common.{◌≡◌, drop}
use Rattle.std.specs.List.{flat_map}
use Rattle.transactions.specs.TransactionView.{grown}
use Rattle.talk_commands.specs.Talking.{to_one}
use Rattle.talk_commands.proofs.talking.send_to_each.Given as goal

abbrev pub invariant-loop-target : goal.invariant-loop-target
invariant-loop-target l = let d = l.fn.tx in let row = to_one d.settings d.facts l.session l.sending in record {
  settings : l.tx.settings ≡ d.settings;
  base : l.tx.base ≡ d.base;
  facts : l.tx.facts ≡ d.facts;
  sent : grown l.tx (flat_map row (drop l.target-index l.targets)) ≡ grown d (flat_map row l.targets);
}
