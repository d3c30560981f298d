use Rattle.std.proofs.Common.{◌≡◌, drop}
use Rattle.transactions.specs.TransactionView.{grown}
use Rattle.transactions.specs.Replies.{tells_all}
use Rattle.transactions.proofs.replies.tell_all.Given as goal

abbrev pub invariant-loop-numeric : goal.invariant-loop-numeric
invariant-loop-numeric l = let d = l.fn.tx in record {
  settings : l.tx.settings ≡ d.settings;
  facts : l.tx.facts ≡ d.facts;
  told : grown l.tx (tells_all d.settings d.facts l.fn.session (drop l.numeric-index l.numerics))
      ≡ grown d (tells_all d.settings d.facts l.fn.session l.numerics);
}
