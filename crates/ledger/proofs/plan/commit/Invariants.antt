use Rattle.std.proofs.Common.{◌≡◌}
use Rattle.std.specs.Vec.Iter.{into_iter_items}
use Rattle.roster.specs.LookBack.{after}
use Rattle.ledger.proofs.plan.commit.Given as goal

-- what is left is what the roster is ready for
abbrev pub invariant-loop-deed : goal.invariant-loop-deed
invariant-loop-deed l = record {
  ready : l.roster.ready ≡ into_iter_items l.deed-iterator;
  settings : l.roster.settings ≡ l.fn.roster.settings;
  facts : after l.roster.facts (into_iter_items l.deed-iterator) ≡ after l.fn.roster.facts l.fn.deeds.items;
}
