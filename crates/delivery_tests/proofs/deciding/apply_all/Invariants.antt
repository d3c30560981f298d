use Rattle.std.proofs.Common.{◌≡◌}
use Rattle.std.specs.Vec.Iter.{into_iter_items}
use Rattle.roster.specs.LookBack.{after}
use Rattle.delivery_tests.proofs.deciding.apply_all.Given as goal

-- what is left is what the roster is ready for
abbrev pub invariant-loop-deed : goal.invariant-loop-deed
invariant-loop-deed l = record {
  ready : l.roster.ready ≡ into_iter_items l.deed-iterator;
  facts : after l.roster.facts (into_iter_items l.deed-iterator) ≡ after l.fn.roster.facts l.fn.deeds.items;
}
