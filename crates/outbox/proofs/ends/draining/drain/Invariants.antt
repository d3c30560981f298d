use Rattle.std.proofs.Common.{◌≡◌, ◌++◌, true, List, length}
use Rattle.crossbeam_channel.specs.Claims.{IsSeatAt}
use Rattle.crossbeam_channel.specs.Ends.{receives_on}
use Rattle.deliveries.specs.declared.item.Item.{Item}
use Rattle.outbox.specs.Ends.{known_by}
use Rattle.outbox.proofs.ends.draining.drain.Given as goal

abbrev pub invariant-loop-count : goal.invariant-loop-count
invariant-loop-count g l = record {
  seat : IsSeatAt (receives_on l.receiver) l.pass;
  sends : (known_by l.pass).sends ≡ true;
  takes : (known_by l.pass).takes ≡ true;
  sent : (known_by l.pass).sent ≡ (known_by l.initial.pass).sent;
  got : (done : List Item) × ((known_by l.pass).got ≡ (known_by l.initial.pass).got ++ done) × (length done ≡ l.count);
}
