-- no value that ended so far names one that is served, and the next began at `start`
use Rattle.std.proofs.Common.{◌≡◌, ◌≤◌, ◌-◌, take, drop}
use Rattle.websocket_front.specs.Offers.{named_from, first_named}
use Rattle.websocket_front.proofs.subprotocol.first_in_list.Given as goal

abbrev pub invariant-loop-place : goal.invariant-loop-place
invariant-loop-place l = record {
  begun : l.start ≤ l.place;
  found : named_from (take (l.place - l.start) (drop l.start l.value)) (drop l.place l.value) ≡ first_named l.value;
}
