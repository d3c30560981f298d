-- none of the values so far names one that is served
use Rattle.std.proofs.Common.{◌≡◌, map}
use Rattle.websocket_front.specs.Offers.{offer_chosen}
use Rattle.websocket_front.proofs.subprotocol.choose.Given as goal

abbrev pub invariant-loop-value : goal.invariant-loop-value
invariant-loop-value l = offer_chosen (map (λ v. v.bytes) l.value-iterator)
    ≡ offer_chosen (map (λ v. v.bytes) l.fn.values)
