-- no header so far offers one that is served
use Rattle.std.proofs.Common.{◌≡◌, drop}
use Rattle.websocket.specs.Headers.{fields_of}
use Rattle.websocket_front.specs.Asked.{offers}
use Rattle.websocket_front.specs.Offers.{offer_chosen}
use Rattle.websocket_front.proofs.handshake_request.first_offer.Given as goal

abbrev pub invariant-loop-header : goal.invariant-loop-header
invariant-loop-header l =
    offer_chosen (offers (fields_of l.head l.spans))
    ≡ offer_chosen (offers (fields_of l.head (drop l.header-index l.spans)))
