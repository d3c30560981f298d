use Rattle.tungstenite.proofs.HeadLemmas.{accepted-head}
use Rattle.websocket_front.proofs.Unasked.{asks_none}
use Rattle.websocket_front.proofs.handshake_request.check_head.Goals as goal

pub returns-clause-accepted : goal.returns-clause-accepted
returns-clause-accepted c =
    accepted-head c.args.head.now c.args.found.now c.args.spans.now c.check_request.result c.requires.within
    c.requires.parsed c.check_request.ensures

pub returns-clause-refused : goal.returns-clause-refused
returns-clause-refused c =
    asks_none c.args.head.now c.args.found.now c.args.spans.now c.check_request.result c.requires.parsed
    c.check_request.ensures
