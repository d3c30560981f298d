use Rattle.websocket_front.specs.Fronted.{close_of_code, is_open_of}
use Rattle.websocket_front.proofs.Steps.{goes_closed}
use Rattle.websocket_front.proofs.front.Front.close.Goals as goal

pub returns-in-Ok-clause-ok : goal.returns-in-Ok-clause-ok
returns-in-Ok-clause-ok g c =
    let a = c.self.inside in
    rw (← c.self.view_is) (λ _ _. goes_closed g.S.Write.contents a.subprotocol a.socket.inner c.close.new.self.inner
    c.close.new.self.causes.value (close_of_code c.args.code) (is_open_of a.ending) c.in-Ok.ensures.taken)
