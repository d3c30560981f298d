-- what waited at first went out or waits
use Rattle.std.proofs.Common.{◌≡◌, true}
use Rattle.websocket_front.specs.Fronted.{waiting, GoesOut}
use Rattle.websocket_front.specs.Causes.{Grows}
use Rattle.websocket_front.proofs.front.Front.frame_lines.Given as goal

abbrev pub invariant-loop : goal.invariant-loop
invariant-loop g l = record {
  out : GoesOut g.S.Write.contents l.fn.self.socket.stream (waiting l.fn.self) l.self;
  subprotocol : l.self.subprotocol ≡ l.fn.self.subprotocol;
  is_open : l.self.is_open ≡ true;
  grows : Grows l.fn.self.causes l.self.causes;
}
