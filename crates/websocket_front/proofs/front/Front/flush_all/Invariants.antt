-- what waited at first went out or waits
use Rattle.std.proofs.Common.{◌≡◌, ◌≤◌, ◌+◌}
use Rattle.websocket_front.specs.Fronted.{waiting, GoesOut}
use Rattle.websocket_front.specs.Causes.{Grows}
use Rattle.websocket_front.proofs.front.Front.flush_all.Given as goal

abbrev pub invariant-loop-turn : goal.invariant-loop-turn
invariant-loop-turn g l = record {
  out : GoesOut g.S.Write.contents l.fn.self.socket.stream (waiting l.fn.self) l.self;
  is_open : l.self.is_open ≡ l.fn.self.is_open;
  subprotocol : l.self.subprotocol ≡ l.fn.self.subprotocol;
  pauses : l.fn.self.causes.pauses + l.turn ≤ l.self.causes.pauses;
  grows : Grows l.fn.self.causes l.self.causes;
}
