-- what waited at first went out or waits
use Rattle.std.proofs.Common.{◌≡◌, ◌+◌, ◌*◌, cond, length, true}
use Rattle.websocket_front.specs.Fronted.{waiting, GoesOut}
use Rattle.websocket_front.specs.Causes.{Grows}
use Rattle.websocket_front.specs.Lines.{lines}
use Rattle.websocket_front.proofs.front.Front.flush.Given as goal

abbrev pub invariant-loop-is_out : goal.invariant-loop-is_out
invariant-loop-is_out g l = record {
  out : GoesOut g.S.Write.contents l.fn.self.socket.stream (waiting l.fn.self) l.self;
  subprotocol : l.self.subprotocol ≡ l.fn.self.subprotocol;
  is_open : l.self.is_open ≡ true;
  grows : Grows l.fn.self.causes l.self.causes;
}

-- a line goes into a frame, or room is made for one
abbrev pub decreases-loop-is_out : goal.decreases-loop-is_out
decreases-loop-is_out g l = 2 * length (lines l.self.rest) + cond l.is_out 0 1
