-- only pings and pongs were read so far
use Rattle.std.proofs.Common.{◌≡◌, List, length, true}
use Rattle.tungstenite.specs.Socket.{Socket}
use Rattle.websocket_front.specs.Reading.{Passes}
use Rattle.websocket_front.specs.Causes.{Grows}
use Rattle.websocket_front.proofs.front.Front.next.Given as goal

abbrev pub invariant-loop-turn : goal.invariant-loop-turn
invariant-loop-turn g l = record {
  passes : (ss : List (Socket g.row.S.Denot)) × (length ss ≡ l.turn)
      × Passes g.S.Read.remaining l.fn.self.socket ss l.self.socket;
  rest : l.self.rest ≡ l.fn.self.rest;
  subprotocol : l.self.subprotocol ≡ l.fn.self.subprotocol;
  is_open : l.self.is_open ≡ true;
  grows : Grows l.fn.self.causes l.self.causes;
}
