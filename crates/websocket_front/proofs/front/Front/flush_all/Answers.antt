use Rattle.std.proofs.Common.{Ok, ap, ◌∙◌, arith}
use Rattle.websocket_front.specs.Fronted.{waiting}
use Rattle.websocket_front.proofs.Going.{goes_on}
use Rattle.websocket_front.proofs.Growing.{grows_trans}
use Rattle.websocket_front.proofs.front.Front.flush_all.Goals as goal

pub loop-turn-preserved : goal.loop-turn-preserved
loop-turn-preserved g c =
    let old = c.args.self.now in
    let i = c.loop-turn.invariant in
    let h = c.in_ok-flush.ensures in
    record {
      out = goes_on g.S.Write.contents old.socket.stream (waiting old) c.loop-turn.self c.flush.new.self i.out
          h.ok;
      is_open = h.stays_open ∙ i.is_open;
      subprotocol = h.subprotocol ∙ i.subprotocol;
      pauses = let paused = h.behind (ap (λ x. Ok x) c.if-branch.false) in omega (arith, i.pauses, paused);
      grows = grows_trans old.causes c.loop-turn.self.causes c.flush.new.self.causes i.grows h.grows;
    }
