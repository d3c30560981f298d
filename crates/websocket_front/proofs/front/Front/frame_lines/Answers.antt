use Rattle.std.proofs.Common.{◌∙◌}
use Rattle.websocket_front.specs.Fronted.{waiting}
use Rattle.websocket_front.proofs.Going.{goes_on}
use Rattle.websocket_front.proofs.Growing.{grows_trans}
use Rattle.websocket_front.proofs.front.Front.frame_lines.Goals as goal

pub returns-in-Ok : goal.returns-in-Ok
returns-in-Ok g c =
    let old = c.args.self.now in
    let i = c.loop.invariant in
    record {
      ok = goes_on g.S.Write.contents old.socket.stream
          (waiting old) c.loop.self c.frame_next.new.self i.out c.in-Ok.ensures.ok;
      memory = tt;
      grows = grows_trans old.causes c.loop.self.causes c.frame_next.new.self.causes i.grows c.in-Ok.ensures.grows;
      cause = tt;
      stays_open = c.in-Ok.ensures.stays_open;
      subprotocol = c.in-Ok.ensures.subprotocol ∙ i.subprotocol;
    }

pub loop-preserved : goal.loop-preserved
loop-preserved g c =
    let old = c.args.self.now in
    let i = c.loop.invariant in
    record {
      out = goes_on g.S.Write.contents old.socket.stream
          (waiting old) c.loop.self c.frame_next.new.self i.out c.in-Ok-One.ensures.ok;
      subprotocol = c.in-Ok-One.ensures.subprotocol ∙ i.subprotocol;
      is_open = c.in-Ok-One.ensures.stays_open;
      grows = grows_trans old.causes c.loop.self.causes c.frame_next.new.self.causes i.grows c.in-Ok-One.ensures.grows;
    }
