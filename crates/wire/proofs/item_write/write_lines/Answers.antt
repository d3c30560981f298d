use Rattle.std.proofs.Common.{◌+◌, drop, ◌∙◌}
use Rattle.wire.specs.Gathering.{gathered_contents}
use Rattle.wire.proofs.Going.{goes_on, goes_further}
use Rattle.wire.proofs.item_write.write_lines.Goals as goal

pub loop-count-preserved : goal.loop-count-preserved
loop-count-preserved g c =
    let known = gathered_contents g.W.Write.contents in
    let text = c.args.text.now in
    let done = c.loop-count.count in
    let n = c.in-Ok.more in
    let before = c.loop-count.invariant in
    record {
      more = goes_on (known c.args.out.now) (known c.loop-count.out) (known c.write.new.self)
          (drop c.args.from text) (drop done text) (drop (done + n) text) before.more
          (goes_further (known c.loop-count.out) (known c.write.new.self) text done n c.in-Ok.ensures.octets);
      few = λ e. c.in-Ok.ensures.few (before.few e);
      same = (c.in-Ok.ensures.cause.0 ∙ before.same.0, c.in-Ok.ensures.cause.1 ∙ before.same.1);
    }
