use Rattle.deliveries.specs.Text.{delivery_text}
use Rattle.wire.specs.Gathering.{gathered_contents}
use Rattle.wire.proofs.Going.{goes_alone}
use Rattle.wire.proofs.write_buffer.WriteBuffer.write_last.Goals as goal

pub returns-in-Err-written-clause-more : goal.returns-in-Err-written-clause-more
returns-in-Err-written-clause-more g c =
    let told = g.W.Write.contents in
    let waited = c.write_waiting.new.self in
    goes_alone (gathered_contents told c.args.self.now) (told waited.stream.inner)
    (told c.write_last-count.new.self.inner) waited.waiting.items
    (delivery_text c.args.delivery.now c.args.host.now) c.write_last-count.result.0 c.write_waiting.ensures.octets
    c.in_default.ensures.none c.write_last-count.ensures.bytes
