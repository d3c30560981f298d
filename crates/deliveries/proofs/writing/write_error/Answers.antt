-- Each part follows what went out before it.
use Rattle.std.proofs.Common.{◌∙◌}
use Rattle.deliveries.proofs.Written.{joined_line}
use Rattle.deliveries.proofs.writing.write_error.Goals as goal

pub returns : goal.returns
returns g c =
    let head = c.write_all_of-written.ensures in
    let host = c.write_next-written.ensures.front _ _ head in
    let open_bracket = c.write_next-written-2.ensures.front _ _ host in
    let reason = c.write_next-written-3.ensures.front _ _ open_bracket in
    let parts = c.write_next.ensures.front _ _ reason in
    joined_line _ _ c.args.host.now c.as_bytes.result.now c.args.why c.write_next.result
    (c.as_bytes.ensures.value ∙ c.text.ensures) parts
