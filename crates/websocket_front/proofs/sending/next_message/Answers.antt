use Rattle.std.proofs.Common.{◌-◌, take, drop}
use Rattle.websocket_front.proofs.Lines.{lines_from}
use Rattle.websocket_front.proofs.sending.next_message.Goals as goal

pub returns-clause-next : goal.returns-clause-next
returns-clause-next g c =
    let text = c.args.text.now in
    let place = c.args.place in
    let end = c.line_end-end.result in (
      take (end - place) (drop place text),
      c.in_ok-message.ensures.message,
      lines_from text place end c.requires c.line_end-end.ensures.first,
    )
