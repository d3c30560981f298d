use Rattle.std.proofs.Common.{◌≡◌, ◌+◌, suc, false, drop, sym, ap, ◌∙◌, arith}
use Rattle.std.specs.Prelude.{nat_eq}
use Rattle.std.specs.List.{starts_with}
use Rattle.std.proofs.lemmas.List.{take_rest}
use Rattle.websocket_front.specs.Lines.{line_break, line_length}
use Rattle.websocket_front.proofs.Lines.{line_step}
use Rattle.websocket_front.proofs.sending.line_end.Goals as goal

pub loop-end-preserved : goal.loop-end-preserved
loop-end-preserved c =
    let text = c.args.text.now in
    let end = c.loop-end.end in
    let not : starts_with nat_eq (drop end text) line_break ≡ false =
    ap (λ l. starts_with nat_eq l line_break) (sym (take_rest text end))
    ∙ (sym c.starts_with.ensures.value ∙ c.if-starts_with.false) in
    let step : line_length (drop end text) ≡ suc (line_length (drop (end + 1) text)) = line_step text end false
    (omega arith) not in
    (omega arith, omega (arith, step, c.loop-end.invariant.1))
