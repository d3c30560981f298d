use Rattle.std.proofs.Common.{◌≡◌, arith, sym, ◌∙◌}
use Rattle.ledger.proofs.FanOut.{alike_more, same_caps}
use Rattle.ledger.proofs.line_texts.hear_alike.Goals as goal

pub loop-place-preserved : goal.loop-place-preserved
loop-place-preserved c =
    let x = c.index-some-place.result in let y = c.index-others-place.result in
    let caps : x.caps ≡ y.caps = same_caps x.caps y.caps (sym c.ne.ensures ∙ c.if-ne.false) in
    record {
      long = c.loop-place.invariant.long;
      alike = λ ls. alike_more ls c.args.some.now c.args.others.now c.loop-place.place x y c.loop-place-test.true
          (omega (arith, c.loop-place.invariant.long, c.loop-place-test.true)) c.index-some-place.is
          c.index-others-place.is c.if-one-other.false caps (c.loop-place.invariant.alike ls);
    }
