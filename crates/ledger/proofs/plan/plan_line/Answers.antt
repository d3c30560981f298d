use Rattle.std.proofs.lemmas.Grind.{common_steps}
use Rattle.std.proofs.Common.{arith, ◌≡◌, ◌++◌, map, take, sym, ap, ◌∙◌}
use Rattle.labels_batches.specs.Spellings.{Spelled}
use Rattle.ledger.specs.FanOut.{heard_by, delivery_of, deliveries_of}
use Rattle.ledger.proofs.FanOut.{heard_more}
use Rattle.ledger.proofs.Ascending.{deliveries_more}
use Rattle.ledger.proofs.plan.plan_line.Goals as goal

pub loop-hearer-preserved : goal.loop-hearer-preserved
loop-hearer-preserved c =
    let by = c.args.by.now in let seats = by.seats.now in let s = by.actor in let n = by.number in
    let fs = by.roster.now.facts in let old = c.args.line.now in let hs = c.args.hearers.now in
    let k = c.loop-hearer.hearer-index in let h = c.hearer-item.result in
    let f = heard_by fs old.moment old.line in
    let one : c.in_ok-heard.heard ≡ f h = c.in_ok-heard.ensures.heard ∙ ap
    (λ (x : Spelled). heard_by fs x.moment x.line h) c.loop-hearer.invariant.same in
    record {
      same = c.in_ok-heard.ensures.same ∙ c.loop-hearer.invariant.same;
      room = let i = c.loop-hearer.invariant in grind (arith, common_steps, c.plan_one.ensures.room, i.room);
      few = let i = c.loop-hearer.invariant in grind (arith, common_steps, c.plan_one.ensures.few, i.few);
      plan =
          c.plan_one.ensures.planned
          ∙ ap (λ ps. ps ++ delivery_of seats s n c.in_ok-heard.heard) c.loop-hearer.invariant.plan
          ∙ ap (λ x. deliveries_of seats s n (map f (take k hs)) ++ delivery_of seats s n x) one
          ∙ sym (deliveries_more seats s n (map f (take k hs)) (f h))
          ∙ ap (deliveries_of seats s n) (sym (heard_more f hs k h c.loop-hearer-test.true c.hearer-item.is));
    }
