use Rattle.std.proofs.Common.{◌≡◌, ℕ, ◌-◌, ◌++◌, List, map, take, drop, sym, ap, ◌∙◌, append_assoc}
use Rattle.std.specs.List.{flat_map}
use Rattle.labels_batches.specs.Spellings.{Spelled}
use Rattle.ledger.specs.declared.fan_out.Heard.{Heard}
use Rattle.ledger.specs.declared.fan_out.Hearing.{Hearing}
use Rattle.ledger.specs.declared.plan.Planned.{Planned}
use Rattle.ledger.specs.FanOut.{text_of, heard_of, one_each, delivery_of, deliveries_of}
use Rattle.ledger.proofs.FanOut.{joined_from}
use Rattle.ledger.proofs.plan.plan_others.Goals as goal

pub loop-from-preserved : goal.loop-from-preserved
loop-from-preserved c =
    let by = c.args.by.now in let seats = by.seats.now in let s = by.actor in let n = by.number in
    let ls = c.args.lines.now in let xs = c.args.heard.now in let from = c.loop-from.from in
    let end = c.run_end-end.result in let h = c.index-heard-from.result in let had = c.loop-from.plan.items in
    let text : c.in_ok-text.text ≡ flat_map (text_of ls) (take (end - from) (drop from xs)) =
    c.in_ok-text.ensures.text ∙ ap (λ (m : List Spelled). flat_map (text_of m) (take (end - from) (drop from xs)))
    c.loop-from.invariant.same in
    let run = joined_from ls xs from end h c.loop-from-test.true c.run_end-end.ensures.after
    c.run_end-end.ensures.within c.index-heard-from.is c.run_end-end.ensures.run c.run_end-end.ensures.next in
    let one : Heard = record {
      session = h.session;
      text = flat_map (text_of ls) (take (end - from) (drop from xs));
    } in
    let rest = one_each (map (heard_of ls) (drop end xs)) in
    record {
      same = c.in_ok-text.ensures.same ∙ c.loop-from.invariant.same;
      within = c.run_end-end.ensures.within;
      plan =
          ap (λ (ps : List Planned). ps ++ deliveries_of seats s n rest) (c.plan_one.ensures.planned
          ∙ ap (λ (x : Hearing). c.reserve.new.self.items
          ++ delivery_of seats s n (record { session = x.session; text = c.in_ok-text.text }))
          (sym c.index-heard-from.is)
          ∙ ap (λ (bs : List ℕ). c.reserve.new.self.items
          ++ delivery_of seats s n (record { session = h.session; text = bs })) text
          ∙ ap (λ (ps : List Planned). ps ++ delivery_of seats s n one) c.in_ok-reserve.ensures.items)
          ∙ append_assoc had (delivery_of seats s n one) (deliveries_of seats s n rest)
          ∙ ap (λ (ys : List Heard). had ++ deliveries_of seats s n ys) (sym run)
          ∙ c.loop-from.invariant.plan;
    }
