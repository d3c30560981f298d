-- Both passes are of one channel.
use Rattle.std.proofs.Common.{sym, ap, subst, ◌∙◌}
use Rattle.crossbeam_channel.specs.Claims.{Pass, IsSeatAt}
use Rattle.crossbeam_channel.specs.Ends.{sends_on, receives_on}
use Rattle.deliveries.specs.declared.item.Item.{Item}
use Rattle.outbox.specs.declared.rule.Log.{Log}
use Rattle.outbox.specs.Ends.{Puttings, Takings, known_by}
use Rattle.outbox.proofs.Keeps.{merges}
use Rattle.outbox.proofs.ends.SenderOutbox.close.Goals as goal

pub absorb-requires-clause-channel : goal.absorb-requires-clause-channel
absorb-requires-clause-channel g c =
    let s = c.self.invariant.0 in
    let w = c.taker.invariant.0 in
    let same = ap (λ (p : Puttings). p.channel) c.self.view_is ∙ c.requires
    ∙ sym (ap (λ (p : Takings). p.channel) c.taker.view_is) in
    let table = ap (λ (p : Pass Item Log). p.table_id) same in
    let key = ap (λ (p : Pass Item Log). p.me.0.of) same in
    let mine = c.apart-sender.ensures.pass in
    let other = c.apart-receiver.ensures.pass in
    let from = sym c.apart-sender.ensures.sender in
    let here = sends_on c.self.inside.sender.sender in
    let first : IsSeatAt here c.apart-sender.result.1 = (
      ap (λ (p : Pass Item Log). p.table_id) mine ∙ s.0,
      ap (λ (p : Pass Item Log). p.me.0.of) mine ∙ s.1,
      ap (λ (p : Pass Item Log). p.me.1) mine ∙ s.2,
      s.3,
    ) in
    let second : IsSeatAt here c.apart-receiver.result.1 = (
      ap (λ (p : Pass Item Log). p.table_id) other ∙ sym table ∙ s.0,
      ap (λ (p : Pass Item Log). p.me.0.of) other ∙ sym key ∙ s.1,
      ap (λ (p : Pass Item Log). p.me.1) other ∙ w.2,
      s.3,
    ) in (
      subst (λ z. IsSeatAt (sends_on z) c.apart-sender.result.1) from first,
      subst (λ z. IsSeatAt (sends_on z) c.apart-receiver.result.1) from second,
    )

pub absorb-requires-clause-rule : goal.absorb-requires-clause-rule
absorb-requires-clause-rule g c = merges _ _ _ _
    (ap (λ (p : Pass Item Log). (known_by p).sends) c.apart-sender.ensures.pass ∙ c.self.invariant.1)
    (ap (λ (p : Pass Item Log). (known_by p).takes) c.apart-receiver.ensures.pass ∙ c.taker.invariant.1)

pub drain-requires-clause-channel : goal.drain-requires-clause-channel
drain-requires-clause-channel g c =
    let s = c.self.invariant.0 in
    let w = c.taker.invariant.0 in
    let p = c.absorb.new.pass in
    let a : IsSeatAt (sends_on c.self.inside.sender.sender) p =
    subst (λ z. IsSeatAt (sends_on z) p) c.apart-sender.ensures.sender c.absorb.ensures.channel.0 in
    let same = ap (λ (p : Puttings). p.channel) c.self.view_is ∙ c.requires
    ∙ sym (ap (λ (p : Takings). p.channel) c.taker.view_is) in
    let table = ap (λ (p : Pass Item Log). p.table_id) same in
    let key = ap (λ (p : Pass Item Log). p.me.0.of) same in
    let there : IsSeatAt (receives_on c.taker.inside.receiver.receiver) p =
    (a.0 ∙ sym s.0 ∙ table ∙ w.0, a.1 ∙ sym s.1 ∙ key ∙ w.1, a.2, w.3) in
    subst (λ z. IsSeatAt (receives_on z) p) (sym c.apart-receiver.ensures.receiver) there
