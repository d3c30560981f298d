use Rattle.std.proofs.Common.{◌+◌, ◌^◌, ◌<◌, length, Some, refl, ap, sym, subst}
use Rattle.std.specs.Prelude.{IfSome}
use Rattle.indexmap.specs.IndexMap.{with_value_at}
use Rattle.ledger.specs.Seats.{MayFollow}
use Rattle.indexmap.proofs.CallerLemmas.{index_map_len-with_value_at}
use Rattle.ledger.proofs.Mapped.{IsChanged, changed_at, place_found, place_missed, place_changed}
use Rattle.ledger.proofs.Mapped.{box_missed, box_found, box_put, box_same, boxes_set}
use Rattle.ledger.proofs.outboxes.Outboxes.offer.Goals as goal

pub unreachable-requires-in_default-get_index_mut : goal.unreachable-requires-in_default-get_index_mut
unreachable-requires-in_default-get_index_mut over c = place_missed c.self.inside.outboxes.entries c.session.result
    c.in-Some.place c.in-Some.ensures.there c.in_default-get_index_mut.ensures.value

pub unreachable-requires : goal.unreachable-requires
unreachable-requires over c =
    let a = c.self.inside in
    box_missed a.outboxes.entries a.opened c.args.self.now.boxes (ap (λ m. m.boxes) c.self.view_is) c.session.result
    c.args.item.session c.session.ensures c.requires.there (sym (c.in_default.ensures.absent refl))

pub put-requires-clause-next : goal.put-requires-clause-next
put-requires-clause-next over c =
    let a = c.self.inside in
    let at = box_found a.outboxes.entries a.opened c.args.self.now.boxes (ap (λ m. m.boxes) c.self.view_is)
    c.session.result c.args.item.session c.in-Some-get_index_mut.outbox.now c.session.ensures c.requires.there
    (place_found a.outboxes c.session.result c.in-Some.place c.in-Some.ensures.there
    c.in-Some-get_index_mut.outbox.now c.in-Some-get_index_mut.ensures.value) in
    subst (λ r. MayFollow over.O.Outbox.sent r c.args.item) at c.requires.next

pub put-requires-clause-few : goal.put-requires-clause-few
put-requires-clause-few over c =
    let a = c.self.inside in
    let at = box_found a.outboxes.entries a.opened c.args.self.now.boxes (ap (λ m. m.boxes) c.self.view_is)
    c.session.result c.args.item.session c.in-Some-get_index_mut.outbox.now c.session.ensures c.requires.there
    (place_found a.outboxes c.session.result c.in-Some.place c.in-Some.ensures.there
    c.in-Some-get_index_mut.outbox.now c.in-Some-get_index_mut.ensures.value) in
    subst (λ r. IfSome r (λ o. length (over.O.Outbox.sent o) + 1 < 2 ^ 64)) at c.requires.few

pub invariant_of-self : goal.invariant_of-self
invariant_of-self over c =
    let a = c.self.inside in
    let t = c.args.item.session in
    let v = c.put.new.self in let now = (with_value_at a.outboxes c.in-Some.place v).entries in
    let written = changed_at a.outboxes.entries now c.session.result t (Some v) c.session.ensures (place_changed
    a.outboxes c.session.result c.in-Some.place c.in-Some.ensures.there c.in-Some-get_index_mut.outbox.now
    c.in-Some-get_index_mut.ensures.value v c.in-Some-get_index_mut.ensures.unique) in
    box_put a.outboxes.entries a.opened c.args.self.now.boxes (ap (λ m. m.boxes) c.self.view_is) now t v
    c.self.invariant c.requires.there written (index_map_len-with_value_at a.outboxes c.in-Some.place v)

pub returns-clause-put : goal.returns-clause-put
returns-clause-put over c =
    let a = c.self.inside in
    let t = c.args.item.session in
    let v = c.put.new.self in let now = (with_value_at a.outboxes c.in-Some.place v).entries in
    let view = ap (λ m. m.boxes) c.self.view_is in
    let written = changed_at a.outboxes.entries now c.session.result t (Some v) c.session.ensures (place_changed
    a.outboxes c.session.result c.in-Some.place c.in-Some.ensures.there c.in-Some-get_index_mut.outbox.now
    c.in-Some-get_index_mut.ensures.value v c.in-Some-get_index_mut.ensures.unique) in
    λ took. record {
      before = c.in-Some-get_index_mut.outbox.now;
      after = v;
      here = box_found a.outboxes.entries a.opened c.args.self.now.boxes view c.session.result
          t c.in-Some-get_index_mut.outbox.now c.session.ensures c.requires.there
          (place_found a.outboxes c.session.result c.in-Some.place c.in-Some.ensures.there
          c.in-Some-get_index_mut.outbox.now c.in-Some-get_index_mut.ensures.value);
      accepted = c.put.ensures.accepted took;
      longer = c.put.ensures.longer took;
      now = boxes_set a.outboxes.entries a.opened c.args.self.now.boxes view now t (Some v) written c.requires.there;
    }

pub returns-clause-fault : goal.returns-clause-fault
returns-clause-fault over c =
    let a = c.self.inside in let t = c.args.item.session in
    λ no. let e = c.put.ensures.refused no in
    record {
      before = c.in-Some-get_index_mut.outbox.now;
      cause = e.0;
      here = box_found a.outboxes.entries a.opened c.args.self.now.boxes (ap (λ m. m.boxes) c.self.view_is)
          c.session.result t c.in-Some-get_index_mut.outbox.now c.session.ensures c.requires.there
          (place_found a.outboxes c.session.result c.in-Some.place c.in-Some.ensures.there
          c.in-Some-get_index_mut.outbox.now c.in-Some-get_index_mut.ensures.value);
      refused = e.1;
    }

pub returns-clause-same : goal.returns-clause-same
returns-clause-same over c =
    let a = c.self.inside in let t = c.args.item.session in let x = c.in-Some-get_index_mut.outbox.now in
    let view = ap (λ m. m.boxes) c.self.view_is in
    let there = c.in-Some.ensures.there in
    let read = c.in-Some-get_index_mut.ensures.value in let unique = c.in-Some-get_index_mut.ensures.unique in
    let at = box_found a.outboxes.entries a.opened c.args.self.now.boxes view c.session.result t x c.session.ensures
    c.requires.there (place_found a.outboxes c.session.result c.in-Some.place there x read) in
    λ no. let written = subst (λ v. IsChanged a.outboxes.entries (with_value_at a.outboxes
    c.in-Some.place c.put.new.self).entries c.session.result (Some v)) (c.put.ensures.same no)
    (place_changed a.outboxes c.session.result c.in-Some.place there x read c.put.new.self unique) in
    box_same a.outboxes.entries a.opened c.args.self.now.boxes view
    (with_value_at a.outboxes c.in-Some.place c.put.new.self).entries t x c.requires.there
    (changed_at a.outboxes.entries (with_value_at a.outboxes c.in-Some.place c.put.new.self).entries
    c.session.result t (Some x) c.session.ensures written) at
