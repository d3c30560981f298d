use Rattle.std.proofs.Common.{◌≡◌, None, refl, ap, subst}
use Rattle.std.specs.Prelude.{IfSome}
use Rattle.ledger.proofs.Mapped.{box_missed, box_found, box_gone, boxes_set}
use Rattle.ledger.proofs.outboxes.Outboxes.give_up.Goals as goal

pub unreachable-requires : goal.unreachable-requires
unreachable-requires over c =
    let a = c.self.inside in
    box_missed a.outboxes.entries a.opened c.args.self.now.boxes (ap (λ m. m.boxes) c.self.view_is) c.args.session
    c.args.session refl c.requires.there c.in_default.ensures.value

pub close-requires : goal.close-requires
close-requires over c =
    let a = c.self.inside in
    let at = box_found a.outboxes.entries a.opened c.args.self.now.boxes (ap (λ m. m.boxes) c.self.view_is)
    c.args.session c.args.session c.in-Some.outbox refl c.requires.there c.in-Some.ensures.value in
    subst (λ r. IfSome r (λ o. over.O.Outbox.name o ≡ over.O.Outbox.taker_of c.args.taker)) at c.requires.own

pub invariant_of-self : goal.invariant_of-self
invariant_of-self over c =
    let a = c.self.inside in let s = c.args.session in let now = c.take_out.new.map.entries in
    let gone = c.take_out.ensures.others in
    box_gone a.outboxes.entries a.opened c.args.self.now.boxes
    (ap (λ m. m.boxes) c.self.view_is) now s c.self.invariant c.requires.there gone c.in-Some.ensures.count

pub returns-clause-left : goal.returns-clause-left
returns-clause-left over c =
    let a = c.self.inside in
    record {
      outbox = c.in-Some.outbox;
      here = box_found a.outboxes.entries a.opened c.args.self.now.boxes (ap (λ m. m.boxes) c.self.view_is)
          c.args.session c.args.session c.in-Some.outbox refl c.requires.there c.in-Some.ensures.value;
      left = c.close.ensures.0;
      rest = c.close.ensures.1;
      count_is = c.close.ensures.2;
    }

pub returns-clause-given : goal.returns-clause-given
returns-clause-given over c =
    let a = c.self.inside in let s = c.args.session in let now = c.take_out.new.map.entries in
    let gone = c.take_out.ensures.others in
    boxes_set a.outboxes.entries a.opened c.args.self.now.boxes
    (ap (λ m. m.boxes) c.self.view_is) now s None gone c.requires.there
