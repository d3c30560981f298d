use Rattle.std.proofs.Common.{◌≡◌, ◌+◌, ◌∷◌, [], ◌++◌, length, Some, is_some, is_ok, if◌then◌else◌, ap, ◌∙◌}
use Rattle.ledger.proofs.Mapped.{on_ok, if_ok, box_none, box_came, boxes_more}
use Rattle.ledger.proofs.outboxes.Outboxes.open.Goals as goal

pub invariant_of-self : goal.invariant_of-self
invariant_of-self over c =
    let a = c.self.inside in
    let k = c.number-number.result in
    let boxes = c.args.self.now.boxes in let view = ap (λ m. m.boxes) c.self.view_is in
    let next : k ≡ length boxes + 1 = c.number-number.ensures ∙ c.requires.next in
    let longer = if_ok _ c.insert.result c.unwrap.result c.unwrap.ensures c.insert.ensures.len in
    let was = if_ok _ c.insert.result c.unwrap.result c.unwrap.ensures c.insert.ensures.old in
    let none = box_none a.outboxes.entries a.opened boxes view k c.self.invariant next in
    box_came a.outboxes.entries a.opened boxes view c.insert.new.self.entries k c.new.result c.self.invariant next
    (on_ok _ c.insert.result (ap is_ok c.unwrap.ensures) c.insert.ensures.updates).0
    (longer ∙ ap (λ r. length a.outboxes.entries + (if is_some r then 0 else 1)) (was ∙ none))

pub returns : goal.returns
returns over c =
    let a = c.self.inside in
    boxes_more a.outboxes.entries a.opened c.args.self.now.boxes
    (ap (λ m. m.boxes) c.self.view_is) c.insert.new.self.entries c.number-number.result (Some c.new.result)
    (on_ok _ c.insert.result (ap is_ok c.unwrap.ensures) c.insert.ensures.updates).0
    (c.number-number.ensures ∙ c.requires.next)
    ∙ ap (λ o. c.args.self.now.boxes ++ Some o ∷ []) c.new.ensures
