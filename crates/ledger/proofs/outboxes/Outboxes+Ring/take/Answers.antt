use Rattle.std.proofs.Common.{◌≡◌, ◌-◌, List, [], ◌∷◌, ◌++◌, take, drop, append-nil, Option, None}
use Rattle.std.proofs.Common.{Some, slice_get, slice_set, refl, ap, sym, ◌∙◌, subst}
use Rattle.deliveries.specs.declared.item.Item.{Item}
use Rattle.outbox.specs.Ring.{Waiting, with_taken}
use Rattle.indexmap.specs.IndexMap.{with_value_at}
use Rattle.ledger.specs.Ledger.{box_of}
use Rattle.indexmap.proofs.CallerLemmas.{index_map_len-with_value_at}
use Rattle.ledger.proofs.Mapped.{IsChanged, place_found, place_missed, place_changed}
use Rattle.ledger.proofs.Mapped.{box_missed, box_found, box_put, box_same, boxes_set}
use Rattle.ledger.proofs.outboxes.Outboxes+Ring.take.Goals as goal

pub unreachable-requires-in_default-get_index_mut : goal.unreachable-requires-in_default-get_index_mut
unreachable-requires-in_default-get_index_mut c = place_missed c.self.inside.outboxes.entries c.args.session
    c.in-Some.place c.in-Some.ensures.there c.in_default-get_index_mut.ensures.value

pub unreachable-requires : goal.unreachable-requires
unreachable-requires c =
    let a = c.self.inside in
    box_missed a.outboxes.entries a.opened c.args.self.now.boxes (ap (λ m. m.boxes) c.self.view_is) c.args.session
    c.args.session refl c.requires.there (sym (c.in_default.ensures.absent refl))

pub invariant_of-self : goal.invariant_of-self
invariant_of-self c =
    let a = c.self.inside in
    let s = c.args.session in
    let v = c.take_now.new.self in let now = (with_value_at a.outboxes c.in-Some.place v).entries in
    let written = place_changed a.outboxes s c.in-Some.place c.in-Some.ensures.there
    c.in-Some-get_index_mut.outbox.now c.in-Some-get_index_mut.ensures.value v
    c.in-Some-get_index_mut.ensures.unique in
    box_put a.outboxes.entries a.opened c.args.self.now.boxes (ap (λ m. m.boxes) c.self.view_is) now s v
    c.self.invariant c.requires.there written (index_map_len-with_value_at a.outboxes c.in-Some.place v)

pub returns-clause-value : goal.returns-clause-value
returns-clause-value c =
    let a = c.self.inside in
    let at = box_found a.outboxes.entries a.opened c.args.self.now.boxes (ap (λ m. m.boxes) c.self.view_is)
    c.args.session c.args.session c.in-Some-get_index_mut.outbox.now refl c.requires.there
    (place_found a.outboxes c.args.session c.in-Some.place c.in-Some.ensures.there
    c.in-Some-get_index_mut.outbox.now c.in-Some-get_index_mut.ensures.value) in
    c.take_now.ensures.value ∙ ap (λ o. slice_get (box_of o).queue 0) (sym at)

pub returns-clause-taken : goal.returns-clause-taken
returns-clause-taken c =
    let a = c.self.inside in
    let s = c.args.session in
    let v = c.take_now.new.self in let now = (with_value_at a.outboxes c.in-Some.place v).entries in
    let boxes = c.args.self.now.boxes in let view = ap (λ m. m.boxes) c.self.view_is in
    let at = box_found a.outboxes.entries a.opened boxes view s s c.in-Some-get_index_mut.outbox.now
    refl c.requires.there (place_found a.outboxes s c.in-Some.place c.in-Some.ensures.there
    c.in-Some-get_index_mut.outbox.now c.in-Some-get_index_mut.ensures.value) in
    let written = place_changed a.outboxes s c.in-Some.place c.in-Some.ensures.there
    c.in-Some-get_index_mut.outbox.now c.in-Some-get_index_mut.ensures.value v
    c.in-Some-get_index_mut.ensures.unique in
    boxes_set a.outboxes.entries a.opened boxes view now s (Some v) written c.requires.there
    ∙ ap (λ (o : Waiting). slice_set boxes (s - 1) (Some o))
    (c.take_now.ensures.taken ∙ ap (λ o. with_taken (box_of o)) (sym at))

-- nothing waited, so nothing was taken
untaken : (b : Waiting) → None ≡ slice_get b.queue 0 → with_taken b ≡ b
untaken b none = by b.queue none
  where
    by : (q : List Item) → None ≡ slice_get q 0
        → ◌≡◌ {A = Waiting} (record { queue = drop 1 q; cap = b.cap; taken = b.taken ++ take 1 q })
        (record { queue = q; cap = b.cap; taken = b.taken })
    by [] e = ap (λ (ts : List Item). record { queue = []; cap = b.cap; taken = ts }) (append-nil b.taken)
    by (x ∷ q) e = absurd (let f : ◌≡◌ {A = Option Item} None (Some x) = e in cc)

pub returns-clause-none : goal.returns-clause-none
returns-clause-none c =
    let a = c.self.inside in
    let s = c.args.session in let x = c.in-Some-get_index_mut.outbox.now in let v = c.take_now.new.self in
    let view = ap (λ m. m.boxes) c.self.view_is in
    let there = c.in-Some.ensures.there in let read = c.in-Some-get_index_mut.ensures.value in
    let at = box_found a.outboxes.entries a.opened c.args.self.now.boxes view s s x refl c.requires.there
    (place_found a.outboxes s c.in-Some.place there x read) in
    λ none. let same : v ≡ x = c.take_now.ensures.taken ∙ untaken x (sym none ∙ c.take_now.ensures.value) in
    let now = (with_value_at a.outboxes c.in-Some.place v).entries in
    box_same a.outboxes.entries a.opened c.args.self.now.boxes view now s x c.requires.there
    (subst (λ (y : Waiting). IsChanged a.outboxes.entries now s (Some y)) same
    (place_changed a.outboxes s c.in-Some.place there x read v c.in-Some-get_index_mut.ensures.unique)) at
