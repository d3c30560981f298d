-- A take changes nothing of what was put.
use Rattle.std.proofs.Common.{◌≡◌, ◌∙◌, ◌++◌, List, ap, sym, subst, take, drop, append_assoc}
use Rattle.std.proofs.lemmas.List.{take-append-drop}
use Rattle.outbox.specs.Ring.{Waiting}
use Rattle.deliveries.specs.declared.item.Item.{Item}
use Rattle.delivery_tests.specs.Fed.{IsReady}
use Rattle.delivery_tests.proofs.feeding.Feed+Ring.take.Goals as goal

pub invariant_of-self : goal.invariant_of-self
invariant_of-self c =
    let b = c.self.inside.outbox in
    let same : c.take_now.new.self.taken ++ c.take_now.new.self.queue ≡ b.taken ++ b.queue =
    ap (λ (w : Waiting). w.taken ++ w.queue) c.take_now.ensures.taken ∙ append_assoc b.taken (take 1 b.queue)
    (drop 1 b.queue) ∙ ap (λ (l : List Item). b.taken ++ l) (take-append-drop 1 b.queue) in
    subst (λ (l : List Item). IsReady l c.self.inside.settings c.self.inside.journal.history c.self.inside.count)
    (sym same) c.self.invariant
