-- Answers of a ledger of rings.
use Rattle.std.specs.Prelude.{◌≡◌, ℕ, cond, List, [], ◌∷◌, slice_get, Option, Some, None}
use Rattle.ledger.specs.declared.plan.Planned.{Planned}
use Rattle.ledger.specs.declared.outcomes.Step.{Step}
use Rattle.ledger.specs.declared.outcomes.Step.TheVariants.{Put, Missed}
use Rattle.ledger.specs.declared.refusals.TakeRefusal.{TakeRefusal}
use Rattle.ledger.specs.declared.refusals.TakeRefusal.TheVariants.{NoSession, Empty}
use Rattle.outbox.specs.Ring.{Waiting, has_room}
use Rattle.ledger.specs.Ledger.{Shown, IsKnown, outbox_at}

-- what becomes of the plan's first delivery
abbrev pub told_of : Shown Waiting → List Planned → Option Step
told_of m [] = None
told_of m (p ∷ ps) = Some (cond (has_room (outbox_at m.outboxes p.session)) (Put p.session) (Missed p.session))

abbrev pub IsTakeRefusal : Shown Waiting → ℕ → TakeRefusal → Type 0
IsTakeRefusal m s NoSession = IsKnown m s → ⊥
IsTakeRefusal m s Empty = IsKnown m s × (slice_get (outbox_at m.outboxes s).queue 0 ≡ None)
