-- What a ledger of rings does is known from what it shows.
use Rattle.std.proofs.Common.{◌≡◌, ℕ, ℤ, Bool, true, false, cond, List, [], ◌∷◌, length}
use Rattle.std.proofs.Common.{Option, Some, None, refl, sym, ap, ◌∙◌}
use Rattle.chronicle.specs.declared.record.Kind.{Kind}
use Rattle.outbox.specs.Ring.{Waiting, has_room, with_put, accepts, refuses}
use Rattle.ledger.specs.declared.plan.Planned.{Planned}
use Rattle.ledger.specs.declared.outcomes.Step.{Step}
use Rattle.ledger.specs.declared.outcomes.Step.TheVariants.{Put, Missed}
use Rattle.ledger.specs.RingAnswers.{told_of}
use Rattle.ledger.specs.Ledger.{Shown, item_of, box_of, outbox_at, plan_of, after_begin, delivered_to, after_put}
use Rattle.ledger.specs.Ledger.{after_miss, after_end, IsPutNext, IsPutAll, IsDone, put_next, put_all, after_all}

ring_next : (m k : Shown Waiting) (ps : List Planned) (step : Option Step) → IsPutNext accepts refuses m ps step k
    → (step ≡ told_of m ps) × (k ≡ put_next m ps)
ring_next m k [] None i = (refl, i)
ring_next m k [] (Some step) i = absurd i
ring_next m k (p ∷ ps) None i = absurd i
ring_next m k (p ∷ ps) (Some (Put t)) i =
    let d = i.1 in let here : outbox_at m.outboxes p.session ≡ d.before = ap box_of d.here in
    let room : has_room (outbox_at m.outboxes p.session) ≡ true = ap has_room here ∙ d.accepted.0 in
    let after : d.after ≡ with_put (outbox_at m.outboxes p.session) (item_of m p) = d.accepted.1 ∙ ap
    (λ (b : Waiting). with_put b (item_of m p)) (sym here) in (
      ap (λ (u : ℕ). Some (Put u)) i.0
          ∙ sym (ap (λ (c : Bool). Some (cond c (Put p.session) (Missed p.session))) room),
      d.book ∙ ap (delivered_to m p ps) after
          ∙ sym (ap (λ (c : Bool). cond c (after_put m p ps) (after_miss m p ps)) room),
    )
ring_next m k (p ∷ ps) (Some (Missed t)) i =
    let d = i.1 in let here : outbox_at m.outboxes p.session ≡ d.before = ap box_of d.here in
    let full : has_room (outbox_at m.outboxes p.session) ≡ false = ap has_room here ∙ d.refused.1 in (
      ap (λ (u : ℕ). Some (Missed u)) i.0
          ∙ sym (ap (λ (c : Bool). Some (cond c (Put p.session) (Missed p.session))) full),
      d.book ∙ sym (ap (λ (c : Bool). cond c (after_put m p ps) (after_miss m p ps)) full),
    )

ring_all : (m k : Shown Waiting) (ps : List Planned) → IsPutAll accepts refuses m ps k → k ≡ put_all m ps
ring_all m k [] i = i
ring_all m k (p ∷ ps) i = ring_all i.0 k ps i.3 ∙ ap (λ (n : Shown Waiting). put_all n ps)
    (ring_next m i.0 (p ∷ ps) (Some i.1) i.2).1

-- the plan's first delivery
pub ring-next : (m k : Shown Waiting) (step : Option Step) → IsPutNext accepts refuses m m.plan step k
    → (step ≡ told_of m m.plan) × (k ≡ put_next m m.plan)
ring-next m k step i = ring_next m k m.plan step i

-- and all of them
pub ring-done : (m k : Shown Waiting) (kind : Kind) (moment : ℤ) → IsDone accepts refuses m kind moment k
    → k ≡ after_all m kind moment
ring-done m k kind moment i = i.2 ∙ ap after_end
    (ring_all (after_begin m kind moment) i.0 (plan_of m.settings m.history kind moment (length m.outboxes)) i.1)
