use Rattle.std.specs.Prelude.{IfSome}
use Rattle.chronicle.specs.Journal.{miss}
use Rattle.std.proofs.Common.{arith, ◌≡◌, ◌∷◌, length, Some, sym, ◌∙◌, subst, refl, ◌-◌}
use Rattle.std.proofs.Common.{◌<◌, slice_set, true, ap, is_some, ℕ, ◌+◌}
use Rattle.std.proofs.lemmas.Grind.{common_steps}
use Rattle.deliveries.specs.declared.item.Item.{Item}
use Rattle.ledger.specs.declared.outcomes.Step.TheVariants.{Put, Missed}
use Rattle.ledger.specs.Kept.{IsKept}
use Rattle.ledger.specs.Seats.{IsThere, MayFollow, IsTaken, IsNotTaken}
use Rattle.ledger.specs.Ledger.{IsPlan, IsPutNext, box_at, is_here}
use Rattle.ledger.proofs.KeptSteps.{shown, delivered_kept, dropped_kept}
use Rattle.ledger.proofs.Sound.{next_here, next_follows}
use Rattle.ledger.proofs.Sent.{item_is}
use Rattle.ledger.proofs.Puts.{put_is, miss_is}
use Rattle.ledger.proofs.Owes.{few_put}
use Rattle.ledger.proofs.LastActivity.{since_as, since_missed, since_put}
use Rattle.ledger.proofs.Based.{based_as, based_boxes, based_missed, set_many, put_still}
use Rattle.ledger.proofs.ledger.Ledger.put_next.Goals as goal

pub offer-requires-clause-there : goal.offer-requires-clause-there
offer-requires-clause-there over c =
    let a = c.self.inside in let p = c.in_ok-put.put in let qs = c.take_first.new.self in
    let plan : a.plan ≡ p ∷ qs = grind (arith, common_steps) in
    let is = subst (IsPlan a.roster.settings a.journal.history (length a.outboxes.boxes)) plan
    c.self.invariant.kept.sound.plan in
    let there : IsThere a.outboxes.boxes p.session = record {
      from_1 = is.0;
      opened = is.1;
      here = next_here over.O.Outbox.sent (shown a.journal a.roster.settings a.outboxes.boxes a.plan a.busy) p qs
          plan c.self.invariant.kept.sound;
    } in
    subst (IsThere a.outboxes.boxes) (sym c.new-item.ensures.session) there

pub offer-requires-clause-next : goal.offer-requires-clause-next
offer-requires-clause-next over c =
    let a = c.self.inside in let p = c.in_ok-put.put in let qs = c.take_first.new.self in
    let plan : a.plan ≡ p ∷ qs = grind (arith, common_steps) in
    let it = c.new-item.ensures in
    let item = item_is c.new-item.result p.delivery p.session a.journal.history a.roster.settings it.delivery
    it.session it.front (it.settings ∙ c.settings-settings.ensures.value) in
    subst (λ (x : Item). MayFollow over.O.Outbox.sent (box_at a.outboxes.boxes x.session) x) (sym item)
    (next_follows over.O.Outbox.sent (shown a.journal a.roster.settings a.outboxes.boxes a.plan a.busy) p qs plan
    c.self.invariant.kept.sound)

pub invariant_of-self-then-offer : goal.invariant_of-self-then-offer
invariant_of-self-then-offer over c =
    let a = c.self.inside in let p = c.in_ok-put.put in let qs = c.take_first.new.self in
    let plan : a.plan ≡ p ∷ qs = grind (arith, common_steps) in
    let it = c.new-item.ensures in
    let item = item_is c.new-item.result p.delivery p.session a.journal.history a.roster.settings it.delivery
    it.session it.front (it.settings ∙ c.settings-settings.ensures.value) in
    let took = subst (λ (x : Item). IsTaken over.O.Outbox.sent over.O.Outbox.accepts a.outboxes.boxes x
    c.offer.new.self.boxes) item (c.offer.ensures.put c.if-offer.true) in
    record {
      kept = delivered_kept over.O.Outbox.sent a.journal a.roster.settings a.roster.facts a.seats a.outboxes.boxes _
          a.plan qs a.busy p took.before took.after c.self.invariant.kept plan took.here took.longer took.now;
      based = (let was = a.outboxes.boxes in let h = a.journal.history in let n = a.journal.limit.dropped in
          let g = a.roster.settings in let s = p.session in let new = slice_set was (s - 1) (Some took.after) in
          let is = subst (IsPlan g h (length was)) plan c.self.invariant.kept.sound.plan in
          let there : is_here was s ≡ true = ap (λ o. is_some o) took.here in
          based_as a.base h h n n g g new c.offer.new.self.boxes
          (based_boxes a.base h n g was new c.self.invariant.based (set_many was (s - 1) (Some took.after))
          (put_still was s took.after there is.0 is.1)) refl refl refl took.now);
      cut = c.self.invariant.cut;
      since = (let was = a.outboxes.boxes in let h = a.journal.history in let s = p.session in
          let new = slice_set was (s - 1) (Some took.after) in
          let is = subst (IsPlan a.roster.settings h (length was)) plan c.self.invariant.kept.sound.plan in
          let there : is_here was s ≡ true = ap (λ o. is_some o) took.here in
          since_as a.last_heard a.last_heard h h new c.offer.new.self.boxes (since_put a.last_heard h was s
          took.after c.self.invariant.since there is.0 is.1) refl refl took.now);
    }

pub returns-then-offer-clause-put : goal.returns-then-offer-clause-put
returns-then-offer-clause-put over c =
    let a = c.self.inside in let p = c.in_ok-put.put in let qs = c.take_first.new.self in
    let plan : a.plan ≡ p ∷ qs = grind (arith, common_steps) in
    let it = c.new-item.ensures in
    let item = item_is c.new-item.result p.delivery p.session a.journal.history a.roster.settings it.delivery
    it.session it.front (it.settings ∙ c.settings-settings.ensures.value) in
    let took = subst (λ (x : Item). IsTaken over.O.Outbox.sent over.O.Outbox.accepts a.outboxes.boxes x
    c.offer.new.self.boxes) item (c.offer.ensures.put c.if-offer.true) in
    let m = shown a.journal a.roster.settings a.outboxes.boxes a.plan a.busy in
    subst (λ k. IsPutNext over.O.Outbox.accepts over.O.Outbox.refuses k k.plan (Some (Put p.session))
    (shown a.journal a.roster.settings c.offer.new.self.boxes qs a.busy)) c.self.view_is
    (put_is over.O.Outbox.sent over.O.Outbox.accepts over.O.Outbox.refuses m p qs c.offer.new.self.boxes plan took)

pub invariant_of-self-2 : goal.invariant_of-self-2
invariant_of-self-2 over c =
    let a = c.self.inside in let p = c.in_ok-put.put in let qs = c.take_first.new.self in
    let plan : a.plan ≡ p ∷ qs = grind (arith, common_steps) in
    record {
      kept =
          subst (λ xs. IsKept over.O.Outbox.sent c.miss.new.self a.roster.settings a.roster.facts c.set_shut.new.self
          xs qs a.busy) (sym (c.offer.ensures.same c.if-offer.false))
          (dropped_kept over.O.Outbox.sent a.journal c.miss.new.self a.roster.settings a.roster.facts a.seats _
          a.outboxes.boxes a.plan qs a.busy p c.self.invariant.kept plan c.set_shut.ensures c.miss.ensures);
      based = (let was = a.outboxes.boxes in let h = a.journal.history in let n = a.journal.limit.dropped in
          let g = a.roster.settings in
          let few : n < length h = subst (λ m. m.limit.dropped < length m.history)
          (sym c.self.view_is) c.requires.out.kept in
          based_as a.base (miss h p.session) c.miss.new.self.history n
          c.miss.new.self.limit.dropped g g was c.offer.new.self.boxes
          (based_missed a.base h p.session n g was few c.self.invariant.based) c.miss.ensures.history
          (ap (λ l. l.dropped) c.miss.ensures.limit) refl (c.offer.ensures.same c.if-offer.false));
      cut = c.self.invariant.cut ∙ sym (ap (λ l. l.is_cut) c.miss.ensures.limit);
      since = since_as a.last_heard a.last_heard
          (miss a.journal.history p.session) c.miss.new.self.history a.outboxes.boxes c.offer.new.self.boxes
          (since_missed a.last_heard a.journal.history p.session a.outboxes.boxes c.self.invariant.since) refl
          c.miss.ensures.history (c.offer.ensures.same c.if-offer.false);
    }

pub returns-clause-put : goal.returns-clause-put
returns-clause-put over c =
    let a = c.self.inside in let p = c.in_ok-put.put in let qs = c.take_first.new.self in
    let plan : a.plan ≡ p ∷ qs = grind (arith, common_steps) in
    let it = c.new-item.ensures in
    let item = item_is c.new-item.result p.delivery p.session a.journal.history a.roster.settings it.delivery
    it.session it.front (it.settings ∙ c.settings-settings.ensures.value) in
    let missed = subst (λ (x : Item). IsNotTaken over.O.Outbox.refuses a.outboxes.boxes x) item
    (c.offer.ensures.fault c.if-offer.false) in
    let m = shown a.journal a.roster.settings a.outboxes.boxes a.plan a.busy in
    subst (λ k. IsPutNext over.O.Outbox.accepts over.O.Outbox.refuses k k.plan (Some (Missed p.session))
    (shown c.miss.new.self a.roster.settings c.offer.new.self.boxes qs a.busy)) c.self.view_is
    (miss_is over.O.Outbox.accepts over.O.Outbox.refuses m p qs c.miss.new.self.history
    c.miss.new.self.limit c.offer.new.self.boxes plan missed c.miss.ensures.history c.miss.ensures.limit
    (c.offer.ensures.same c.if-offer.false))

pub offer-requires-clause-few : goal.offer-requires-clause-few
offer-requires-clause-few over c =
    let a = c.self.inside in let p = c.in_ok-put.put in let qs = c.take_first.new.self in
    let plan : a.plan ≡ p ∷ qs = grind (arith, common_steps) in let i = c.self.invariant.kept.sound in
    let is = subst (IsPlan a.roster.settings a.journal.history (length a.outboxes.boxes)) plan i.plan in
    let m = shown a.journal a.roster.settings a.outboxes.boxes a.plan a.busy in
    let few = few_put over.O.Outbox.sent m p.session i is.0 is.1 (next_here over.O.Outbox.sent m p qs plan i) in
    subst (λ (t : ℕ). IfSome (box_at a.outboxes.boxes t)
    (λ o. length (over.O.Outbox.sent o) + 1 < 18446744073709551616)) (sym c.new-item.ensures.session) few
