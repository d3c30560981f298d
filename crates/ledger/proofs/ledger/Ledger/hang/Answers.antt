use Rattle.std.specs.Prelude.{IfSome}
use Rattle.std.proofs.Common.{arith, ◌≡◌, ◌+◌, ◌≤◌, ◌∷◌, [], length, ℕ, List, ap, sym}
use Rattle.std.proofs.Common.{◌∙◌, subst, refl, ◌-◌, slice_set, Some, ◌<◌}
use Rattle.chronicle.specs.declared.record.Kind.TheVariants.{Hung}
use Rattle.deliveries.specs.declared.delivery.Delivery.TheVariants.{Last}
use Rattle.registration.specs.declared.settings.Settings.{Settings}
use Rattle.roster.specs.declared.deed.Deed.TheVariants.{Ended}
use Rattle.ledger.specs.declared.seat.Seat.{Seat}
use Rattle.ledger.specs.Kept.{IsKept}
use Rattle.deliveries.specs.declared.item.Item.{Item}
use Rattle.chronicle.specs.Journal.{fresh_record, miss}
use Rattle.ledger.specs.Seats.{IsThere, MayFollow, IsTaken, IsNotTaken}
use Rattle.ledger.specs.Ledger.{MayHang, IsDone, box_at}
use Rattle.ledger.proofs.KeptSteps.{shown}
use Rattle.ledger.proofs.Begins.{hung_put_is, hung_miss_is}
use Rattle.ledger.proofs.Appends.{shut_seats, hang_room, hung_follows, hung_put, hung_missed}
use Rattle.ledger.proofs.Sent.{item_is}
use Rattle.ledger.proofs.Owes.{few_put}
use Rattle.ledger.proofs.LastActivity.{since_as, since_record, since_missed, since_put}
use Rattle.ledger.proofs.Based.{based_as, based_boxes, based_record, based_missed, set_many, put_still}
use Rattle.ledger.proofs.ledger.Ledger.hang.Goals as goal

pub append-number-requires : goal.append-number-requires
append-number-requires over c =
    let a = c.self.inside in
    let may = subst (λ m. MayHang m c.args.session c.args.moment) (sym c.self.view_is) c.in_ok-check_hang.ensures.ok in
    hang_room over.O.Outbox.sent a.journal a.roster.settings a.roster.facts a.seats a.outboxes.boxes a.plan a.busy
    c.self.invariant.kept c.args.session c.args.why c.args.moment may

pub invariant_of-self : goal.invariant_of-self
invariant_of-self over c =
    let a = c.self.inside in let s = c.args.session in let w = c.args.why in
    let may : MayHang (shown a.journal a.roster.settings a.outboxes.boxes a.plan a.busy) s c.args.moment = subst
    (λ m. MayHang m s c.args.moment) (sym c.self.view_is) c.in_ok-check_hang.ensures.ok in
    let app = c.append-number.ensures.appended in
    let left : 1 ≤ c.append-number.new.self.left = c.append-number.ensures.one in
    let known : c.end.new.self.facts ≡ Ended s w [] ∷ a.roster.facts = c.end.ensures.facts in
    let it = c.new-item.ensures in
    let item = item_is c.new-item.result (Last (length a.journal.history + 1) c.args.why) c.args.session
    (fresh_record a.journal.history c.args.moment (Hung c.args.session c.args.why) ∷ a.journal.history)
    a.roster.settings
    (it.delivery ∙ ap (λ (n : ℕ). Last n c.args.why) c.append-number.ensures.number) it.session
    (it.front ∙ c.append-number.ensures.appended.history)
    (it.settings ∙ c.settings.ensures.value ∙ c.end.ensures.settings) in
    let took = subst (λ (x : Item). IsTaken over.O.Outbox.sent over.O.Outbox.accepts a.outboxes.boxes x
    c.offer.new.self.boxes) item (c.offer.ensures.put c.if-offer.true) in
    record {
      kept =
          subst (λ (g : Settings). IsKept over.O.Outbox.sent c.append-number.new.self g c.end.new.self.facts
          c.set_shut.new.self c.offer.new.self.boxes a.plan a.busy) (sym c.end.ensures.settings)
          (subst (λ (xs : List Seat). IsKept over.O.Outbox.sent c.append-number.new.self a.roster.settings
          c.end.new.self.facts xs c.offer.new.self.boxes a.plan a.busy) (sym c.set_shut.ensures)
          (hung_put over.O.Outbox.sent a.journal a.roster.settings a.roster.facts a.seats a.outboxes.boxes a.plan
          a.busy c.self.invariant.kept c.append-number.new.self c.end.new.self.facts
          c.offer.new.self.boxes s w c.args.moment over.O.Outbox.accepts may app.history app.limit left app.room
          known took));
      based = (let h = a.journal.history in let r = fresh_record h c.args.moment (Hung s w) in
          let n = a.journal.limit.dropped in let g = a.roster.settings in let was = a.outboxes.boxes in
          let new = slice_set was (s - 1) (Some took.after) in
          let few : s ≤ length was = (let l = may.known.opened in let many = c.self.invariant.kept.sound.sessions in
          omega arith) in
          based_as a.base (r ∷ h) c.append-number.new.self.history n c.append-number.new.self.limit.dropped g
          c.end.new.self.settings new c.offer.new.self.boxes
          (based_boxes a.base (r ∷ h) n g was new (based_record a.base h r n g was c.self.invariant.based)
          (set_many was (s - 1) (Some took.after))
          (put_still was s took.after may.known.here may.known.from_1 few)) app.history
          (ap (λ l. l.dropped) app.limit) c.end.ensures.settings took.now);
      cut = c.self.invariant.cut ∙ sym (ap (λ l. l.is_cut) app.limit);
      since = (let h = a.journal.history in let r = fresh_record h c.args.moment (Hung s w) in
          let was = a.outboxes.boxes in let new = slice_set was (s - 1) (Some took.after) in
          let few : s ≤ length was = (let l = may.known.opened in let many = c.self.invariant.kept.sound.sessions in
          omega arith) in
          since_as a.last_heard a.last_heard (r ∷ h) c.append-number.new.self.history new c.offer.new.self.boxes
          (since_put a.last_heard (r ∷ h) was s took.after (since_record a.last_heard h
          (Hung s w) c.args.moment was c.self.invariant.since (λ t. refl) refl may.in_time.not_earlier)
          may.known.here may.known.from_1 few) refl app.history took.now);
    }

pub returns-then-offer-clause-ok : goal.returns-then-offer-clause-ok
returns-then-offer-clause-ok over c =
    let a = c.self.inside in let s = c.args.session in let w = c.args.why in
    let may : MayHang (shown a.journal a.roster.settings a.outboxes.boxes a.plan a.busy) s c.args.moment = subst
    (λ m. MayHang m s c.args.moment) (sym c.self.view_is) c.in_ok-check_hang.ensures.ok in
    let app = c.append-number.ensures.appended in
    let it = c.new-item.ensures in
    let item = item_is c.new-item.result (Last (length a.journal.history + 1) c.args.why) c.args.session
    (fresh_record a.journal.history c.args.moment (Hung c.args.session c.args.why) ∷ a.journal.history)
    a.roster.settings
    (it.delivery ∙ ap (λ (n : ℕ). Last n c.args.why) c.append-number.ensures.number) it.session
    (it.front ∙ c.append-number.ensures.appended.history)
    (it.settings ∙ c.settings.ensures.value ∙ c.end.ensures.settings) in
    let took = subst (λ (x : Item). IsTaken over.O.Outbox.sent over.O.Outbox.accepts a.outboxes.boxes x
    c.offer.new.self.boxes) item (c.offer.ensures.put c.if-offer.true) in
    subst (λ m. IsDone over.O.Outbox.accepts over.O.Outbox.refuses m (Hung s w) c.args.moment (shown
    c.append-number.new.self c.end.new.self.settings c.offer.new.self.boxes a.plan a.busy)) c.self.view_is
    (subst (λ (g : Settings). IsDone over.O.Outbox.accepts over.O.Outbox.refuses
    (shown a.journal a.roster.settings a.outboxes.boxes a.plan a.busy) (Hung s w) c.args.moment
    (shown c.append-number.new.self g c.offer.new.self.boxes a.plan a.busy)) (sym c.end.ensures.settings)
    (hung_put_is over.O.Outbox.sent over.O.Outbox.accepts over.O.Outbox.refuses a.journal c.append-number.new.self
    a.roster.settings a.outboxes.boxes a.plan a.busy s w c.args.moment (c.self.invariant.kept.sound.idle
    may.idle) may.idle may.not_shut app.history app.limit c.offer.new.self.boxes took))

pub invariant_of-self-2 : goal.invariant_of-self-2
invariant_of-self-2 over c =
    let a = c.self.inside in let s = c.args.session in let w = c.args.why in
    let may : MayHang (shown a.journal a.roster.settings a.outboxes.boxes a.plan a.busy) s c.args.moment = subst
    (λ m. MayHang m s c.args.moment) (sym c.self.view_is) c.in_ok-check_hang.ensures.ok in
    let app = c.append-number.ensures.appended in
    let left : 1 ≤ c.append-number.new.self.left = c.append-number.ensures.one in
    let known : c.end.new.self.facts ≡ Ended s w [] ∷ a.roster.facts = c.end.ensures.facts in
    record {
      kept =
          subst (λ (g : Settings). IsKept over.O.Outbox.sent c.miss.new.self g c.end.new.self.facts c.set_shut.new.self
          c.offer.new.self.boxes a.plan a.busy) (sym c.end.ensures.settings)
          (subst (λ (xs : List Seat). IsKept over.O.Outbox.sent c.miss.new.self a.roster.settings
          c.end.new.self.facts xs c.offer.new.self.boxes a.plan a.busy) (sym c.set_shut.ensures)
          (subst (λ xs. IsKept over.O.Outbox.sent c.miss.new.self a.roster.settings c.end.new.self.facts
          (shut_seats a.seats s) xs a.plan a.busy) (sym (c.offer.ensures.same c.if-offer.false))
          (hung_missed over.O.Outbox.sent a.journal a.roster.settings a.roster.facts a.seats a.outboxes.boxes a.plan
          a.busy c.self.invariant.kept c.append-number.new.self c.miss.new.self c.end.new.self.facts
          s w c.args.moment may app.history app.limit left app.room known c.miss.ensures)));
      based = (let h = a.journal.history in let r = fresh_record h c.args.moment (Hung s w) in
          let n = a.journal.limit.dropped in let g = a.roster.settings in let was = a.outboxes.boxes in
          let k = c.append-number.new.self in
          let grown = based_as a.base (r ∷ h) k.history n k.limit.dropped g g was was (based_record a.base h r n g
          was c.self.invariant.based) app.history (ap (λ l. l.dropped) app.limit) refl refl in
          based_as a.base (miss k.history s) c.miss.new.self.history k.limit.dropped
          c.miss.new.self.limit.dropped g c.end.new.self.settings was c.offer.new.self.boxes
          (based_missed a.base k.history s k.limit.dropped g was c.append-number.ensures.kept grown)
          c.miss.ensures.history (ap (λ l. l.dropped) c.miss.ensures.limit) c.end.ensures.settings
          (c.offer.ensures.same c.if-offer.false));
      cut = c.self.invariant.cut ∙ sym (ap (λ l. l.is_cut) (c.miss.ensures.limit ∙ app.limit));
      since = (let h = a.journal.history in let r = fresh_record h c.args.moment (Hung s w) in
          let was = a.outboxes.boxes in
          since_as a.last_heard a.last_heard (miss (r ∷ h) s) c.miss.new.self.history was c.offer.new.self.boxes
          (since_missed a.last_heard (r ∷ h) s was (since_record a.last_heard h
          (Hung s w) c.args.moment was c.self.invariant.since (λ t. refl) refl may.in_time.not_earlier)) refl
          (c.miss.ensures.history ∙ ap (λ k. miss k s) app.history) (c.offer.ensures.same c.if-offer.false));
    }

pub returns-clause-ok : goal.returns-clause-ok
returns-clause-ok over c =
    let a = c.self.inside in let s = c.args.session in let w = c.args.why in
    let may : MayHang (shown a.journal a.roster.settings a.outboxes.boxes a.plan a.busy) s c.args.moment = subst
    (λ m. MayHang m s c.args.moment) (sym c.self.view_is) c.in_ok-check_hang.ensures.ok in
    let app = c.append-number.ensures.appended in
    let it = c.new-item.ensures in
    let item = item_is c.new-item.result (Last (length a.journal.history + 1) c.args.why) c.args.session
    (fresh_record a.journal.history c.args.moment (Hung c.args.session c.args.why) ∷ a.journal.history)
    a.roster.settings
    (it.delivery ∙ ap (λ (n : ℕ). Last n c.args.why) c.append-number.ensures.number) it.session
    (it.front ∙ c.append-number.ensures.appended.history)
    (it.settings ∙ c.settings.ensures.value ∙ c.end.ensures.settings) in
    let missed = subst (λ (x : Item). IsNotTaken over.O.Outbox.refuses a.outboxes.boxes x) item
    (c.offer.ensures.fault c.if-offer.false) in
    subst (λ m. IsDone over.O.Outbox.accepts over.O.Outbox.refuses m (Hung s w) c.args.moment
    (shown c.miss.new.self c.end.new.self.settings c.offer.new.self.boxes a.plan a.busy)) c.self.view_is
    (subst (λ (g : Settings). IsDone over.O.Outbox.accepts over.O.Outbox.refuses
    (shown a.journal a.roster.settings a.outboxes.boxes a.plan a.busy) (Hung s w) c.args.moment
    (shown c.miss.new.self g c.offer.new.self.boxes a.plan a.busy)) (sym c.end.ensures.settings)
    (subst (λ xs. IsDone over.O.Outbox.accepts over.O.Outbox.refuses
    (shown a.journal a.roster.settings a.outboxes.boxes a.plan a.busy) (Hung s w) c.args.moment
    (shown c.miss.new.self a.roster.settings xs a.plan a.busy)) (sym (c.offer.ensures.same c.if-offer.false))
    (hung_miss_is over.O.Outbox.sent over.O.Outbox.accepts over.O.Outbox.refuses a.journal
    c.append-number.new.self a.roster.settings a.outboxes.boxes a.plan a.busy s w c.args.moment
    (c.self.invariant.kept.sound.idle may.idle) may.idle may.not_shut app.history app.limit c.miss.new.self
    missed c.miss.ensures.history c.miss.ensures.limit)))

pub set_shut-requires-clause-from_1 : goal.set_shut-requires-clause-from_1
set_shut-requires-clause-from_1 over c =
    let may = subst (λ m. MayHang m c.args.session c.args.moment) (sym c.self.view_is) c.in_ok-check_hang.ensures.ok in
    may.known.from_1

pub set_shut-requires-clause-opened : goal.set_shut-requires-clause-opened
set_shut-requires-clause-opened over c =
    let may = subst (λ m. MayHang m c.args.session c.args.moment) (sym c.self.view_is) c.in_ok-check_hang.ensures.ok in
    let few = may.known.opened in
    let many = c.self.invariant.kept.sound.sessions in let places = c.self.invariant.kept.places in omega arith

pub offer-requires-clause-there : goal.offer-requires-clause-there
offer-requires-clause-there over c =
    let a = c.self.inside in
    let may = subst (λ m. MayHang m c.args.session c.args.moment) (sym c.self.view_is) c.in_ok-check_hang.ensures.ok in
    let few = may.known.opened in let many = c.self.invariant.kept.sound.sessions in
    let there : IsThere a.outboxes.boxes c.args.session =
    record { from_1 = may.known.from_1; opened = (omega arith); here = may.known.here } in
    subst (IsThere a.outboxes.boxes) (sym c.new-item.ensures.session) there

pub offer-requires-clause-next : goal.offer-requires-clause-next
offer-requires-clause-next over c =
    let a = c.self.inside in
    let may : MayHang
    (shown a.journal a.roster.settings a.outboxes.boxes a.plan a.busy) c.args.session c.args.moment = subst
    (λ m. MayHang m c.args.session c.args.moment) (sym c.self.view_is) c.in_ok-check_hang.ensures.ok in
    let app = c.append-number.ensures.appended in
    let left : 1 ≤ c.append-number.new.self.left = c.append-number.ensures.one in
    let known : c.end.new.self.facts ≡ Ended c.args.session c.args.why [] ∷ a.roster.facts = c.end.ensures.facts in
    let it = c.new-item.ensures in
    let item = item_is c.new-item.result (Last (length a.journal.history + 1) c.args.why) c.args.session
    (fresh_record a.journal.history c.args.moment (Hung c.args.session c.args.why) ∷ a.journal.history)
    a.roster.settings
    (it.delivery ∙ ap (λ (n : ℕ). Last n c.args.why) c.append-number.ensures.number) it.session
    (it.front ∙ c.append-number.ensures.appended.history)
    (it.settings ∙ c.settings.ensures.value ∙ c.end.ensures.settings) in
    subst (λ (x : Item). MayFollow over.O.Outbox.sent (box_at a.outboxes.boxes x.session) x) (sym item)
    (hung_follows over.O.Outbox.sent a.journal a.roster.settings a.roster.facts a.seats a.outboxes.boxes a.plan
    a.busy c.self.invariant.kept c.append-number.new.self c.end.new.self.facts c.args.session c.args.why
    c.args.moment may app.history app.limit left app.room known)

pub offer-requires-clause-few : goal.offer-requires-clause-few
offer-requires-clause-few over c =
    let a = c.self.inside in
    let may = subst (λ m. MayHang m c.args.session c.args.moment) (sym c.self.view_is) c.in_ok-check_hang.ensures.ok in
    let few = may.known.opened in
    let many = c.self.invariant.kept.sound.sessions in
    let to : c.args.session ≤ length a.outboxes.boxes = omega arith in
    let put = few_put over.O.Outbox.sent (shown a.journal a.roster.settings a.outboxes.boxes a.plan a.busy)
    c.args.session c.self.invariant.kept.sound may.known.from_1 to may.known.here in
    subst (λ (t : ℕ). IfSome (box_at a.outboxes.boxes t)
    (λ o. length (over.O.Outbox.sent o) + 1 < 18446744073709551616)) (sym c.new-item.ensures.session) put
