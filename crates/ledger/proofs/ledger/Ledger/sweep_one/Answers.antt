use Rattle.std.proofs.Common.{arith, ◌≡◌, ◌+◌, ◌<◌, ◌≤◌, ◌∷◌, true, false, length, ℤ, Some}
use Rattle.std.proofs.Common.{None, List, [], zero-add, refl, ap, sym, ◌∙◌, subst}
use Rattle.std.proofs.lemmas.Grind.{common_steps}
use Rattle.smallvec.specs.SmallVec.{small_vec_len}
use Rattle.chronicle.specs.declared.record.Kind.TheVariants.{Gone}
use Rattle.chronicle.specs.Journal.{most, fresh_record}
use Rattle.registration.specs.declared.settings.Settings.{Settings}
use Rattle.roster.specs.declared.deed.Deed.{Deed}
use Rattle.roster.specs.LookBack.{after, opened_in}
use Rattle.transactions.specs.Effects.{deeds_of}
use Rattle.deeds.specs.Departure.{departs}
use Rattle.deeds.specs.Deeds.{octets_for}
use Rattle.ledger.specs.declared.seat.Seat.{Seat}
use Rattle.chronicle.specs.History.{sessions}
use Rattle.ledger.specs.Kept.{IsKept}
use Rattle.ledger.specs.Seats.{planned_from}
use Rattle.ledger.specs.Ledger.{MaySweep, to_sweep, plan_of, after_begin, kept_total, newest_actor, newest_next}
use Rattle.ledger.specs.Ledger.{newest_missed}
use Rattle.ledger.proofs.Sweeps.{swept_is, seats_sweep}
use Rattle.ledger.proofs.KeptSteps.{shown}
use Rattle.ledger.proofs.Begins.{begun_is}
use Rattle.ledger.proofs.Appends.{sweep_room, gone_plan, gone_kept}
use Rattle.ledger.proofs.LastActivity.{since_as, since_record}
use Rattle.ledger.proofs.Based.{based_as, based_record}
use Rattle.ledger.proofs.ledger.Ledger.sweep_one.Given as given
use Rattle.ledger.proofs.ledger.Ledger.sweep_one.Goals as goal

pub overflow_add-newest : goal.overflow_add-newest
overflow_add-newest over c =
    let a = c.self.inside in
    let next = subst (λ m. to_sweep m.history ≡ Some c.args.session) (sym c.self.view_is) c.requires.next in
    let limit : most a.journal.limit < 18446744073709551616 = subst
    (λ m. most m.limit < 18446744073709551616) (sym c.self.view_is) c.reserve_count-room.ensures.fits in
    let few = sweep_room over.O.Outbox.sent a.journal a.roster.settings a.roster.facts a.seats a.outboxes.boxes
    a.plan a.busy c.self.invariant.kept c.args.session c.args.moment next in
    let some = few.0 in let seated = few.1 in let known = few.2 in let room = few.3 in
    let len : c.newest.result ≡ length a.journal.history = c.newest.ensures in omega arith

pub prepare_gone-requires : goal.prepare_gone-requires
prepare_gone-requires over c =
    let a = c.self.inside in
    let next = subst (λ m. to_sweep m.history ≡ Some c.args.session) (sym c.self.view_is) c.requires.next in
    let limit : most a.journal.limit < 18446744073709551616 = subst
    (λ m. most m.limit < 18446744073709551616) (sym c.self.view_is) c.reserve_count-room.ensures.fits in
    let few = sweep_room over.O.Outbox.sent a.journal a.roster.settings a.roster.facts a.seats a.outboxes.boxes
    a.plan a.busy c.self.invariant.kept c.args.session c.args.moment next in
    let some = few.0 in let seated = few.1 in let known = few.2 in let room = few.3 in
    record { known = known }

pub append-requires : goal.append-requires
append-requires over c =
    let a = c.self.inside in
    let next = subst (λ m. to_sweep m.history ≡ Some c.args.session) (sym c.self.view_is) c.requires.next in
    let limit : most a.journal.limit < 18446744073709551616 = subst
    (λ m. most m.limit < 18446744073709551616) (sym c.self.view_is) c.reserve_count-room.ensures.fits in
    let few = sweep_room over.O.Outbox.sent a.journal a.roster.settings a.roster.facts a.seats a.outboxes.boxes
    a.plan a.busy c.self.invariant.kept c.args.session c.args.moment next in
    let some = few.0 in let seated = few.1 in let known = few.2 in let room = few.3 in
    let kept : c.reserve_count-room.result ≡ kept_total a.journal.history = c.reserve_count-room.ensures.kept ∙ ap
    (λ m. kept_total m.history) (sym c.self.view_is) in
    let ok = c.reserve.ensures.ok in grind (arith, common_steps)

pub leave-requires : goal.leave-requires
leave-requires over c =
    let a = c.self.inside in
    let i = c.self.invariant.kept in
    let next = subst (λ m. to_sweep m.history ≡ Some c.args.session) (sym c.self.view_is) c.requires.next in
    record {
      next = seats_sweep a.journal.history a.seats a.outboxes.boxes i.each_seat
          (i.places ∙ sym i.sound.sessions) ∙ next;
    }

-- the record that was appended, and the plan of its deliveries
history : (over : given.Over) (c : goal.After-self-2-1 over) → c.append.new.self.history
    ≡ fresh_record c.self.inside.journal.history c.args.moment (Gone c.args.session) ∷ c.self.inside.journal.history
history over c =
    c.append.ensures.appended.history ∙ ap
    (λ h. fresh_record h c.args.moment (Gone c.args.session) ∷ h) c.reserve.ensures.same.history

limit : (over : given.Over) (c : goal.After-self-2-1 over) → c.append.new.self.limit ≡ c.self.inside.journal.limit
limit over c = c.append.ensures.appended.limit ∙ c.reserve.ensures.same.limit

plan : (over : given.Over) (c : goal.After-self-2-1 over) → c.in_ok-prepared.prepared.plan
    ≡ plan_of c.self.inside.roster.settings c.self.inside.journal.history (Gone c.args.session) c.args.moment
    (length c.self.inside.outboxes.boxes)
plan over c =
    let a = c.self.inside in
    let next = subst (λ m. to_sweep m.history ≡ Some c.args.session) (sym c.self.view_is) c.requires.next in
    let number : c.new-number.result ≡ length a.journal.history + 1 = grind (arith, common_steps) in
    gone_plan over.O.Outbox.sent a.journal a.roster.settings a.roster.facts a.seats a.outboxes.boxes a.plan a.busy
    c.self.invariant.kept c.args.session c.new-number.result c.args.moment c.in_ok-prepared.prepared.plan
    next number (subst (λ (m : ℤ). c.in_ok-prepared.prepared.plan
    ≡ planned_from a.seats c.args.session c.new-number.result (octets_for a.roster.settings a.roster.facts
    c.args.session None (departs a.roster.facts c.args.session) m c.new-number.result) false)
    c.moment_of_record.ensures c.in_ok-prepared.ensures.plan)

settings : (over : given.Over) (c : goal.After-self-2-1 over) → c.commit.new.roster.settings
    ≡ c.self.inside.roster.settings
settings over c = c.commit.ensures.settings ∙ c.prepare.ensures.settings

pub invariant_of-self-2 : goal.invariant_of-self-2
invariant_of-self-2 over c =
    let a = c.self.inside in
    let es = departs a.roster.facts c.args.session in
    let next = subst (λ m. to_sweep m.history ≡ Some c.args.session) (sym c.self.view_is) c.requires.next in
    let may : MaySweep (shown a.journal a.roster.settings a.outboxes.boxes a.plan a.busy) c.args.moment = subst
    (λ m. MaySweep m c.args.moment) (sym c.self.view_is) c.requires.may in
    let room : length c.in_ok-prepared.prepared.plan ≤ c.append.new.self.left = grind (arith, common_steps) in
    let kept : c.reserve_count-room.result ≡ kept_total a.journal.history = c.reserve_count-room.ensures.kept ∙ ap
    (λ m. kept_total m.history) (sym c.self.view_is) in
    let ok = c.reserve.ensures.ok in let more = c.append.ensures.appended.room in
    let free : kept_total a.journal.history ≤ c.append.new.self.room + 1 = grind (arith, common_steps) in
    let more_known : c.commit.new.roster.facts
    ≡ after a.roster.facts c.in_ok-prepared.prepared.deeds.items = c.commit.ensures.facts ∙ ap
    (λ (fs : List Deed). after fs c.in_ok-prepared.prepared.deeds.items) c.prepare.ensures.facts in
    let known : c.commit.new.roster.facts ≡ after a.roster.facts (deeds_of es) = more_known
    ∙ ap (after a.roster.facts) c.in_ok-prepared.ensures.deeds in
    let same : opened_in c.commit.new.roster.facts ≡ opened_in a.roster.facts = ap opened_in more_known
    ∙ c.in_ok-prepared.ensures.opened in
    record {
      kept =
          subst (λ (g : Settings). IsKept over.O.Outbox.sent c.append.new.self g c.commit.new.roster.facts
          c.leave.new.self a.outboxes.boxes c.in_ok-prepared.prepared.plan true) (sym (settings over c))
          (subst (λ (xs : List Seat). IsKept over.O.Outbox.sent c.append.new.self a.roster.settings
          c.commit.new.roster.facts xs a.outboxes.boxes c.in_ok-prepared.prepared.plan true)
          (sym c.leave.ensures)
          (gone_kept over.O.Outbox.sent a.journal a.roster.settings a.roster.facts a.seats a.outboxes.boxes a.plan
          a.busy c.self.invariant.kept c.append.new.self c.commit.new.roster.facts
          c.in_ok-prepared.prepared.plan c.args.moment c.args.session may next (plan over c) (history over c)
          (limit over c) room free known same));
      based = (let h = a.journal.history in let r = fresh_record h c.args.moment (Gone c.args.session) in
          let n = a.journal.limit.dropped in let g = a.roster.settings in let was = a.outboxes.boxes in
          based_as a.base (r ∷ h) c.append.new.self.history n c.append.new.self.limit.dropped g
          c.commit.new.roster.settings was was (based_record a.base h r n g was c.self.invariant.based)
          (history over c) (ap (λ l. l.dropped) (limit over c)) (settings over c) refl);
      cut = c.self.invariant.cut ∙ sym (ap (λ l. l.is_cut) (limit over c));
      since = since_as a.last_heard a.last_heard (fresh_record a.journal.history c.args.moment (Gone c.args.session)
          ∷ a.journal.history) c.append.new.self.history a.outboxes.boxes a.outboxes.boxes
          (since_record a.last_heard a.journal.history (Gone c.args.session) c.args.moment a.outboxes.boxes
          c.self.invariant.since (λ t. refl) refl may.in_time.not_earlier) refl (history over c) refl;
    }

pub returns-clause-ok : goal.returns-clause-ok
returns-clause-ok over c =
    let a = c.self.inside in
    ap (λ (g : Settings). shown c.append.new.self g a.outboxes.boxes c.in_ok-prepared.prepared.plan true)
    (settings over c)
    ∙ begun_is a.journal c.append.new.self a.roster.settings a.outboxes.boxes a.plan c.in_ok-prepared.prepared.plan
    a.busy (Gone c.args.session) c.args.moment (history over c) (limit over c) (plan over c)
    ∙ ap (λ m. after_begin m (Gone c.args.session) c.args.moment) c.self.view_is

pub returns-clause-out : goal.returns-clause-out
returns-clause-out over c =
    let a = c.self.inside in
    let h = a.journal.history in
    let next = subst (λ m. to_sweep m.history ≡ Some c.args.session) (sym c.self.view_is) c.requires.next in
    let is = swept_is h c.args.session next in let eh = history over c in
    let number : c.new-number.result ≡ length h + 1 = grind (arith, common_steps) in
    let longer : length c.append.new.self.history ≡ length h + 1 = ap length eh ∙ (let f : length
    (fresh_record h c.args.moment (Gone c.args.session) ∷ h) ≡ length h + 1 = omega arith in f) in
    let same : sessions c.append.new.self.history ≡ sessions h = ap sessions eh ∙ zero-add (sessions h) in
    let few = is.1 in
    let none : c.in_ok-prepared.prepared.missed.items ≡ [] = c.in_ok-prepared.ensures.missed.0 in
    let empty : small_vec_len c.in_ok-prepared.prepared.missed ≡ 0 = ap length none in
    let room = c.in_ok-prepared.ensures.missed.1 in
    record {
      busy = refl;
      number = number ∙ sym longer;
      session = sym (ap newest_actor eh);
      next = sym (ap newest_next eh);
      opened = omega arith;
      missed = none ∙ sym (ap newest_missed eh);
      room = omega arith;
      kept = c.append.ensures.kept;
    }
