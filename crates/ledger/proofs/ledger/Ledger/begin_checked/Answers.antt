use Rattle.std.proofs.Common.{arith, ◌≡◌, ◌+◌, ◌<◌, ◌≤◌, ℕ, ℤ, ◌∷◌, length, nat_eq}
use Rattle.std.proofs.Common.{true, false, List, ap, sym, ◌∙◌, subst, refl}
use Rattle.std.proofs.lemmas.Grind.{common_steps}
use Rattle.line_grammar.specs.declared.splitter.Piece.{Piece}
use Rattle.chronicle.specs.declared.record.Kind.TheVariants.{Said}
use Rattle.chronicle.specs.History.{accepted}
use Rattle.chronicle.specs.Journal.{most, fresh_record}
use Rattle.registration.specs.declared.settings.Settings.{Settings}
use Rattle.roster.specs.declared.deed.Deed.{Deed}
use Rattle.roster.specs.LookBack.{after, caps, opened_in}
use Rattle.roster.specs.Legal.{IsOpened}
use Rattle.labels_batches.specs.Labels.{label_of}
use Rattle.deeds.specs.Deeds.{octets_for}
use Rattle.transactions.specs.Effects.{deeds_of}
use Rattle.commands.specs.Asked.{asked_of}
use Rattle.deeds.specs.Rows.{of_asked}
use Rattle.ledger.specs.declared.seat.Seat.{Seat}
use Rattle.ledger.specs.Seats.{IsSeated, IsThere, seat_at, planned_from}
use Rattle.ledger.specs.Kept.{IsKept}
use Rattle.ledger.specs.Ledger.{Turn, MayBegin, plan_of, after_begin, kept_total}
use Rattle.ledger.proofs.KeptSteps.{shown}
use Rattle.ledger.proofs.Opened.{accepted_le}
use Rattle.ledger.proofs.Begins.{begun_is}
use Rattle.ledger.proofs.Appends.{said_seats, known_opened, few_lines, said_plan, said_kept}
use Rattle.std.specs.Map.{remove_entry}
use Rattle.ledger.specs.declared.last_heard.Since.{Since}
use Rattle.ledger.proofs.LastActivity.{since_as, since_said}
use Rattle.ledger.proofs.Based.{based_as, based_record}
use Rattle.ledger.proofs.ledger.Ledger.begin_checked.Given as given
use Rattle.ledger.proofs.ledger.Ledger.begin_checked.Goals as goal

-- where a line may be accepted
may : (over : given.Over) (c : goal.After-result-1 over)
    → MayBegin (shown c.self.inside.journal c.self.inside.roster.settings c.self.inside.outboxes.boxes
    c.self.inside.plan c.self.inside.busy) c.args.turn.now c.args.moment
may over c = subst (λ m. MayBegin m c.args.turn.now c.args.moment) (sym c.self.view_is) c.requires.may

session : (over : given.Over) (c : goal.After-result-1 over) → c.turn.inside.session ≡ c.args.turn.now.session
session over c = ap (λ (b : Turn). b.session) c.turn.view_is

pub overflow_add-result : goal.overflow_add-result
overflow_add-result over c =
    let may : MayBegin (shown c.self.inside.journal c.self.inside.roster.settings c.self.inside.outboxes.boxes
    c.self.inside.plan c.self.inside.busy) c.args.turn.now c.args.moment = subst
    (λ m. MayBegin m c.args.turn.now c.args.moment) (sym c.self.view_is) c.requires.may in
    let h = c.self.inside.journal.history in let s = c.args.turn.now.session in
    let limit : most c.self.inside.journal.limit < 18446744073709551616 = subst
    (λ m. most m.limit < 18446744073709551616) (sym c.self.view_is) c.requires.fits in
    let room = may.room in let few_lines = accepted_le h s in
    let next : c.turn.inside.next ≡ length (accepted h s) = ap (λ b. b.next) c.turn.view_is ∙ may.turn.next in
    omega arith

history : (over : given.Over) (c : goal.After-result-1 over)
    → c.append.new.self.history ≡ fresh_record c.self.inside.journal.history c.args.moment
    (Said c.args.turn.now.session c.args.turn.now.next c.args.line.now) ∷ c.self.inside.journal.history
history over c =
    let a = c.self.inside in let same = c.reserve.ensures.same in let app = c.append.ensures.appended in
    let said : c.take.result ≡ c.args.line.now = c.take.ensures.piece in
    let b : record { session = c.turn.inside.session; next = c.turn.inside.next }
    ≡ c.args.turn.now = c.turn.view_is in
    app.history ∙ ap (λ h. fresh_record h c.args.moment
    (Said c.turn.inside.session c.turn.inside.next c.take.result) ∷ h) same.history
    ∙ ap (λ (x : Turn). fresh_record a.journal.history c.args.moment (Said x.session x.next c.take.result)
    ∷ a.journal.history) b
    ∙ ap (λ (x : Piece). fresh_record a.journal.history c.args.moment
    (Said c.args.turn.now.session c.args.turn.now.next x) ∷ a.journal.history) said

limit : (over : given.Over) (c : goal.After-result-1 over) → c.append.new.self.limit ≡ c.self.inside.journal.limit
limit over c = c.append.ensures.appended.limit ∙ c.reserve.ensures.same.limit

plan : (over : given.Over) (c : goal.After-result-1 over) → c.in_ok-prepared.prepared.plan
    ≡ plan_of c.self.inside.roster.settings c.self.inside.journal.history (Said c.args.turn.now.session
    c.args.turn.now.next c.args.line.now) c.args.moment (length c.self.inside.outboxes.boxes)
plan over c =
    let a = c.self.inside in let q = c.in_ok-prepared.quits in let g = a.roster.settings in let fs = a.roster.facts in
    let number : c.new-number.result ≡ length a.journal.history + 1 = grind (arith, common_steps) in
    let dated = subst
    (λ (m : ℤ). c.in_ok-prepared.prepared.plan ≡ planned_from a.seats c.turn.inside.session c.new-number.result
    (octets_for g fs c.turn.inside.session (label_of (caps fs c.turn.inside.session) c.args.line.now)
    (of_asked g fs c.turn.inside.session (asked_of c.args.line.now)) m c.new-number.result) q)
    c.moment_of_record.ensures c.in_ok-prepared.ensures.plan in
    let made = dated ∙ ap
    (λ (t : ℕ). planned_from a.seats t c.new-number.result (octets_for g fs t (label_of (caps fs t) c.args.line.now)
    (of_asked g fs t (asked_of c.args.line.now)) c.args.moment c.new-number.result) q) (session over c) in
    said_plan over.O.Outbox.sent a.journal g fs a.seats a.outboxes.boxes a.plan a.busy c.self.invariant.kept
    c.args.turn.now c.args.line.now c.args.moment
    c.new-number.result q c.in_ok-prepared.prepared.plan (may over c) number c.in_ok-prepared.ensures.quits made

settings : (over : given.Over) (c : goal.After-result-1 over) → c.commit.new.roster.settings
    ≡ c.self.inside.roster.settings
settings over c = c.commit.ensures.settings ∙ c.prepare.ensures.settings

pub invariant_of-self-3 : goal.invariant_of-self-3
invariant_of-self-3 over c =
    let a = c.self.inside in let s = c.args.turn.now.session in let asked = asked_of c.args.line.now in
    let room : length c.in_ok-prepared.prepared.plan ≤ c.append.new.self.left = grind (arith, common_steps) in
    let kept : c.reserve_count-room.result ≡ kept_total a.journal.history = c.reserve_count-room.ensures.kept in
    let ok = c.reserve.ensures.ok in let more = c.append.ensures.appended.room in
    let free : kept_total a.journal.history ≤ c.append.new.self.room = grind (arith, common_steps) in
    let more : c.commit.new.roster.facts
    ≡ after a.roster.facts c.in_ok-prepared.prepared.deeds.items = c.commit.ensures.facts ∙ ap
    (λ (fs : List Deed). after fs c.in_ok-prepared.prepared.deeds.items) c.prepare.ensures.facts in
    let known : c.commit.new.roster.facts
    ≡ after a.roster.facts (deeds_of (of_asked a.roster.settings a.roster.facts s asked)) =
    more ∙ ap (after a.roster.facts) (c.in_ok-prepared.ensures.deeds ∙ ap
    (λ (t : ℕ). deeds_of (of_asked a.roster.settings a.roster.facts t asked)) (session over c)) in
    let same : opened_in c.commit.new.roster.facts ≡ opened_in a.roster.facts = ap opened_in more
    ∙ c.in_ok-prepared.ensures.opened in
    let limit_ : most a.journal.limit < 18446744073709551616 = subst
    (λ m. most m.limit < 18446744073709551616) (sym c.self.view_is) c.requires.fits in
    let few = few_lines over.O.Outbox.sent a.journal a.roster.settings a.roster.facts a.seats a.outboxes.boxes
    a.plan a.busy c.self.invariant.kept c.args.turn.now c.args.moment (may over c) limit_ in
    let rows : c.say.new.self ≡ said_seats a.seats s c.in_ok-prepared.quits = c.say.ensures ∙ ap
    (λ (t : ℕ). said_seats a.seats t c.in_ok-prepared.quits) (session over c) in
    record {
      kept =
          subst (λ (g : Settings). IsKept over.O.Outbox.sent c.append.new.self g c.commit.new.roster.facts
          c.say.new.self a.outboxes.boxes c.in_ok-prepared.prepared.plan true) (sym (settings over c))
          (subst (λ (xs : List Seat). IsKept over.O.Outbox.sent c.append.new.self a.roster.settings
          c.commit.new.roster.facts xs a.outboxes.boxes c.in_ok-prepared.prepared.plan true) (sym rows)
          (said_kept over.O.Outbox.sent a.journal a.roster.settings a.roster.facts a.seats a.outboxes.boxes a.plan
          a.busy c.self.invariant.kept c.append.new.self c.commit.new.roster.facts
          c.in_ok-prepared.prepared.plan c.args.turn.now c.args.line.now c.args.moment c.in_ok-prepared.quits
          (may over c) c.in_ok-prepared.ensures.quits few (plan over c) (history over c)
          (limit over c) room free known same));
      based = (let h = a.journal.history in
          let r = fresh_record h c.args.moment (Said c.args.turn.now.session c.args.turn.now.next c.args.line.now) in
          let n = a.journal.limit.dropped in let g = a.roster.settings in let was = a.outboxes.boxes in
          based_as a.base (r ∷ h) c.append.new.self.history n c.append.new.self.limit.dropped g
          c.commit.new.roster.settings was was (based_record a.base h r n g was c.self.invariant.based)
          (history over c) (ap (λ l. l.dropped) (limit over c)) (settings over c) refl);
      cut = c.self.invariant.cut ∙ sym (ap (λ l. l.is_cut) (limit over c));
      since = (let h = a.journal.history in let m = c.args.moment in
          let x : Since = record { moment = m; pinged = false } in let t = may over c in
          let there : IsThere a.outboxes.boxes s = record {
            from_1 = t.turn.from_1;
            opened = (let l = t.turn.opened in let many = c.self.invariant.kept.sound.sessions in omega arith);
            here = t.turn.here;
          } in
          since_as ((s, x) ∷ remove_entry (nat_eq s) a.last_heard) c.hear.new.self
          (fresh_record h m (Said s c.args.turn.now.next c.args.line.now) ∷ h) c.append.new.self.history
          a.outboxes.boxes a.outboxes.boxes
          (since_said a.last_heard h s c.args.turn.now.next c.args.line.now m a.outboxes.boxes c.self.invariant.since
          there t.in_time.not_earlier)
          (c.hear.ensures ∙ ap (λ (k : ℕ). (k, x) ∷ remove_entry (nat_eq k) a.last_heard) (session over c))
          (history over c) refl);
    }

pub returns-clause-ok : goal.returns-clause-ok
returns-clause-ok over c =
    let a = c.self.inside in let b = c.args.turn.now in
    ap (λ (g : Settings). shown c.append.new.self g a.outboxes.boxes c.in_ok-prepared.prepared.plan true)
    (settings over c)
    ∙ begun_is a.journal c.append.new.self a.roster.settings a.outboxes.boxes a.plan c.in_ok-prepared.prepared.plan
    a.busy (Said b.session b.next c.args.line.now) c.args.moment (history over c) (limit over c) (plan over c)
    ∙ ap (λ m. after_begin m (Said b.session b.next c.args.line.now) c.args.moment) c.self.view_is

-- ---- what is asked of calls

pub prepare_line-requires : goal.prepare_line-requires
prepare_line-requires over c =
    let a = c.self.inside in
    let may : MayBegin (shown c.self.inside.journal c.self.inside.roster.settings c.self.inside.outboxes.boxes
    c.self.inside.plan c.self.inside.busy) c.args.turn.now c.args.moment = subst
    (λ m. MayBegin m c.args.turn.now c.args.moment) (sym c.self.view_is) c.requires.may in
    record {
      known = subst (λ (s : ℕ). IsOpened a.roster.facts s) (sym (ap (λ (b : Turn). b.session) c.turn.view_is))
          (known_opened over.O.Outbox.sent a.journal a.roster.settings a.roster.facts a.seats a.outboxes.boxes
          a.plan a.busy c.self.invariant.kept c.args.turn.now.session may.turn.from_1 may.turn.opened);
    }

pub say-requires-clause-seated : goal.say-requires-clause-seated
say-requires-clause-seated over c =
    let a = c.self.inside in
    let may : MayBegin (shown c.self.inside.journal c.self.inside.roster.settings c.self.inside.outboxes.boxes
    c.self.inside.plan c.self.inside.busy) c.args.turn.now c.args.moment = subst
    (λ m. MayBegin m c.args.turn.now c.args.moment) (sym c.self.view_is) c.requires.may in
    let few = may.turn.opened in
    let many = c.self.invariant.kept.sound.sessions in let places = c.self.invariant.kept.places in
    let it : IsSeated a.seats c.args.turn.now.session = record { from_1 = may.turn.from_1; opened = (omega arith) } in
    subst (IsSeated a.seats) (sym (ap (λ (b : Turn). b.session) c.turn.view_is)) it

pub say-requires-clause-few : goal.say-requires-clause-few
say-requires-clause-few over c =
    let a = c.self.inside in
    let may : MayBegin (shown c.self.inside.journal c.self.inside.roster.settings c.self.inside.outboxes.boxes
    c.self.inside.plan c.self.inside.busy) c.args.turn.now c.args.moment = subst
    (λ m. MayBegin m c.args.turn.now c.args.moment) (sym c.self.view_is) c.requires.may in
    let limit : most a.journal.limit < 18446744073709551616 = subst
    (λ m. most m.limit < 18446744073709551616) (sym c.self.view_is) c.requires.fits in
    subst (λ (t : ℕ). (seat_at a.seats t).accepted + 1 < 18446744073709551616)
    (sym (ap (λ (b : Turn). b.session) c.turn.view_is))
    (few_lines over.O.Outbox.sent a.journal a.roster.settings a.roster.facts a.seats a.outboxes.boxes a.plan a.busy
    c.self.invariant.kept c.args.turn.now c.args.moment may limit)

pub say-requires-clause-not_shut : goal.say-requires-clause-not_shut
say-requires-clause-not_shut over c =
    let a = c.self.inside in let s = c.args.turn.now.session in
    let may : MayBegin (shown c.self.inside.journal c.self.inside.roster.settings c.self.inside.outboxes.boxes
    c.self.inside.plan c.self.inside.busy) c.args.turn.now c.args.moment = subst
    (λ m. MayBegin m c.args.turn.now c.args.moment) (sym c.self.view_is) c.requires.may in
    let few = may.turn.opened in
    let many = c.self.invariant.kept.sound.sessions in
    let places = c.self.invariant.kept.places in let to : s ≤ length a.seats = omega arith in
    let open_ : (seat_at a.seats s).shut ≡ false = (c.self.invariant.kept.each_seat s may.turn.from_1 to).shut
    ∙ may.not_shut in
    subst (λ (t : ℕ). (seat_at a.seats t).shut ≡ false) (sym (ap (λ (b : Turn). b.session) c.turn.view_is)) open_
