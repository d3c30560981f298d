use Rattle.std.proofs.Common.{arith, ◌≡◌, ◌+◌, ◌≤◌, ◌<◌, ◌∷◌, [], ◌++◌, Some, List}
use Rattle.std.proofs.Common.{false, length, sym, ap, ◌∙◌, subst}
use Rattle.std.proofs.lemmas.Grind.{common_steps}
use Rattle.chronicle.specs.declared.record.Kind.TheVariants.{Opened}
use Rattle.chronicle.specs.Journal.{most, fresh_record}
use Rattle.registration.specs.declared.settings.Settings.{Settings}
use Rattle.roster.specs.declared.deed.Deed.{Deed}
use Rattle.roster.specs.declared.deed.Deed.TheVariants as deed
use Rattle.ledger.specs.Seats.{no_seat}
use Rattle.ledger.specs.Kept.{IsKept}
use Rattle.ledger.specs.Ledger.{MayOpen, kept_total}
use Rattle.ledger.proofs.Opened.{sessions_le, seats_held}
use Rattle.ledger.proofs.KeptSteps.{shown, opened_kept}
use Rattle.ledger.specs.declared.last_heard.Since.{Since}
use Rattle.ledger.proofs.LastActivity.{since_as, since_opened, since_next}
use Rattle.ledger.proofs.Based.{based_as, based_boxes, based_record, opened_many, opened_still}
use Rattle.ledger.proofs.ledger.Ledger.open.Goals as goal

pub invariant_of-self-2 : goal.invariant_of-self-2
invariant_of-self-2 over c =
    let a = c.self.inside in
    let may : MayOpen (shown a.journal a.roster.settings a.outboxes.boxes a.plan a.busy) c.args.moment = subst
    (λ m. MayOpen m c.args.moment) (sym c.self.view_is) (c.in-Ok.ensures.ok) in
    let session : c.new-session.result ≡ length a.seats + 1 = grind (arith, common_steps) in
    let told : c.in-Ok-clone.told ≡ c.args.host = grind (arith, common_steps) in
    let same = c.reserve.ensures.same in let app = c.append.ensures.appended in
    let history : c.append.new.self.history ≡ fresh_record a.journal.history c.args.moment
    (Opened c.new-session.result c.in-Ok-clone.told) ∷ a.journal.history =
    app.history ∙ ap (λ h. fresh_record h c.args.moment (Opened c.new-session.result c.in-Ok-clone.told) ∷ h)
    same.history in
    let limit : c.append.new.self.limit ≡ a.journal.limit = app.limit ∙ same.limit in
    let kept : c.reserve_count-room.result ≡ kept_total a.journal.history = c.reserve_count-room.ensures.kept ∙ ap
    (λ m. kept_total m.history) (sym c.self.view_is) in
    let free : kept_total a.journal.history + 2 ≤ c.append.new.self.room = let ok = c.reserve.ensures.ok in
    let more = app.room in grind (arith, common_steps) in
    let known : c.apply.new.self.facts
    ≡ deed.Opened c.new-session.result c.args.host ∷ a.roster.facts = c.apply.ensures.facts ∙ ap
    (λ (fs : List Deed). deed.Opened c.new-session.result c.args.host ∷ fs) c.prepare.ensures.facts in
    let settings : c.apply.new.self.settings ≡ a.roster.settings = c.apply.ensures.settings
    ∙ c.prepare.ensures.settings in
    let boxes : c.open-3.new.self.boxes ≡ a.outboxes.boxes ++ Some c.args.outbox ∷ [] = c.open-3.ensures ∙ ap
    (λ xs. xs ++ Some c.args.outbox ∷ []) c.make_room.ensures.same in
    let heard : c.open.new.self ≡ (c.new-session.result, record { moment = c.args.moment; pinged = false })
    ∷ a.last_heard = let ok = c.open.ensures.ok in grind (arith, common_steps) in
    let seats : c.open-2.new.self ≡ a.seats ++ no_seat ∷ [] = let ok = c.open-2.ensures.ok in
    grind (arith, common_steps) in
    record {
      kept =
          subst (λ (g : Settings). IsKept over.O.Outbox.sent c.append.new.self g c.apply.new.self.facts
          c.open-2.new.self c.open-3.new.self.boxes a.plan a.busy) (sym settings)
          (opened_kept over.O.Outbox.sent a.journal c.append.new.self a.roster.settings a.roster.facts
          c.apply.new.self.facts a.seats c.open-2.new.self
          a.outboxes.boxes c.open-3.new.self.boxes a.plan a.busy c.args.host c.in-Ok-clone.told c.args.moment
          c.new-session.result c.args.outbox c.self.invariant.kept may c.requires.fresh session told history
          limit free known seats boxes);
      based = (let h = a.journal.history in
          let r = fresh_record h c.args.moment (Opened c.new-session.result c.in-Ok-clone.told) in
          let n = a.journal.limit.dropped in let g = a.roster.settings in let was = a.outboxes.boxes in
          based_as a.base (r ∷ h) c.append.new.self.history n c.append.new.self.limit.dropped g
          c.apply.new.self.settings (was ++ Some c.args.outbox ∷ []) c.open-3.new.self.boxes
          (based_boxes a.base (r ∷ h) n g was (was ++ Some c.args.outbox ∷ [])
          (based_record a.base h r n g was c.self.invariant.based) (opened_many was c.args.outbox)
          (opened_still was c.args.outbox)) history (ap (λ l. l.dropped) limit) settings boxes);
      cut = c.self.invariant.cut ∙ sym (ap (λ l. l.is_cut) limit);
      since = (let h = a.journal.history in let s = c.new-session.result in let was = a.outboxes.boxes in
          let x : Since = record { moment = c.args.moment; pinged = false } in
          since_as ((s, x) ∷ a.last_heard) c.open.new.self
          (fresh_record h c.args.moment (Opened s c.in-Ok-clone.told) ∷ h) c.append.new.self.history
          (was ++ Some c.args.outbox ∷ []) c.open-3.new.self.boxes
          (since_opened a.last_heard h s c.in-Ok-clone.told c.args.moment was c.args.outbox c.self.invariant.since
          (let n = c.self.invariant.kept.places in omega arith) may.in_time.not_earlier) heard history boxes);
    }

pub overflow_add-opened_count : goal.overflow_add-opened_count
overflow_add-opened_count over c =
    let a = c.self.inside in
    let limit : most a.journal.limit < 18446744073709551616 = subst
    (λ m. most m.limit < 18446744073709551616) (sym c.self.view_is) c.in-Ok.ensures.fits in
    let few = sessions_le a.journal.history in
    let room = c.self.invariant.kept.sound.room in
    let many = c.self.invariant.kept.sound.sessions in let places = c.self.invariant.kept.places in
    let may : MayOpen (shown a.journal a.roster.settings a.outboxes.boxes a.plan a.busy) c.args.moment = subst
    (λ m. MayOpen m c.args.moment) (sym c.self.view_is) (c.in-Ok.ensures.ok) in
    let more = may.room in let is = c.opened_count.ensures in omega arith

pub open-requires-2-clause-next : goal.open-requires-2-clause-next
open-requires-2-clause-next over c = let session : c.new-session.result
    ≡ length c.self.inside.seats + 1 = grind (arith, common_steps) in session

pub open-requires-2-clause-held : goal.open-requires-2-clause-held
open-requires-2-clause-held over c =
    let a = c.self.inside in
    let i = c.self.invariant.kept in
    let limit : most a.journal.limit < 18446744073709551616 = subst
    (λ m. most m.limit < 18446744073709551616) (sym c.self.view_is) c.in-Ok.ensures.fits in
    let may : MayOpen (shown a.journal a.roster.settings a.outboxes.boxes a.plan a.busy) c.args.moment = subst
    (λ m. MayOpen m c.args.moment) (sym c.self.view_is) (c.in-Ok.ensures.ok) in
    let more = may.room in
    let all = seats_held a.journal.history a.seats a.outboxes.boxes i.each_seat (i.sound.sessions ∙ sym i.places) in
    omega arith

pub open-requires-3-clause-next : goal.open-requires-3-clause-next
open-requires-3-clause-next over c =
    let a = c.self.inside in let session : c.new-session.result ≡ length a.seats + 1 = grind (arith, common_steps) in
    let places = c.self.invariant.kept.places in
    let same : length c.make_room.new.self.boxes ≡ length a.outboxes.boxes = ap length c.make_room.ensures.same in
    omega arith

-- nobody of the next number was heard of yet
pub open-requires : goal.open-requires
open-requires over c =
    let a = c.self.inside in let session : c.new-session.result ≡ length a.seats + 1 = grind (arith, common_steps) in
    let places = c.self.invariant.kept.places in
    let past : length a.outboxes.boxes < c.new-session.result = omega arith in
    since_next a.last_heard a.journal.history a.outboxes.boxes c.new-session.result c.self.invariant.since past
