use Rattle.std.proofs.Common.{arith, ◌≡◌, ℕ, ℤ, ◌+◌, ◌<◌, ◌≤◌, ◌∷◌, [], false, true, length, List}
use Rattle.std.proofs.Common.{is_some, slice_index_or, refl, ap, sym, ◌∙◌, subst}
use Rattle.std.proofs.lemmas.Grind.{common_steps}
use Rattle.chronicle.specs.declared.record.Kind.TheVariants.{Ticked}
use Rattle.chronicle.specs.Journal.{fresh_record}
use Rattle.ledger.specs.Ledger.{MayTick, HasRoom, plan_of, after_begin, kept_total}
use Rattle.ledger.specs.LastHeard.{since_at, is_due, who_pass, with_pings}
use Rattle.ledger.specs.Seats.{pinged_text, planned_with}
use Rattle.ledger.proofs.Begins.{begun_is}
use Rattle.ledger.proofs.Based.{based_as, based_record}
use Rattle.ledger.proofs.Due.{picked_here}
use Rattle.ledger.proofs.LastActivity.{since_as}
use Rattle.ledger.proofs.KeptSteps.{shown}
use Rattle.ledger.proofs.Pinging.{tick_plan, tick_kept, since_after}
use Rattle.ledger.proofs.ledger.Ledger.ping_all.Given as given
use Rattle.ledger.proofs.ledger.Ledger.ping_all.Goals as goal

pub ping_each-requires : goal.ping_each-requires
ping_each-requires over c =
    let a = c.self.inside in let f = is_due a.seats c.args.moment in
    subst (λ (ns : List ℕ). (i : ℕ) → i < length ns → is_some (since_at a.last_heard (slice_index_or ns i 0))
    ≡ true) (sym (c.deref-2.ensures.value ∙ c.in_ok-due.ensures.due))
    (λ i l. picked_here f a.last_heard i c.in_ok-due.ensures.once l)

-- the record that was appended, and the plan of its deliveries
history : (over : given.Over) (c : goal.After-drop-due-2 over) → c.append.new.self.history
    ≡ fresh_record c.self.inside.journal.history c.args.moment Ticked ∷ c.self.inside.journal.history
history over c = c.append.ensures.appended.history ∙ ap
    (λ h. fresh_record h c.args.moment Ticked ∷ h) c.in_ok-reserve.ensures.same.history

limit : (over : given.Over) (c : goal.After-drop-due-2 over) → c.append.new.self.limit ≡ c.self.inside.journal.limit
limit over c = c.append.ensures.appended.limit ∙ c.in_ok-reserve.ensures.same.limit

plan : (over : given.Over) (c : goal.After-drop-due-2 over)
    → c.in_ok-plan.plan ≡ plan_of c.self.inside.roster.settings c.self.inside.journal.history Ticked c.args.moment
    (length c.self.inside.outboxes.boxes)
plan over c =
    let a = c.self.inside in
    let n = c.new-number.result in let g = a.roster.settings in let fs = a.roster.facts in let m = c.args.moment in
    let number : n ≡ length a.journal.history + 1 = grind (arith, common_steps) in
    c.in_ok-plan.ensures.plan ∙ ap (λ (k : ℤ). planned_with a.seats c.new-nobody.result n []
    (pinged_text g fs k c.deref.result.now) false) c.moment_of_record.ensures
    ∙ ap (λ (s : ℕ). planned_with a.seats s n [] (pinged_text g fs m c.deref.result.now) false) c.new-nobody.ensures
    ∙ ap (λ (ts : List ℕ). planned_with a.seats 0 n [] (pinged_text g fs m ts) false)
    (c.deref.ensures.value ∙ c.in_ok-due.ensures.due)
    ∙ tick_plan over.O.Outbox.sent a.journal g fs a.seats a.outboxes.boxes a.plan a.busy c.self.invariant.kept
    a.last_heard c.self.invariant.since c.in_ok-due.ensures.once m n number

pub invariant_of-self-2 : goal.invariant_of-self-2
invariant_of-self-2 over c =
    let a = c.self.inside in
    let g = a.roster.settings in
    let h = a.journal.history in
    let m = c.args.moment in let r = fresh_record h m Ticked in let was = a.outboxes.boxes in
    let before = shown a.journal g was a.plan a.busy in
    let may : MayTick before m = subst (λ k. MayTick k m) (sym c.self.view_is) c.requires.may in
    let has : HasRoom before = subst (λ k. HasRoom k) (sym c.self.view_is) c.requires.room in
    let room : length c.in_ok-plan.plan ≤ c.append.new.self.left = grind (arith, common_steps) in
    let kept : c.reserve_count-room.result ≡ kept_total h = c.reserve_count-room.ensures.kept ∙ ap
    (λ k. kept_total k.history) (sym c.self.view_is) in
    let ok = c.in_ok-reserve.ensures.ok in let more = c.append.ensures.appended.room in
    let free : kept_total h ≤ c.append.new.self.room = grind (arith, common_steps) in
    record {
      kept = tick_kept over.O.Outbox.sent a.journal g a.roster.facts a.seats was a.plan a.busy c.self.invariant.kept
          a.last_heard c.self.invariant.since c.in_ok-due.ensures.once c.append.new.self c.in_ok-plan.plan m
          may has (plan over c) (history over c) (limit over c) room free;
      based = (let n = a.journal.limit.dropped in
          based_as a.base (r ∷ h) c.append.new.self.history n c.append.new.self.limit.dropped g g was was
          (based_record a.base h r n g was c.self.invariant.based) (history over c)
          (ap (λ l. l.dropped) (limit over c)) refl refl);
      cut = c.self.invariant.cut ∙ sym (ap (λ l. l.is_cut) (limit over c));
      since = since_as (with_pings a.last_heard (who_pass (is_due a.seats m) a.last_heard)) c.ping_each.new.self
          c.append.new.self.history c.append.new.self.history was was
          (since_after over.O.Outbox.sent a.journal g a.roster.facts a.seats was a.plan a.busy c.self.invariant.kept
          a.last_heard c.self.invariant.since c.in_ok-due.ensures.once c.append.new.self m may (history over c))
          (c.ping_each.ensures ∙ ap (λ (ts : List ℕ). with_pings a.last_heard ts)
          (c.deref-2.ensures.value ∙ c.in_ok-due.ensures.due)) refl refl;
    }

pub returns-clause-ok : goal.returns-clause-ok
returns-clause-ok over c =
    let a = c.self.inside in
    begun_is a.journal c.append.new.self a.roster.settings a.outboxes.boxes a.plan c.in_ok-plan.plan a.busy Ticked
    c.args.moment (history over c) (limit over c) (plan over c)
    ∙ ap (λ m. after_begin m Ticked c.args.moment) c.self.view_is
