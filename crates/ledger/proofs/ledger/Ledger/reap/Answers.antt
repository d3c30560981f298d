use Rattle.std.proofs.Common.{arith, ◌≤◌, length, sym, ◌∙◌, subst, refl, ◌-◌, slice_set, nat_eq, None}
use Rattle.ledger.specs.Ledger.{MayReap}
use Rattle.ledger.proofs.KeptSteps.{shown, reaped_kept}
use Rattle.std.specs.Map.{remove_entry}
use Rattle.ledger.proofs.LastActivity.{since_as, since_reaped}
use Rattle.ledger.proofs.Based.{based_as, based_reaped, forgets_still}
use Rattle.ledger.proofs.ledger.Ledger.reap.Goals as goal

pub invariant_of-self : goal.invariant_of-self
invariant_of-self over c =
    let a = c.self.inside in let s = c.turn.inside.session in
    let may : MayReap (shown a.journal a.roster.settings a.outboxes.boxes a.plan a.busy) s = subst
    (λ m. MayReap m s) (sym c.self.view_is) c.in-Ok.ensures.ok in
    let few = may.known.opened in
    let many = c.self.invariant.kept.sound.sessions in let to : s ≤ length a.outboxes.boxes = omega arith in
    record {
      kept =
          reaped_kept over.O.Outbox.sent a.journal a.roster.settings a.roster.facts a.seats c.give_up.new.self
          a.outboxes.boxes c.give_up-count.new.self.boxes a.plan a.busy s c.self.invariant.kept
          may.known.from_1 to may.gone
          c.give_up.ensures c.give_up-count.ensures.given;
      based = (let was = a.outboxes.boxes in let h = a.journal.history in let n = a.journal.limit.dropped in
          let g = a.roster.settings in let new = slice_set was (s - 1) None in
          let kept = c.forget_counts.new.base in
          based_as kept h h n n g g new c.give_up-count.new.self.boxes
          (based_reaped a.base kept h n g was s c.self.invariant.based c.forget_counts.ensures may.known.from_1 to)
          refl refl refl c.give_up-count.ensures.given);
      cut = forgets_still a.base c.forget_counts.new.base s c.forget_counts.ensures ∙ c.self.invariant.cut;
      since = (let was = a.outboxes.boxes in let h = a.journal.history in let new = slice_set was (s - 1) None in
          since_as (remove_entry (nat_eq s) a.last_heard) c.forget.new.self h h new c.give_up-count.new.self.boxes
          (since_reaped a.last_heard h was s c.self.invariant.since c.forget.ensures.once may.known.from_1 to)
          c.forget.ensures.rest refl c.give_up-count.ensures.given);
    }

pub give_up-requires-clause-seated : goal.give_up-requires-clause-seated
give_up-requires-clause-seated over c =
    let a = c.self.inside in let s = c.turn.inside.session in
    let may : MayReap (shown a.journal a.roster.settings a.outboxes.boxes a.plan a.busy) s = subst
    (λ m. MayReap m s) (sym c.self.view_is) c.in-Ok.ensures.ok in
    let few = may.known.opened in
    let many = c.self.invariant.kept.sound.sessions in
    let places = c.self.invariant.kept.places in record { from_1 = may.known.from_1; opened = (omega arith) }

pub give_up-requires-clause-gone : goal.give_up-requires-clause-gone
give_up-requires-clause-gone over c =
    let a = c.self.inside in let s = c.turn.inside.session in
    let may : MayReap (shown a.journal a.roster.settings a.outboxes.boxes a.plan a.busy) s = subst
    (λ m. MayReap m s) (sym c.self.view_is) c.in-Ok.ensures.ok in
    let few = may.known.opened in
    let many = c.self.invariant.kept.sound.sessions in
    let places = c.self.invariant.kept.places in let to : s ≤ length a.seats = omega arith in
    (c.self.invariant.kept.each_seat s may.known.from_1 to).gone ∙ may.gone

pub give_up-count-requires-clause-there : goal.give_up-count-requires-clause-there
give_up-count-requires-clause-there over c =
    let a = c.self.inside in let s = c.turn.inside.session in
    let may : MayReap (shown a.journal a.roster.settings a.outboxes.boxes a.plan a.busy) s = subst
    (λ m. MayReap m s) (sym c.self.view_is) c.in-Ok.ensures.ok in
    let few = may.known.opened in
    let many = c.self.invariant.kept.sound.sessions in
    record { from_1 = may.known.from_1; opened = (omega arith); here = may.known.here }
