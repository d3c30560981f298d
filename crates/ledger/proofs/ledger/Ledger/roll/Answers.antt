use Rattle.std.proofs.Common.{arith, ◌≡◌, ℕ, ◌<◌, ◌≤◌, true, length, refl, ap, ◌∙◌, sym, subst}
use Rattle.chronicle.specs.History.{sessions}
use Rattle.chronicle.specs.Journal.{Limit}
use Rattle.chronicle.proofs.Most.{most_low}
use Rattle.ledger.specs.Ledger.{is_here, after_roll}
use Rattle.ledger.specs.Noted.{is_noted}
use Rattle.ledger.proofs.LastActivity.{since_as}
use Rattle.ledger.proofs.Rolling.{cut_kept, cut_based, shown_cut}
use Rattle.ledger.proofs.ledger.Ledger.roll.Goals as goal

pub overflow_add-newest : goal.overflow_add-newest
overflow_add-newest over c =
    let j = c.self.inside.journal in
    let room = c.self.invariant.kept.sound.room in
    let low = most_low j.limit.is_cut j.limit.records j.limit.dropped in let is = c.newest.ensures in omega arith

pub invariant_of-self : goal.invariant_of-self
invariant_of-self over c =
    let a = c.self.inside in
    let j = a.journal in
    let i = c.self.invariant.kept in
    let len = c.len-dropped.ensures in let few : j.limit.dropped ≤ length j.history = omega arith in
    let base = c.in_ok-base.ensures in
    record {
      kept = cut_kept over.O.Outbox.sent j c.cut.new.self a.roster.settings a.roster.facts a.seats a.outboxes.boxes
          a.plan a.busy i c.if-self.false few c.cut.ensures;
      based = cut_based j c.cut.new.self a.roster.settings a.outboxes.boxes c.in_ok-base.base c.cut.ensures
          (base.front.0 ∙ sym (ap (λ m. m.history) c.self.view_is))
          (base.front.1 ∙ sym (ap (λ m. m.settings) c.self.view_is)) i.sound.sessions
          (subst (λ m. (t : ℕ) → 0 < t → t ≤ sessions m.history → is_noted c.in_ok-base.base t
          ≡ is_here m.outboxes t) (sym c.self.view_is) base.noted)
          (subst (λ m. (t : ℕ) → is_noted c.in_ok-base.base t ≡ true → (0 < t) × (t ≤ sessions m.history))
          (sym c.self.view_is) base.opened);
      cut = sym (ap (λ (l : Limit). l.is_cut) c.cut.ensures.limit);
      since = since_as a.last_heard a.last_heard j.history c.cut.new.self.history a.outboxes.boxes a.outboxes.boxes
          c.self.invariant.since refl c.cut.ensures.history refl;
    }

pub returns-clause-ok : goal.returns-clause-ok
returns-clause-ok over c =
    let a = c.self.inside in
    shown_cut a.journal c.cut.new.self a.roster.settings a.outboxes.boxes a.plan a.busy c.cut.ensures ∙ ap
    (λ m. after_roll m) c.self.view_is
