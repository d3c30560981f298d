use Rattle.std.proofs.Common.{arith, ◌≡◌, ap, ◌∙◌, sym, subst}
use Rattle.registration.specs.declared.settings.Settings.{Settings}
use Rattle.chronicle.specs.History.{sessions}
use Rattle.ledger.specs.Ledger.{is_here}
use Rattle.ledger.specs.Noted.{is_noted, AreCounts}
use Rattle.ledger.proofs.Noting.{has_seat, are_counts, counted_here, counted_there}
use Rattle.ledger.proofs.ledger.Ledger.note_base.Goals as goal

pub counts-requires : goal.counts-requires
counts-requires over c =
    let a = c.self.inside in
    record {
      seated = has_seat over.O.Outbox.sent a.journal a.roster.settings a.roster.facts a.seats
          a.outboxes.boxes a.plan a.busy c.self.invariant.kept;
      heard = c.self.invariant.since.all;
    }

pub new-requires-clause-counts : goal.new-requires-clause-counts
new-requires-clause-counts over c =
    let a = c.self.inside in
    let cs = c.in_ok-counts.counts.entries in let idle = ap (λ m. m.busy) c.self.view_is ∙ c.requires.idle in
    subst (λ (g : Settings). AreCounts g a.journal.history cs) (sym (ap (λ r. r.settings) c.in_ok-roster.ensures))
    (are_counts over.O.Outbox.sent a.seats a.outboxes.boxes a.last_heard cs c.in_ok-counts.ensures a.journal
    a.roster.settings a.roster.facts a.plan a.busy c.self.invariant.kept idle c.self.invariant.since)

pub returns-clause-noted : goal.returns-clause-noted
returns-clause-noted over c =
    let a = c.self.inside in
    let m = c.args.self.now in
    let cs = c.in_ok-counts.counts.entries in let many = c.self.invariant.kept.sound.sessions in
    let same : sessions a.journal.history ≡ sessions m.history = ap (λ k. sessions k.history) c.self.view_is in
    λ t from to. ap (λ b. is_noted b t) c.new.ensures ∙ counted_here over.O.Outbox.sent a.seats a.outboxes.boxes
    a.last_heard cs c.in_ok-counts.ensures t from (omega arith) ∙ ap (λ k. is_here k.outboxes t) c.self.view_is

pub returns-clause-opened : goal.returns-clause-opened
returns-clause-opened over c =
    let a = c.self.inside in
    let m = c.args.self.now in
    let cs = c.in_ok-counts.counts.entries in let many = c.self.invariant.kept.sound.sessions in
    let same : sessions a.journal.history ≡ sessions m.history = ap (λ k. sessions k.history) c.self.view_is in
    λ t is. let there = counted_there over.O.Outbox.sent a.seats a.outboxes.boxes a.last_heard cs
    c.in_ok-counts.ensures t (sym (ap (λ b. is_noted b t) c.new.ensures) ∙ is) in
    let from = there.from_1 in let to = there.opened in (from, (omega arith))
