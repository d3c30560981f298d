use Rattle.std.proofs.Common.{◌≡◌, ◌<◌, ◌≤◌, ◌↔◌, false, IsTrue, sym, ◌∙◌, subst}
use Rattle.chronicle.specs.History.{sessions, shut}
use Rattle.ledger.proofs.Listening.{open_is}
use Rattle.ledger.proofs.ledger.Ledger.is_open.Goals as goal

pub returns : goal.returns
returns over c =
    let a = c.self.inside in let i = c.self.invariant.kept in let s = c.args.session in
    subst (λ m. IsTrue c.is_listening.result ↔ ((0 < s) × (s ≤ sessions m.history) × (shut m.history s ≡ false)))
    c.self.view_is
    (subst (λ b. IsTrue b ↔ ((0 < s) × (s ≤ sessions a.journal.history) × (shut a.journal.history s ≡ false)))
    (sym c.is_listening.ensures)
    (open_is a.journal.history a.seats a.outboxes.boxes s i.each_seat (i.places ∙ sym i.sound.sessions)))
