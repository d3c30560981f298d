use Rattle.std.proofs.Common.{sym, ap, ◌∙◌}
use Rattle.ledger.specs.Ledger.{to_sweep}
use Rattle.ledger.proofs.Sweeps.{seats_sweep}
use Rattle.ledger.proofs.ledger.Ledger.next_to_sweep.Goals as goal

pub returns : goal.returns
returns over c =
    let a = c.self.inside in let i = c.self.invariant.kept in
    c.next_to_sweep.ensures ∙ seats_sweep a.journal.history a.seats a.outboxes.boxes i.each_seat
    (i.places ∙ sym i.sound.sessions) ∙ ap (λ m. to_sweep m.history) c.self.view_is
