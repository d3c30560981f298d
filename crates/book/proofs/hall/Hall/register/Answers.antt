use Rattle.std.proofs.Common.{◌≡◌, ℕ, ◌<◌, ◌≤◌, Some, subst}
use Rattle.chronicle.specs.History.{sessions, accepted}
use Rattle.register.specs.Rows.{pieces_at}
use Rattle.ledger.specs.Ledger.{Shown}
use Rattle.book.proofs.Ties.{idle_pieces}
use Rattle.book.proofs.hall.Hall.register.Goals as goal

pub returns-clause-pieces : goal.returns-clause-pieces
returns-clause-pieces g c =
    let rows = c.register.result.now.rows in
    subst (λ (m : Shown g.row.O.Denot). (t : ℕ) → 0 < t → t ≤ sessions m.history
    → pieces_at rows t ≡ Some (accepted m.history t)) c.self.view_is
    (λ t from to. idle_pieces g.O.Outbox.name c.self.inside.book rows t c.self.invariant c.register.ensures.tied from
    to)
