use Rattle.std.proofs.Common.{Some}
use Rattle.register.specs.Rows.{new_row}
use Rattle.register.proofs.register.Register.admit.Given as goal

abbrev pub ghosts-let_in : goal.ghosts-let_in
ghosts-let_in g a = record { entry = Some (new_row a.session (g.O.Outbox.name a.outbox.now)) }
