use Rattle.std.proofs.Common.{sym}
use Rattle.ledger.proofs.Mapped.{seats_many}
use Rattle.ledger.proofs.seats.Seats.opened_count.Goals as goal

pub returns : goal.returns
returns c = sym (seats_many c.self.inside.seats.entries c.self.inside.opened c.args.self.now c.self.view_is)
