use Rattle.std.proofs.Common.{Err, ◌∙◌}
use Rattle.std.proofs.lemmas.List.Sorted.{searched}
use Rattle.ledger.proofs.Listed.{placed_at}
use Rattle.ledger.proofs.seats.add_in_order.Goals as goal

pub returns-in-Ok-clause-added : goal.returns-in-Ok-clause-added
returns-in-Ok-clause-added c =
    let xs = c.args.numbers.now.items in
    let at = searched xs c.args.number (Err c.in-Err.place) c.in-Err.ensures.position c.requires.order in
    c.in-Ok.ensures.items ∙ placed_at xs c.args.number c.in-Err.place at.0 at.1 at.2
