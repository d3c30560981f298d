use Rattle.ledger.proofs.Mapped.{place_hashed}
use Rattle.ledger.proofs.entry_places.place_by_number.Goals as goal

pub returns-clause-there : goal.returns-clause-there
returns-clause-there g c =
    let e = c.in_ok-place.ensures in
    place_hashed c.args.map.now.entries c.args.session c.number.result c.in_ok-place.place
    c.in_ok-place.field-0-1.now c.in_ok-place.field-0-2.now c.number.ensures e.entry e.value e.key
