use Rattle.chronicle.specs.declared.record.Kind.TheVariants.{Hung}
use Rattle.book.proofs.Outcomes.{on_ok}
use Rattle.book.proofs.ring_book.Book+L+Ring.hang_ring.Goals as goal

pub returns-clause-ok : goal.returns-clause-ok
returns-clause-ok g c = on_ok c.hang.result (c.rings_take_each_record.ensures c.args.self.now c.hang.new.self
    (Hung c.args.session c.args.why) c.args.moment) c.hang.ensures.outcome.ok
