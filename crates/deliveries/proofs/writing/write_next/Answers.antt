use Rattle.std.proofs.Common.{rules}
use Rattle.deliveries.proofs.Written.{then_next}
use Rattle.deliveries.proofs.writing.write_next.Goals as goal

pub returns-clause-front : goal.returns-clause-front
returns-clause-front g c = λ start text before. then_next start _ _ text _ _ _
    (search rules) before c.write_all_of-more.ensures
