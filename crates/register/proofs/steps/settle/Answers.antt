use Rattle.std.proofs.Common.{◌<◌, ap, ◌∙◌, arith}
use Rattle.register.proofs.Moves.{takes, clears}
use Rattle.register.proofs.steps.settle.Goals as goal

pub join_seat-requires : goal.join_seat-requires
join_seat-requires g c = (
  c.requires.table.0,
  c.requires.table.1,
  ap (λ m. m.1) c.requires.mark,
  omega (arith, c.requires.table.3),
  takes _ _ _ _,
)

pub join_seat-requires-2 : goal.join_seat-requires-2
join_seat-requires-2 g c = (
  c.join_seat.ensures.0 ∙ c.requires.table.0,
  c.requires.table.2,
  ap
      (λ m. m.1) c.requires.stub.0,
  omega (arith, c.requires.table.3),
  takes _ _ _ _,
)

pub load-requires : goal.load-requires
load-requires g c = (
  c.join_seat-2.ensures.0 ∙ c.join_seat.ensures.0 ∙ c.requires.table.0,
  omega (arith, c.requires.table.3),
  clears _ _ _,
)
