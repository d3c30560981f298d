use Rattle.std.proofs.Common.{◌<◌, ap, ◌∙◌, arith}
use Rattle.register.proofs.Moves.{admits_as, gives_stub}
use Rattle.register.proofs.steps.let_in.Goals as goal

pub split_seat-mark-requires : goal.split_seat-mark-requires
split_seat-mark-requires g c = (
  c.requires.table.0,
  omega (arith, c.requires.table.1),
  admits_as _ _ _ _ _ (ap (λ m. m.0) c.requires.own) c.requires.entry c.requires.new,
)

pub split_seat-stub-requires : goal.split_seat-stub-requires
split_seat-stub-requires g c = (
  c.split_seat-mark.ensures.0 ∙ c.requires.table.0,
  omega (arith, c.requires.table.1),
  gives_stub _ _,
)
