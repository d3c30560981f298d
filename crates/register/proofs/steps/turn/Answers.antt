use Rattle.std.proofs.Common.{◌<◌, ap, ◌∙◌, arith}
use Rattle.register.proofs.Moves.{takes, looks, advances_as, with_mark_in}
use Rattle.register.proofs.steps.turn.Goals as goal

pub join_seat-requires : goal.join_seat-requires
join_seat-requires g c = (
  c.requires.table.0,
  c.requires.table.1,
  ap (λ m. m.1) c.requires.mark,
  omega (arith, c.requires.table.2),
  takes _ _ _ _,
)

pub load-requires : goal.load-requires
load-requires g c = (c.join_seat.ensures.0 ∙ c.requires.table.0, omega (arith, c.requires.table.2), looks _ _ _)

pub split_seat-requires : goal.split_seat-requires
split_seat-requires g c =
    let own = c.load.ensures.2.1 ∙ c.join_seat.ensures.2 in
    let in_both = ap (λ m. m.0) own ∙ with_mark_in _ _ _ _ (ap (λ m. m.0) c.requires.own)
    (ap (λ m. m.0) c.requires.mark) in (
      c.load.ensures.0 ∙ c.join_seat.ensures.0 ∙ c.requires.table.0,
      omega (arith, c.requires.table.2),
      advances_as _ _ _ _ _ _ in_both c.requires.piece,
    )
