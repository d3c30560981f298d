use Rattle.std.proofs.Common.{◌<◌, arith}
use Rattle.register.proofs.Moves.{blanks}
use Rattle.register.proofs.steps.blank.Goals as goal

pub split_seat-requires : goal.split_seat-requires
split_seat-requires g c = (c.requires.table.0, omega (arith, c.requires.table.1), blanks _ _)
