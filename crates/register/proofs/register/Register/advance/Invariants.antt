use Rattle.std.proofs.Common.{Some}
use Rattle.register.proofs.register.Register.advance.Given as goal

abbrev pub ghosts-turn : goal.ghosts-turn
ghosts-turn g a = record { piece = Some a.piece.now }
