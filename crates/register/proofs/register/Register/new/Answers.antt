use Rattle.register.proofs.Moves.{begins}
use Rattle.register.proofs.register.Register.new.Goals as goal

pub of_words-requires : goal.of_words-requires
of_words-requires g c = begins
