use Rattle.crew_tests.proofs.trial.play_once.Given as goal

-- the register that was just made
abbrev pub ghosts-play_in : goal.ghosts-play_in
ghosts-play_in g a = record { table = a.register.table }
