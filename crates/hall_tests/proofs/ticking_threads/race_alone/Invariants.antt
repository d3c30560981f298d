use Rattle.hall_tests.proofs.ticking_threads.race_alone.Given as goal

-- the register that was just made
abbrev pub ghosts-race_in : goal.ghosts-race_in
ghosts-race_in g a = record { table = a.register.table }
