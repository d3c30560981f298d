use Rattle.hall_tests.proofs.threads.four_threads.Given as goal

-- the register that was just made
abbrev pub ghosts-meet_in : goal.ghosts-meet_in
ghosts-meet_in g a = record { table = a.register.table }
