use Rattle.play_tests.proofs.plays.tell_once.Given as goal

-- the register that was just made
abbrev pub ghosts-tell_in : goal.ghosts-tell_in
ghosts-tell_in a = record { table = a.register.table }
