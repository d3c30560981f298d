use Rattle.hall_tests.proofs.making.play.Given as goal

-- the register that was just made
abbrev pub ghosts-played_in : goal.ghosts-played_in
ghosts-played_in g a = record { table = a.register.table }
