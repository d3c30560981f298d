use Rattle.play_tests.proofs.books.stays_busy_once.Given as goal

-- the register that was just made
abbrev pub ghosts-stays_busy : goal.ghosts-stays_busy
ghosts-stays_busy a = record { table = a.register.table }
