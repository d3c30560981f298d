use Rattle.delivery_tests.proofs.items.a_gauge_tells_which_items_wait.Given as goal

-- the register that was just made
abbrev pub ghosts-is_gauged : goal.ghosts-is_gauged
ghosts-is_gauged g a = record { table = a.register.table }
