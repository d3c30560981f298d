use Rattle.delivery_tests.proofs.items.items_are_put_one_by_one.Given as goal

-- the register that was just made
abbrev pub ghosts-is_put : goal.ghosts-is_put
ghosts-is_put g a = record { table = a.register.table }
