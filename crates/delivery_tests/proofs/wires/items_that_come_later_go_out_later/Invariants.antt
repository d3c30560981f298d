use Rattle.delivery_tests.proofs.wires.items_that_come_later_go_out_later.Given as goal

-- the register that was just made
abbrev pub ghosts-goes_on : goal.ghosts-goes_on
ghosts-goes_on g a = record { table = a.register.table }
