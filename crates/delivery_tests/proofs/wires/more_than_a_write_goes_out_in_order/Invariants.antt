use Rattle.delivery_tests.proofs.wires.more_than_a_write_goes_out_in_order.Given as goal

-- the register that was just made
abbrev pub ghosts-goes_out : goal.ghosts-goes_out
ghosts-goes_out g a = record { table = a.register.table }
