use Rattle.delivery_tests.proofs.wires.all_that_waits_goes_out_in_one_write.Given as goal

-- the register that was just made
abbrev pub ghosts-writes_for : goal.ghosts-writes_for
ghosts-writes_for g a = record { table = a.register.table }
