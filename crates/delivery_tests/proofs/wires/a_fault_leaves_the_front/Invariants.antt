use Rattle.delivery_tests.proofs.wires.a_fault_leaves_the_front.Given as goal

-- the register that was just made
abbrev pub ghosts-is_front_at : goal.ghosts-is_front_at
ghosts-is_front_at g a = record { table = a.register.table }
