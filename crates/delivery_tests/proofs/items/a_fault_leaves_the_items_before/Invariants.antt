use Rattle.delivery_tests.proofs.items.a_fault_leaves_the_items_before.Given as goal

-- the register that was just made
abbrev pub ghosts-is_full_at : goal.ghosts-is_full_at
ghosts-is_full_at g a = record { table = a.register.table }
