use Rattle.delivery_tests.proofs.wires.a_gauge_tells_what_waits.Given as goal

-- the register that was just made
abbrev pub ghosts-is_gauged : goal.ghosts-is_gauged
ghosts-is_gauged g a = record { table = a.register.table }
