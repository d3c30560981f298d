use Rattle.serving.proofs.serve.serve_with.Given as goal

-- the register that was just made
abbrev pub ghosts-serve_named : goal.ghosts-serve_named
ghosts-serve_named g a = record { table = a.register.table }
