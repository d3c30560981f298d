use Rattle.scripts.proofs.entry.play.Given as goal

-- the register that was just made
abbrev pub ghosts-play_named : goal.ghosts-play_named
ghosts-play_named g a = record { table = a.register.table }
