use Rattle.std.proofs.Common.{◌≡◌, drop}
use Rattle.roster.specs.Tables.{channel_of}
use Rattle.roster.proofs.channels.place_in.Given as goal

abbrev pub invariant-loop-place : goal.invariant-loop-place
invariant-loop-place l = channel_of (drop l.place l.channels) l.name ≡ channel_of l.channels l.name
