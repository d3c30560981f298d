use Rattle.std.proofs.Common.{◌≡◌, map, take}
use Rattle.numerics.specs.declared.numeric.Numeric.TheVariants.{Motd}
use Rattle.query_commands.specs.Telling.{telling_more}
use Rattle.query_commands.proofs.motd.push_motd_lines.Given as goal

abbrev pub invariant-loop-line : goal.invariant-loop-line
invariant-loop-line l = l.telling ≡ telling_more l.fn.telling (map Motd (take l.line-index l.lines))
