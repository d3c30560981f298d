use Rattle.std.proofs.Common.{◌≡◌, map}
use Rattle.std.specs.Vec.Iter.{into_iter_items}
use Rattle.numerics.specs.declared.numeric.Numeric.TheVariants.{WhoisChannels}
use Rattle.query_commands.specs.Telling.{telling_more}
use Rattle.query_commands.proofs.whois.push_lines.Given as goal

abbrev pub invariant-loop-channels : goal.invariant-loop-channels
invariant-loop-channels l = telling_more l.telling (map (WhoisChannels l.nick)
    (into_iter_items l.channels-iterator)) ≡ telling_more l.fn.telling (map (WhoisChannels l.nick) l.fn.lines.items)
