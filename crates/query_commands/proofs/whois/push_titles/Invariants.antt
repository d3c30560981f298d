use Rattle.std.proofs.Common.{◌≡◌, ◌++◌, drop}
use Rattle.std.specs.List.{flat_map}
use Rattle.query_commands.specs.Visible.{channel_for}
use Rattle.query_commands.specs.Whois.{title_seen}
use Rattle.query_commands.proofs.whois.push_titles.Given as goal

abbrev pub invariant-loop-channel : goal.invariant-loop-channel
invariant-loop-channel l = l.titles.items ++ flat_map
    (λ c. title_seen l.user (channel_for l.roster.facts l.session c)) (drop l.channel-index l.channels)
    ≡ l.fn.titles.items ++ flat_map (λ c. title_seen l.user (channel_for l.roster.facts l.session c)) l.channels
