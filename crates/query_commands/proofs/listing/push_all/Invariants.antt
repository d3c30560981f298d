use Rattle.std.proofs.Common.{◌≡◌, drop}
use Rattle.std.specs.List.{flat_map}
use Rattle.roster.specs.LookBack.{channels}
use Rattle.query_commands.specs.Listing.{list_told}
use Rattle.query_commands.specs.Telling.{telling_more}
use Rattle.query_commands.proofs.listing.push_all.Given as goal

abbrev pub invariant-loop-place : goal.invariant-loop-place
invariant-loop-place l = telling_more l.telling
    (flat_map (list_told l.roster.facts l.session) (drop l.place (channels l.roster.facts)))
    ≡ telling_more l.fn.telling (flat_map (list_told l.roster.facts l.session) (channels l.roster.facts))
