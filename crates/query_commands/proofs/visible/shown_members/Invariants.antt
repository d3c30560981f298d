use Rattle.std.proofs.Common.{◌≡◌, ◌++◌, filter, not, drop}
use Rattle.roster.specs.LookBack.{invisible}
use Rattle.query_commands.proofs.visible.shown_members.Given as goal

abbrev pub invariant-loop-member : goal.invariant-loop-member
invariant-loop-member l = l.shown ++ filter (λ t. not (invisible l.roster.facts t)) (drop l.member-index l.members)
    ≡ filter (λ t. not (invisible l.roster.facts t)) l.members
