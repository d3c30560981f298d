use Rattle.std.proofs.Common.{◌≡◌, ◌++◌, filter, drop}
use Rattle.channel_commands.specs.Joining.{takes_extended, takes_plain}
use Rattle.channel_commands.proofs.arriving.split_by_form.Given as goal

abbrev pub invariant-loop-session : goal.invariant-loop-session
invariant-loop-session l = let fs = l.roster.facts in record {
  extended : l.extended ++ filter (takes_extended fs) (drop l.session-index l.sessions)
      ≡ filter (takes_extended fs) l.sessions;
  plain : l.plain ++ filter (takes_plain fs) (drop l.session-index l.sessions) ≡ filter (takes_plain fs) l.sessions;
}
