use Rattle.std.proofs.Common.{sym, ap, ◌∙◌}
use Rattle.query_commands.specs.Telling.{telling_more}
use Rattle.query_commands.proofs.Listed.{listed_at}
use Rattle.query_commands.proofs.listing.push_at.Goals as goal

pub returns : goal.returns
returns c =
    let at = listed_at c.args.roster.now.facts c.args.session c.args.place c.in-Some.name.now
    c.in-Some.state.now.state (sym c.in-Some.ensures.name) c.in-Some.ensures.spelled c.in-Some.ensures.state in
    c.in_ok-push_seen.ensures ∙ ap (λ xs. telling_more c.args.telling.now xs) at
