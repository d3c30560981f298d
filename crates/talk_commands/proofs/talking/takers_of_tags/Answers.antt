use Rattle.std.proofs.Common.{filter, rules, ap, ◌∙◌}
use Rattle.std.proofs.lemmas.Fn.{filter_same}
use Rattle.talk_commands.specs.Talking.{reaches}
use Rattle.talk_commands.proofs.talking.takers_of_tags.Goals as goal

pub returns : goal.returns
returns c =
    let p = reaches c.args.roster.now.facts c.args.sending.now in
    c.from_vec.ensures ∙ filter_same _ p _ (λ x b f' k. search rules) _ _ c.retain.ensures.filtered
    ∙ ap (filter p) c.in_ok-hearers.ensures.items
