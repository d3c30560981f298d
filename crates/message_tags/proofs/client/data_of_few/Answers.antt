use Rattle.std.proofs.Common.{◌≡◌, [], ap, sym, ◌∙◌}
use Rattle.std.proofs.lemmas.List.{nil_from_length}
use Rattle.message_tags.specs.ClientOnly.{spellings, client_only_data}
use Rattle.message_tags.proofs.ClientLemmas.{joined_onto, joined_onto_all}
use Rattle.message_tags.proofs.client.data_of_few.Goals as goal

pub returns : goal.returns
unfolding client_only_data
returns c =
    let none : c.loop-tag.rest.now ≡ [] = nil_from_length _ c.in_default.ensures.cases in
    sym (ap (λ tags. joined_onto c.loop-tag.tag_data.items (spellings tags)) none)
    ∙ c.loop-tag.invariant
    ∙ joined_onto_all c.args.tags.now
