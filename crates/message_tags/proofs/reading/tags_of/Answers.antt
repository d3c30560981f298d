use Rattle.std.proofs.Common.{◌==◌, ◌∷◌, [], ◌++◌, length, take, rules, sym, ap, ◌∙◌, tests}
use Rattle.std.proofs.lemmas.List.{length_push}
use Rattle.std.proofs.lemmas.Iterator.Splits.{YieldsList-from_slice_split}
use Rattle.std.proofs.lemmas.Iterator.Consumers.{YieldsList-turn, YieldsList-end}
use Rattle.message_tags.specs.Tags.{parts_of, counting_tags}
use Rattle.message_tags.proofs.TagsLemmas.{tags_in, tags_in_more, tags_in_all}
use Rattle.message_tags.proofs.reading.tags_of.Goals as goal

pub loop-part-preserved : goal.loop-part-preserved
loop-part-preserved c =
    let tag_data = c.args.tag_data.now in
    let parts = YieldsList-from_slice_split _ (λ octet. octet == 59) tag_data (cc) (cc) (cc)
    (λ x b q k. search (rules, tests)) in
    let turn = YieldsList-turn parts c.loop-part.yielded _ c.loop-part.yielded_by _ _ c.in-Some.part c.in-Some.is
    c.next.ensures.steps in
    c.in_ok-push_tag.ensures
    ∙ ap (λ tags. tags ++ tags_in (c.in-Some.part.now ∷ [])) c.loop-part.invariant
    ∙ sym (tags_in_more (parts_of tag_data) (length c.loop-part.yielded) c.in-Some.part.now turn.0 turn.1)
    ∙ ap (λ n. tags_in (take n (parts_of tag_data))) (sym (length_push c.loop-part.yielded c.in-Some.part))

pub returns : goal.returns
unfolding counting_tags
returns c =
    let tag_data = c.args.tag_data.now in
    let parts = YieldsList-from_slice_split _ (λ octet. octet == 59) tag_data (cc) (cc) (cc)
    (λ x b q k. search (rules, tests)) in
    let end = YieldsList-end parts c.loop-part.yielded _ c.loop-part.yielded_by _ _ c.in-None.is
    c.next.ensures.steps in
    c.from_vec.ensures ∙ c.loop-part.invariant ∙ tags_in_all (parts_of tag_data) (length c.loop-part.yielded) end.1
