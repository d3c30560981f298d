use Rattle.std.proofs.Common.{◌==◌, length, take, rules, refl, sym, ap, ◌∙◌, tests}
use Rattle.std.specs.Option.{option_map}
use Rattle.std.proofs.lemmas.List.{length_push}
use Rattle.std.proofs.lemmas.Iterator.Splits.{YieldsList-from_slice_split}
use Rattle.std.proofs.lemmas.Iterator.Consumers.{YieldsList-turn, YieldsList-end}
use Rattle.message_tags.specs.Value.{value}
use Rattle.message_tags.specs.Tags.{parts_of, counting_tags, last_value}
use Rattle.message_tags.proofs.TagsLemmas.{tags_in, tags_in_all, last_value-more}
use Rattle.message_tags.proofs.reading.last_raw_value.Goals as goal

pub loop-part-init : goal.loop-part-init
unfolding last_value
loop-part-init c = refl

pub loop-part-preserved : goal.loop-part-preserved
loop-part-preserved c =
    let tag_data = c.args.tag_data.now in
    let key = c.args.key.now in
    let parts = YieldsList-from_slice_split _ (λ octet. octet == 59) tag_data (cc) (cc) (cc)
    (λ x b q k. search (rules, tests)) in
    let turn = YieldsList-turn parts c.loop-part.yielded _ c.loop-part.yielded_by _ _ c.in-Some.part c.in-Some.is
    c.next.ensures.steps in
    ap (option_map (λ raw. value raw.now)) c.or-found.ensures
    ∙ last_value-more key (parts_of tag_data) (length c.loop-part.yielded) c.in-Some.part.now
    c.raw_value_under.result c.loop-part.found turn.0 turn.1 c.raw_value_under.ensures c.loop-part.invariant
    ∙ ap (λ n. last_value (tags_in (take n (parts_of tag_data))) key)
    (sym (length_push c.loop-part.yielded c.in-Some.part))

pub returns : goal.returns
unfolding counting_tags
returns c =
    let tag_data = c.args.tag_data.now in
    let parts = YieldsList-from_slice_split _ (λ octet. octet == 59) tag_data (cc) (cc) (cc)
    (λ x b q k. search (rules, tests)) in
    let end = YieldsList-end parts c.loop-part.yielded _ c.loop-part.yielded_by _ _ c.in-None.is
    c.next.ensures.steps in
    c.loop-part.invariant ∙ ap (λ tags. last_value tags c.args.key.now)
    (tags_in_all (parts_of tag_data) (length c.loop-part.yielded) end.1)
