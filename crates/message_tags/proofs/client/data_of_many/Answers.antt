use Rattle.std.proofs.Common.{◌≡◌, [], ap, sym, ◌∙◌, arith}
use Rattle.std.proofs.lemmas.List.{nil_from_length}
use Rattle.message_tags.specs.ClientOnly.{client_only_data}
use Rattle.message_tags.proofs.ClientLemmas.{joined_onto, joined_onto_all}
use Rattle.message_tags.proofs.LastLemmas.{left_spellings, left_spellings-pop, left_spellings-all}
use Rattle.message_tags.proofs.client.data_of_many.Goals as goal

pub loop-tag-init : goal.loop-tag-init
loop-tag-init c =
    ap (λ d. joined_onto d (left_spellings c.in_ok-left.left.items)) c.new-tag_data.ensures.items
    ∙ ap (joined_onto []) (left_spellings-all c.in_ok-left.left.items c.args.tags.now c.in_ok-left.ensures)

pub loop-tag-preserved : goal.loop-tag-preserved
loop-tag-preserved c =
    ap (λ d. joined_onto d (left_spellings c.pop.new.self.items)) c.in_ok-push_joined.ensures
    ∙ ap (joined_onto c.loop-tag.tag_data.items)
    (sym (left_spellings-pop c.loop-tag.left.items c.pop.new.self.items c.in-Some.tag c.in-Some.ensures.items))
    ∙ c.loop-tag.invariant

pub returns : goal.returns
unfolding client_only_data
returns c =
    let none : c.loop-tag.left.items ≡ [] = nil_from_length _ (omega (arith, c.in_default.ensures.cases.0)) in
    sym (ap (λ left. joined_onto c.loop-tag.tag_data.items (left_spellings left)) none)
    ∙ c.loop-tag.invariant
    ∙ joined_onto_all c.args.tags.now
