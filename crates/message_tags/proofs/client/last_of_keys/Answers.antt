use Rattle.std.proofs.Common.{◌++◌, [], ◌∷◌, length, map, take, reverse, ap, sym, subst, ◌∙◌}
use Rattle.std.proofs.lemmas.List.{map-append}
use Rattle.std.proofs.lemmas.Iterator.Adapters.{YieldsList-from_rev_slice}
use Rattle.std.proofs.lemmas.Iterator.Consumers.{YieldsList-turn}
use Rattle.message_tags.proofs.LastLemmas.{HasKeys, HasKeys-more, HasKeys-unmarked, last_found}
use Rattle.message_tags.proofs.LastLemmas.{last_found-new, last_found-old, last_found-unmarked, taken-more}
use Rattle.message_tags.proofs.client.last_of_keys.Goals as goal
use Rattle.message_tags.proofs.client.last_of_keys.Goals.{else-is_marked-via-then-is_marked+in_ok-insert+else-branch}
use Rattle.message_tags.proofs.client.last_of_keys.Goals.{else-is_marked-via-else-is_marked}

pub loop-tag-preserved-then-branch : goal.loop-tag-preserved-then-branch
loop-tag-preserved-then-branch c =
    let tags = c.args.tags.now in
    let tag = c.in-Some.tag in
    let done = take (length c.loop-tag.yielded) (reverse tags) in
    let turn = YieldsList-turn (YieldsList-from_rev_slice tags (cc)) c.loop-tag.yielded _ c.loop-tag.yielded_by _ _
    tag c.in-Some.is c.next.ensures.steps in
    let more = taken-more (reverse tags) c.loop-tag.yielded tag turn.0 turn.1 in
    let marked = sym c.is_marked.ensures ∙ c.if-is_marked.true in
    let found = c.loop-tag.invariant.found in
    record {
      found =
          ap (map (λ t. t.now)) c.in_ok-push.ensures.items
          ∙ map-append (λ t. t.now) c.loop-tag.found.items (tag ∷ [])
          ∙ ap (λ ts. ts ++ tag.now ∷ []) found
          ∙ sym (last_found-new c.loop-tag.keys done tag.now c.as_slice.result c.as_slice.ensures marked
          c.loop-tag.invariant.keys (sym c.in_ok-insert.ensures.added ∙ c.if-branch.true))
          ∙ ap last_found (sym more);
      keys = subst (HasKeys c.insert.new.self) (sym more) (HasKeys-more c.loop-tag.keys c.insert.new.self done
          tag.now c.as_slice.result c.as_slice.ensures c.in_ok-insert.ensures.updates c.loop-tag.invariant.keys);
    }

pub loop-tag-preserved : goal.loop-tag-preserved
loop-tag-preserved c =
    let tags = c.args.tags.now in
    let tag = c.in-Some.tag in
    let done = take (length c.loop-tag.yielded) (reverse tags) in
    let turn = YieldsList-turn (YieldsList-from_rev_slice tags (cc)) c.loop-tag.yielded _ c.loop-tag.yielded_by _ _
    tag c.in-Some.is c.next.ensures.steps in
    let more = taken-more (reverse tags) c.loop-tag.yielded tag turn.0 turn.1 in
    let found = c.loop-tag.invariant.found in
    elim c.else-is_marked.branch [
      | else-is_marked-via-then-is_marked+in_ok-insert+else-branch w ↦ record {
        found =
            found
            ∙ sym (last_found-old c.loop-tag.keys done tag.now w.as_slice.result w.as_slice.ensures
            (sym c.is_marked.ensures ∙ w.if-is_marked.true) c.loop-tag.invariant.keys
            (sym w.in_ok-insert.ensures.added ∙ w.if-branch.false))
            ∙ ap last_found (sym more);
        keys = subst (HasKeys c.else-is_marked.keys) (sym more) (subst (λ k. HasKeys k (done ++ tag.now ∷ []))
            (sym w.keys-is) (HasKeys-more c.loop-tag.keys w.insert.new.self done tag.now w.as_slice.result
            w.as_slice.ensures w.in_ok-insert.ensures.updates c.loop-tag.invariant.keys));
      }
      | else-is_marked-via-else-is_marked w ↦ record {
        found =
            found
            ∙ sym (last_found-unmarked done tag.now (sym c.is_marked.ensures ∙ w.if-is_marked.false))
            ∙ ap last_found (sym more);
        keys = subst (HasKeys c.else-is_marked.keys) (sym more) (subst
            (λ k. HasKeys k (done ++ tag.now ∷ [])) (sym w.keys-is) (HasKeys-unmarked c.loop-tag.keys done tag.now
            (sym c.is_marked.ensures ∙ w.if-is_marked.false) c.loop-tag.invariant.keys));
      }
    ]
