use Rattle.std.proofs.Common.{◌≡◌, ◌&&◌, ◌==◌, not, length, ℕ, List, IfOk, subst, sym, ap, ◌∙◌}
use Rattle.registration.specs.declared.caps.Cap.TheVariants.{MessageTags}
use Rattle.registration.specs.Caps.{is_on}
use Rattle.labels_batches.specs.Spellings.{Spelled}
use Rattle.labels_batches.proofs.Alike.{as_taken_by}
use Rattle.labels_batches.proofs.spellings.Spellings.text_for.Goals as goal

pub returns-clause-text : goal.returns-clause-text
returns-clause-text c =
    let cs = c.args.caps in let s = c.args.self.now in let tags = c.has_tags_for-tags.result in
    let has : is_on cs MessageTags && not (length s.line.tags == 0) ≡ tags = sym (c.has_tags_for-tags.ensures ∙ ap
    (λ (x : Spelled). is_on cs MessageTags && not (length x.line.tags == 0)) c.self.view_is) in
    subst (λ (bs : List ℕ). IfOk c.text_with.result (λ t. t ≡ bs))
    (sym (as_taken_by cs s.moment s.line c.contains.result tags (sym c.contains.ensures) has))
    c.text_with.ensures.text
