use Rattle.std.proofs.Common.{ap, refl, sym, ◌∙◌, ◌≡◌, ◌++◌, [], ◌∷◌, List, true, false, nat_eq, length}
use Rattle.interleave.specs.Inbox.{Held}
use Rattle.interleave.specs.Refusals.{is_empty}
use Rattle.interleave.proofs.inbox.Inbox.is_empty.Goals as goal

-- something stands first
some_first : {X : Type 0} → (xs ys : List X) → nat_eq (length xs) 0 ≡ false → is_empty (xs ++ ys) ≡ false
some_first [] ys e = absurd (let f : true ≡ false = e in cc)
some_first (x ∷ xs) ys e = refl

-- what comes next isn't all gone
pub returns-else-is_empty : goal.returns-else-is_empty
returns-else-is_empty g c = c.if-is_empty.false
    ∙ sym (some_first c.self.inside.next.items c.self.inside.arrived.items
    (ap (λ n. nat_eq n 0) (sym c.self.inside.next.ok.0) ∙ sym c.if-is_empty.ensures))
    ∙ ap (λ (v : Held). is_empty v.seen.pending) c.self.view_is
