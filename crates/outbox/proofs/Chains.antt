-- An item more at the end of a chain, and what a chain says of one of its items.
use Rattle.std.proofs.Common.{List, [], ◌∷◌, ◌++◌, sym, subst, append_assoc}
use Rattle.std.proofs.lemmas.List.{append-nil}
use Rattle.deliveries.specs.declared.item.Item.{Item}
use Rattle.deliveries.specs.Items.{Continues}
use Rattle.outbox.specs.Rule.{Chained}

pub chained-push : (before xs : List Item) (x : Item) → Chained before xs → Continues (before ++ xs) x
    → Chained before (xs ++ x ∷ [])
chained-push before [] x c may = (subst (λ (l : List Item). Continues l x) (append-nil before) may, tt)
chained-push before (y ∷ ys) x c may = (
  c.0,
  chained-push (before ++ y ∷ []) ys x c.1
      (subst (λ (l : List Item). Continues l x) (sym (append_assoc before (y ∷ []) ys)) may),
)

pub chained-at : (before xs : List Item) (x : Item) (ys : List Item) → Chained before (xs ++ x ∷ ys)
    → Continues (before ++ xs) x
chained-at before [] x ys c = subst (λ (l : List Item). Continues l x) (sym (append-nil before)) c.0
chained-at before (y ∷ xs) x ys c = subst (λ (l : List Item). Continues l x) (append_assoc before (y ∷ []) xs)
    (chained-at (before ++ y ∷ []) xs x ys c.1)
