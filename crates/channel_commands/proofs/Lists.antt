-- What is done for each of a list: for one, and then for the rest.
use Rattle.std.proofs.Common.{◌≡◌, ℕ, ◌+◌, ◌<◌, ◌≤◌, List, length, get_or, drop, sym, ap, ◌∙◌}
use Rattle.roster.specs.declared.deed.Deed.{Deed}
use Rattle.roster.specs.LookBack.{after}
use Rattle.transactions.specs.declared.effect.Effect.{Effect}
use Rattle.transactions.specs.Effects.{deeds_of}
use Rattle.transactions.specs.TransactionView.{TransactionView, grown}
use Rattle.transactions.proofs.Replay.{grown_grown}
use Rattle.transactions.proofs.Turns.{dropped, none_left, grown_nothing}
use Rattle.channel_commands.specs.Each.{each, each_counted}

module _ {A : Type 0} (row : List Deed → A → List Effect) (d : TransactionView) (xs : List A) (i : ℕ) where
  pub each_more : (x : A) → i < length xs → x ≡ get_or xs i x → let e = grown d (row d.facts x) in
      grown e (each row e.facts (drop (i + 1) xs)) ≡ grown d (each row d.facts (drop i xs))
  each_more x l is = grown_grown d (row d.facts x) (each row (after d.facts (deeds_of (row d.facts x)))
      (drop (i + 1) xs)) ∙ ap (λ ys. grown d (each row d.facts ys)) (sym (dropped xs i x l is))

  pub each_done : length xs ≤ i → grown d (each row d.facts (drop i xs)) ≡ d
  each_done l = ap (λ ys. grown d (each row d.facts ys)) (none_left xs i l) ∙ grown_nothing d

module _ {A : Type 0} (row : List Deed → ℕ → A → List Effect) (d : TransactionView) (n : ℕ) (xs : List A) (i : ℕ) where
  pub counted_more : (x : A) → i < length xs → x ≡ get_or xs i x → let e = grown d (row d.facts n x) in
      grown e (each_counted row e.facts (n + length (deeds_of (row d.facts n x))) (drop (i + 1) xs))
      ≡ grown d (each_counted row d.facts n (drop i xs))
  counted_more x l is = grown_grown d (row d.facts n x) (each_counted row
      (after d.facts (deeds_of (row d.facts n x))) (n + length (deeds_of (row d.facts n x))) (drop (i + 1) xs))
      ∙ ap (λ ys. grown d (each_counted row d.facts n ys)) (sym (dropped xs i x l is))

  pub counted_done : length xs ≤ i → grown d (each_counted row d.facts n (drop i xs)) ≡ d
  counted_done l = ap (λ ys. grown d (each_counted row d.facts n ys)) (none_left xs i l) ∙ grown_nothing d
