-- What is left of a list as it is taken one by one, and a transaction that grows by nothing.
use Rattle.std.proofs.Common.{◌≡◌, ℕ, ◌+◌, ◌<◌, ◌≤◌, Bool, true, false, cond, List, [], ◌∷◌, ◌++◌, filter}
use Rattle.std.proofs.Common.{length, get_or, drop, arith, refl, sym, ap, ◌∙◌, append-nil}
use Rattle.std.proofs.lemmas.Grind.{common_steps}
use Rattle.transactions.specs.declared.effect.Effect.{Effect}
use Rattle.transactions.specs.TransactionView.{TransactionView, grown}

pub dropped : {A : Type 0} (xs : List A) (i : ℕ) (x : A) → i < length xs → x ≡ get_or xs i x
    → drop i xs ≡ x ∷ drop (i + 1) xs
dropped xs i x l is = grind (arith, common_steps)

pub none_left : {A : Type 0} (xs : List A) (i : ℕ) → length xs ≤ i → drop i xs ≡ []
none_left xs i l = grind (arith, common_steps)

pub grown_nothing : (d : TransactionView) → grown d [] ≡ d
grown_nothing d = ap (λ (es : List Effect). record {
  settings = d.settings;
  base = d.base;
  facts = d.facts;
  effects = es;
  session = d.session;
}) (append-nil d.effects)

filter_one : {A : Type 0} (p : A → Bool) (x : A) (xs : List A) → filter p (x ∷ xs) ≡ filter p (x ∷ []) ++ filter p xs
filter_one p x xs = elim (p x) as (λ b. cond b (x ∷ filter p xs) (filter p xs) ≡ cond b (x ∷ []) [] ++ filter p xs) [
  | true ↦ refl
  | false ↦ refl
]

pub filter_more : {A : Type 0} (p : A → Bool) (xs : List A) (i : ℕ) (x : A) → i < length xs → x ≡ get_or xs i x
    → filter p (x ∷ []) ++ filter p (drop (i + 1) xs) ≡ filter p (drop i xs)
filter_more p xs i x l is = sym (ap (filter p) (dropped xs i x l is) ∙ filter_one p x (drop (i + 1) xs))
