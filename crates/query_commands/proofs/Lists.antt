-- What is left of a list as it is taken one by one.
use Rattle.std.proofs.Common.{◌≡◌, ℕ, zero, suc, ◌+◌, ◌<◌, ◌≤◌, List, [], ◌∷◌, ◌++◌, flat_map, length}
use Rattle.std.proofs.Common.{drop, slice_get, arith, Option, Some, None, refl, sym, ap}
use Rattle.std.proofs.lemmas.Option.{get_or_from_slice_get}
use Rattle.transactions.proofs.Turns.{dropped, none_left}
use Rattle.query_commands.specs.Visible.{of_one}

within : {A : Type 0} (xs : List A) (i : ℕ) (x : A) → slice_get xs i ≡ Some x → i < length xs
within {A} [] i x e = absurd (let f : ◌≡◌ {A = Option A} None (Some x) = e in cc)
within (y ∷ ys) zero x e = omega arith
within (y ∷ ys) (suc i) x e = let h = within ys i x e in omega arith

-- what a list has at a place is the first of the rest there
from_place : {A : Type 0} (xs : List A) (i : ℕ) (x : A) → slice_get xs i ≡ Some x → drop i xs ≡ x ∷ drop (i + 1) xs
from_place xs i x e = dropped xs i x (within xs i x e) (sym (get_or_from_slice_get xs i x x e))

-- there is something at each place of it
some_at : {A : Type 0} (xs : List A) (i : ℕ) → i < length xs → slice_get xs i ≡ None → ⊥
some_at [] i l e = omega arith
some_at (y ∷ ys) zero l e = let f : Some y ≡ None = e in cc
some_at (y ∷ ys) (suc i) l e = some_at ys i (omega arith) e

-- what is done of a place, and then of those after it
placed : {A B : Type 0} (f : A → List B) (xs : List A) (i : ℕ) (o : Option A) → slice_get xs i ≡ o → i < length xs
    → of_one f o ++ flat_map f (drop (i + 1) xs) ≡ flat_map f (drop i xs)
placed f xs i None e l = absurd (some_at xs i l e)
placed f xs i (Some x) e l = sym (ap (flat_map f) (from_place xs i x e))

pub place_more : {A B : Type 0} (f : A → List B) (xs : List A) (i : ℕ) → i < length xs
    → of_one f (slice_get xs i) ++ flat_map f (drop (i + 1) xs) ≡ flat_map f (drop i xs)
place_more f xs i l = placed f xs i (slice_get xs i) refl l

pub all_places : {A B : Type 0} (f : A → List B) (xs : List A) (i : ℕ) → length xs ≤ i → flat_map f (drop i xs) ≡ []
all_places f xs i l = ap (flat_map f) (none_left xs i l)
