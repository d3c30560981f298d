-- Outboxes in a list, of which one is changed.
use Rattle.std.proofs.Common.{◌≡◌, ◌≢◌, ℕ, zero, suc, List, [], ◌∷◌, ◌++◌, length}
use Rattle.std.proofs.Common.{slice_index_or, slice_set, Option, Some, None, refl, ap, subst}
use Rattle.std.specs.Prelude.{IfSome}
use Rattle.std.proofs.lemmas.Option.{none-some}

-- one more at the end changes no other place
pub push_else : {A : Type 0} (l : List A) (x d : A) (i : ℕ) → i ≢ length l → slice_index_or (l ++ x ∷ []) i d
    ≡ slice_index_or l i d
push_else [] x d zero apart = absurd (apart refl)
push_else [] x d (suc i) apart = refl
push_else (y ∷ l) x d zero apart = refl
push_else (y ∷ l) x d (suc i) apart = push_else l x d i (λ e. apart (ap suc e))

module _ {O : Type 0} where
  -- an outbox is replaced by one of which the same holds
  pub replaced : (P : O → Type 0) (l : List (Option O)) (i j : ℕ) (a b : O) → slice_index_or l i None ≡ Some a
      → (P a → P b) → IfSome (slice_index_or l j None) P → IfSome (slice_index_or (slice_set l i (Some b)) j None) P
  replaced P [] i j a b is f p = absurd (none-some a is)
  replaced P (x ∷ l) zero zero a b is f p = f (subst (λ (o : Option O). IfSome o P) is p)
  replaced P (x ∷ l) zero (suc j) a b is f p = p
  replaced P (x ∷ l) (suc i) zero a b is f p = p
  replaced P (x ∷ l) (suc i) (suc j) a b is f p = replaced P l i j a b is f p

  -- an outbox is taken out
  pub taken_out : (P : O → Type 0) (l : List (Option O)) (i j : ℕ) → IfSome (slice_index_or l j None) P
      → IfSome (slice_index_or (slice_set l i None) j None) P
  taken_out P [] i j p = p
  taken_out P (x ∷ l) zero zero p = tt
  taken_out P (x ∷ l) zero (suc j) p = p
  taken_out P (x ∷ l) (suc i) zero p = p
  taken_out P (x ∷ l) (suc i) (suc j) p = taken_out P l i j p
