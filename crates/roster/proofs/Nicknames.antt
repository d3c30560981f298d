-- The index of nicknames.
use Rattle.std.proofs.Common.{◌≡◌, ℕ, true, false, cond, List, ◌∷◌, Some, sym, ap, ◌∙◌}
use Rattle.std.specs.Str.{bytes_eq}
use Rattle.casemapping.specs.Fold.{name_fold, is_same}
use Rattle.casemapping.proofs.SameNames.{is_same-sym}
use Rattle.roster.specs.Tables.{held_by}
use Rattle.roster.proofs.Keyed.{same_is}

-- what is folded passes the test of a folded nickname where it is that nickname
pub nick_test : (k n : List ℕ) → name_fold k ≡ k → bytes_eq (name_fold n) k ≡ is_same k n
nick_test k n e = ap (bytes_eq (name_fold n)) (sym e) ∙ sym (same_is n k) ∙ is_same-sym n k

module _ (s t : List (List ℕ × ℕ)) (k n : List ℕ) (x : ℕ) (first : s ≡ (k, x) ∷ t) (low : name_fold k ≡ k) where
  pub passed : is_same k n ≡ false → held_by s (name_fold n) ≡ held_by t (name_fold n)
  passed miss = ap (λ es. held_by es (name_fold n)) first ∙ ap
      (λ b. cond b (Some x) (held_by t (name_fold n))) (nick_test k n low ∙ miss)

  pub hit : is_same k n ≡ true → held_by s (name_fold n) ≡ Some x
  hit it = ap (λ es. held_by es (name_fold n)) first ∙ ap (λ b. cond b (Some x) (held_by t (name_fold n)))
      (nick_test k n low ∙ it)
