-- Names that are the same once folded.
use Rattle.std.proofs.Common.{◌≡◌, ℕ, Bool, true, false, IsTrue, List, refl, sym, ◌∙◌}
use Rattle.std.proofs.lemmas.Slice.Eq.{bytes_eq-Decides}
use Rattle.casemapping.specs.Fold.{name_fold, is_same}

-- two tests of one fact agree
pub by_fact : (b d : Bool) (P : Type 0) → (b ≡ true → P) → (P → b ≡ true) → (d ≡ true → P) → (P → d ≡ true) → b ≡ d
by_fact true d P f g h k = sym (k (f refl))
by_fact false true P f g h k = g (h refl)
by_fact false false P f g h k = refl

pub is_same-true : (a b : List ℕ) → is_same a b ≡ true → name_fold a ≡ name_fold b
unfolding is_same
is_same-true a b e = (bytes_eq-Decides (name_fold a) (name_fold b)).0 e

pub is_same-folded : (a b : List ℕ) → name_fold a ≡ name_fold b → is_same a b ≡ true
unfolding is_same
is_same-folded a b e = (bytes_eq-Decides (name_fold a) (name_fold b)).1 e

pub is_same-refl : (a : List ℕ) → is_same a a ≡ true
is_same-refl a = is_same-folded a a refl

-- names that are the same are the same as the same names
pub is_same-left : (a b c : List ℕ) → is_same a b ≡ true → is_same a c ≡ is_same b c
is_same-left a b c e =
    let f = is_same-true a b e in
    by_fact (is_same a c) (is_same b c) (name_fold b ≡ name_fold c) (λ h. sym f ∙ is_same-true a c h)
    (λ h. is_same-folded a c (f ∙ h)) (is_same-true b c) (is_same-folded b c)

pub is_same-sym : (a b : List ℕ) → is_same a b ≡ is_same b a
is_same-sym a b = by_fact (is_same a b) (is_same b a) (name_fold a
    ≡ name_fold b) (is_same-true a b) (is_same-folded a b)
    (λ h. sym (is_same-true b a h)) (λ h. is_same-folded b a (sym h))

pub is_same-right : (a b c : List ℕ) → is_same a b ≡ true → is_same c a ≡ is_same c b
is_same-right a b c e = is_same-sym c a ∙ is_same-left a b c e ∙ is_same-sym b c

-- the code's test
pub is_same-test : (a b : List ℕ) (r : Bool) → (IsTrue r → name_fold a ≡ name_fold b)
    → (name_fold a ≡ name_fold b → IsTrue r)
    → r ≡ is_same a b
is_same-test a b r f g =
    by_fact r (is_same a b) (name_fold a ≡ name_fold b) f g (is_same-true a b) (is_same-folded a b)
