-- A name that differs in case at most has the shape of a channel's name, too.
use Rattle.std.proofs.Common.{◌≡◌, ◌≢◌, ℕ, ◌≤◌, Bool, true, false, ◌&&◌, ◌||◌, eqb, nat_le, List}
use Rattle.std.proofs.Common.{[], ◌∷◌, refl, sym, ap, ◌∙◌, arith, inl, inr, ◌⊎◌, ne_eqb}
use Rattle.std.specs.List.{list_all}
use Rattle.std.proofs.lemmas.Bool.{and_parts, cond_both, eqb-true, leb-true}
use Rattle.std.proofs.lemmas.List.{length-map}
use Rattle.casemapping.specs.Fold.{fold_of, name_fold, is_same}
use Rattle.casemapping.specs.Names.{channel_octet, channel_shape}
use Rattle.casemapping.proofs.SameNames.{is_same-true}
use Rattle.clean_records.specs.Clean.{IsChannel}

-- an octet and its lower case
abbrev Folds : ℕ → ℕ → Type 0
Folds b c = (c ≡ b) ⊎ ((45 ≤ b) × (45 ≤ c))

folds : (b : ℕ) → Folds b (fold_of b)
unfolding fold_of
folds b =
    cond_both (nat_le 65 b && nat_le b 90) _ _ (Folds b) (λ is.
    let low : 65 ≤ b = leb-true 65 b (and_parts _ _ is).0 in inr (omega (arith, low), omega (arith, low)))
    (λ _. cond_both (eqb b 91) _ _ (Folds b)
    (λ is. let e : b ≡ 91 = eqb-true b 91 is in inr (omega (arith, e), omega arith))
    (λ _. cond_both (eqb b 93) _ _ (Folds b)
    (λ is. let e : b ≡ 93 = eqb-true b 93 is in inr (omega (arith, e), omega arith))
    (λ _. cond_both (eqb b 92) _ _ (Folds b)
    (λ is. let e : b ≡ 92 = eqb-true b 92 is in inr (omega (arith, e), omega arith))
    (λ _. cond_both (eqb b 126) _ _ (Folds b)
    (λ is. let e : b ≡ 126 = eqb-true b 126 is in inr (omega (arith, e), omega arith)) (λ _. inl refl)))))

high-octet : (b : ℕ) → 45 ≤ b → channel_octet b ≡ true
high-octet b high =
    let n : b ≢ 0 = omega arith in let a : b ≢ 7 = omega arith in let r : b ≢ 13 = omega arith in
    let l : b ≢ 10 = omega arith in let s : b ≢ 32 = omega arith in let c : b ≢ 44 = omega arith in
    rw (ne_eqb b 0 n, ne_eqb b 7 a, ne_eqb b 13 r, ne_eqb b 10 l, ne_eqb b 32 s, ne_eqb b 44 c) refl

octet-same : (b : ℕ) → channel_octet (fold_of b) ≡ channel_octet b
octet-same b = elim (folds b) [
  | inl same ↦ ap channel_octet same
  | inr high ↦ high-octet (fold_of b) high.1 ∙ sym (high-octet b high.0)
]

abbrev is_first : ℕ → Bool
is_first b = eqb b 35 || eqb b 38

high-first : (b : ℕ) → 45 ≤ b → is_first b ≡ false
high-first b high =
    let h : b ≢ 35 = omega arith in let a : b ≢ 38 = omega arith in rw (ne_eqb b 35 h, ne_eqb b 38 a) refl

first-same : (b : ℕ) → is_first (fold_of b) ≡ is_first b
first-same b = elim (folds b) [
  | inl same ↦ ap is_first same
  | inr high ↦ high-first (fold_of b) high.1 ∙ sym (high-first b high.0)
]

octets-same : (bs : List ℕ) → list_all channel_octet (name_fold bs) ≡ list_all channel_octet bs
octets-same [] = refl
octets-same (b ∷ bs) = rw (octet-same b, octets-same bs) refl

shape-same : (c : List ℕ) → channel_shape (name_fold c) ≡ channel_shape c
unfolding channel_shape
shape-same [] = refl
shape-same (b ∷ bs) = rw (first-same b, octets-same bs, length-map bs fold_of) refl

pub same-shape : (k c : List ℕ) → is_same k c ≡ true → IsChannel k → IsChannel c
same-shape k c same is = sym (shape-same c) ∙ ap channel_shape (sym (is_same-true k c same)) ∙ shape-same k ∙ is
