-- What a value means, an octet at a time.
use Rattle.std.proofs.Common.{◌≡◌, ℕ, Bool, true, false, not, ◌&&◌, ◌+◌, length, arith, ◌==◌, if◌then◌else◌, ◌++◌}
use Rattle.std.proofs.Common.{List, [], ◌∷◌, append_assoc, inl, inr, refl, sym, ap, subst, ◌∙◌}
use Rattle.std.proofs.lemmas.Bool.Decides.{eqb_tells}
use Rattle.std.proofs.lemmas.Bool.{cond-false, ne_eqb}
use Rattle.message_tags.specs.Value.{value, left_of, escape_of, escapes_of}

value-plain : (octet : ℕ) (rest : List ℕ) → (octet ≡ 92 → ⊥) → value (octet ∷ rest) ≡ octet ∷ value rest
value-plain octet [] plain = cond-false _ _ _ (ne_eqb octet 92 plain)
value-plain octet (next ∷ rest) plain = cond-false _ _ _ (ne_eqb octet 92 plain)

-- what an octet adds where it stands for itself
pub value_at_plain : (done : List ℕ) (octet : ℕ) (rest : List ℕ) → (octet ≡ 92 → ⊥)
    → done ++ value (octet ∷ rest) ≡ (done ++ octet ∷ []) ++ value rest
value_at_plain done octet rest plain = ap (λ xs. done ++ xs) (value-plain octet rest plain)
    ∙ sym (append_assoc done (octet ∷ []) (value rest))

-- how much an octet adds
pub length_left_of : (after : Bool) (octet : ℕ) (rest : List ℕ) → length (value (left_of after (octet ∷ rest)))
    ≡ (if not after && octet == 92 then 0 else 1) + length (value (left_of (not after && octet == 92) rest))
length_left_of true octet rest = omega arith
length_left_of false octet rest =
    let P : Bool → Type 0 = λ b. length (value (octet ∷ rest))
    ≡ (if b then 0 else 1) + length (value (left_of b rest)) in
    elim (eqb_tells octet 92) [
      | inl same ↦ subst P (sym same.0) (let e = ap (λ o. length (value (o ∷ rest))) same.1 in omega (arith, e))
      | inr other ↦ subst P (sym other.0) (let e = ap length (value-plain octet rest other.1) in omega (arith, e))
    ]

-- what an escape stands for, whatever follows it
abbrev Means : List ℕ → ℕ → List ℕ → Type 0
Means spelled octet rest = value (spelled ++ rest) ≡ octet ∷ value rest

means_by : (test : ℕ) (spelled : List ℕ) (others : List ℕ) (octet : ℕ) (rest : List ℕ) → Means spelled test rest
    → ((octet ≡ test → ⊥) → Means others octet rest) → Means (if octet == test then spelled else others) octet rest
means_by test spelled others octet rest at_test at_others =
    elim (eqb_tells octet test) [
      | inl same ↦ subst (λ b. Means (if b then spelled else others) octet rest) (sym same.0)
          (subst (λ x. Means spelled x rest) (sym same.1) at_test)
      | inr other ↦ subst (λ b. Means (if b then spelled else others) octet rest) (sym other.0) (at_others other.1)
    ]

pub value-escape_of : (octet : ℕ) (rest : List ℕ) → value (escape_of octet ++ rest) ≡ octet ∷ value rest
value-escape_of octet rest =
    means_by 59 _ _ octet rest refl (λ _. means_by 32 _ _ octet rest refl
    (λ _. means_by 92 _ _ octet rest refl (λ plain. means_by 13 _ _ octet rest refl
    (λ _. means_by 10 _ _ octet rest refl (λ _. value-plain octet rest plain)))))

pub value-escaped : (octets : List ℕ) → value (escapes_of octets) ≡ octets
value-escaped [] = refl
value-escaped (octet ∷ octets) = value-escape_of octet (escapes_of octets)
    ∙ ap (λ xs. octet ∷ xs) (value-escaped octets)
