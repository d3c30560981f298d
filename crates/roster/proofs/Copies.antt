-- A copy of the tables stands for the same facts.
use Rattle.std.proofs.Common.{arith, ◌≡◌, ◌≤◌, ℕ, true, false, cond, nat_eq, List, []}
use Rattle.std.proofs.Common.{◌∷◌, Some, unwrap_or, refl, sym, ap, ◌∙◌}
use Rattle.std.specs.List.{AllZip}
use Rattle.std.specs.Map.{values_of}
use Rattle.casemapping.specs.Fold.{name_fold}
use Rattle.roster.specs.declared.deed.Deed.{Deed}
use Rattle.roster.specs.declared.tables.Card.{Card}
use Rattle.roster.specs.declared.tables.Channel.{Channel}
use Rattle.roster.specs.Tables.{blank, card_in, person_at, holds_name, AreKeyed}
use Rattle.roster.specs.Lists.{row_of, AreListed}
use Rattle.roster.specs.Stands.{Alike}

-- ---- cards

abbrev pub IsCopiedCard : ℕ × Card → ℕ × Card → Type 0
IsCopiedCard p q = (q.0 ≡ p.0)
    × ((q.1.person ≡ p.1.person) × (q.1.names.list ≡ p.1.names.list) × (q.1.names.notes ≡ p.1.names.notes))

pub people_copied : (es qs : List (ℕ × Card)) (s : ℕ) → AllZip IsCopiedCard es qs → person_at qs s ≡ person_at es s
people_copied [] [] s a = refl
people_copied [] (q ∷ qs) s a = absurd a
people_copied (e ∷ es) [] s a = absurd a
people_copied (e ∷ es) (q ∷ qs) s a =
    ap (λ n. (unwrap_or (cond (nat_eq s n) (Some q.1) (card_in qs s)) blank).person) a.0.0
    ∙ elim (nat_eq s e.0) as (λ b. (unwrap_or (cond b (Some q.1) (card_in qs s)) blank).person
    ≡ (unwrap_or (cond b (Some e.1) (card_in es s)) blank).person) [
      | true ↦ a.0.1.0
      | false ↦ people_copied es qs s a.1
    ]

pub lists_copied : (es qs : List (ℕ × Card)) (s : ℕ) → AllZip IsCopiedCard es qs
    → (row_of qs s).list ≡ (row_of es s).list
lists_copied [] [] s a = refl
lists_copied [] (q ∷ qs) s a = absurd a
lists_copied (e ∷ es) [] s a = absurd a
lists_copied (e ∷ es) (q ∷ qs) s a =
    ap (λ n. (unwrap_or (cond (nat_eq s n) (Some q.1) (card_in qs s)) blank).names.list) a.0.0
    ∙ elim (nat_eq s e.0) as (λ b. (unwrap_or (cond b (Some q.1) (card_in qs s)) blank).names.list
    ≡ (unwrap_or (cond b (Some e.1) (card_in es s)) blank).names.list) [
      | true ↦ a.0.1.1
      | false ↦ lists_copied es qs s a.1
    ]

pub notes_copied : (es qs : List (ℕ × Card)) (s : ℕ) → AllZip IsCopiedCard es qs
    → (row_of qs s).notes ≡ (row_of es s).notes
notes_copied [] [] s a = refl
notes_copied [] (q ∷ qs) s a = absurd a
notes_copied (e ∷ es) [] s a = absurd a
notes_copied (e ∷ es) (q ∷ qs) s a =
    ap (λ n. (unwrap_or (cond (nat_eq s n) (Some q.1) (card_in qs s)) blank).names.notes) a.0.0
    ∙ elim (nat_eq s e.0) as (λ b. (unwrap_or (cond b (Some q.1) (card_in qs s)) blank).names.notes
    ≡ (unwrap_or (cond b (Some e.1) (card_in es s)) blank).names.notes) [
      | true ↦ a.0.1.2
      | false ↦ notes_copied es qs s a.1
    ]

-- ---- nicknames

pub holders_copied : (es qs : List (List ℕ × ℕ)) → AllZip (λ p q. (q.0 ≡ p.0) × (q.1 ≡ p.1)) es qs → qs ≡ es
holders_copied [] [] a = refl
holders_copied [] (q ∷ qs) a = absurd a
holders_copied (e ∷ es) [] a = absurd a
holders_copied (e ∷ es) (q ∷ qs) a = λ i. (a.0.0 i, a.0.1 i) ∷ holders_copied es qs a.1 i

-- ---- channels

abbrev pub IsCopiedChannel : List ℕ × Channel → List ℕ × Channel → Type 0
IsCopiedChannel p q = (q.0 ≡ p.0) × ((q.1.name ≡ p.1.name) × (q.1.held.state ≡ p.1.held.state))

pub alike_copied : (es qs : List (List ℕ × Channel)) → AllZip IsCopiedChannel es qs
    → Alike (values_of es) (values_of qs)
alike_copied [] [] a = tt
alike_copied [] (q ∷ qs) a = absurd a
alike_copied (e ∷ es) [] a = absurd a
alike_copied (e ∷ es) (q ∷ qs) a = (a.0.1.0, a.0.1.1, alike_copied es qs a.1)

pub keyed_copied : (es qs : List (List ℕ × Channel)) → AllZip IsCopiedChannel es qs → AreKeyed es → AreKeyed qs
keyed_copied [] [] a k = tt
keyed_copied [] (q ∷ qs) a k = absurd a
keyed_copied (e ∷ es) [] a k = absurd a
keyed_copied (e ∷ es) (q ∷ qs) a k = (a.0.0 ∙ k.0 ∙ sym (ap name_fold a.0.1.0), keyed_copied es qs a.1 k.1)

-- ---- the lists of sessions

pub listed_copied : (es qs : List (ℕ × Card)) (ns left : List (List ℕ)) (fs ds : List Deed) → AreListed es ns fs ds
    → ((s : ℕ) → (row_of qs s).list ≡ (row_of es s).list) → ((s : ℕ) → (row_of qs s).notes ≡ (row_of es s).notes)
    → AreListed qs left fs []
listed_copied es qs ns left fs ds i same so =
    record {
      lists = λ s. same s ∙ i.lists s;
      noted = λ s c e. ap (holds_name c) (so s) ∙ i.noted s c e;
      room = λ s.
          let z : 0 ≤ (row_of qs s).room = omega arith in z;
      copies = tt;
    }
