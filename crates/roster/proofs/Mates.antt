-- Those who share a channel with a session.
use Rattle.std.proofs.lemmas.Bool.Decides.{eqb_tells, nat_tests}
use Rattle.std.proofs.Common.{◌≡◌, ℕ, ◌+◌, Bool, true, false, not, ◌&&◌, ◌==◌, nat_le, nat_lt, List}
use Rattle.std.proofs.Common.{filter, inl, inr, arith, refl, sym, ap, ◌∙◌, ne_eqb}
use Rattle.std.specs.List.{list_any}
use Rattle.channel_state.specs.State.{among}
use Rattle.roster.specs.declared.tables.Channel.{Channel}
use Rattle.roster.specs.LookBack.{numbers}
use Rattle.roster.specs.Tables.{members_in, is_mate, mates_in, mates}
use Rattle.roster.proofs.Rising.{Rises, rising_same, rises-filter, rises-numbers}
use Rattle.roster.proofs.Rising.{rises_from, among-filter, among-numbers}

shuffled : (a b c : Bool) → ((a && b) && c) ≡ ((c && b) && a)
shuffled true true true = refl
shuffled true true false = refl
shuffled true false true = refl
shuffled true false false = refl
shuffled false true true = refl
shuffled false true false = refl
shuffled false false true = refl
shuffled false false false = refl

turned : (s t : ℕ) → (t == s) ≡ (s == t)
turned s t = elim (eqb_tells t s) [
  | inl same ↦ rw same.0 (sym (elim (eqb_tells s t) [ inl it ↦ it.0 | inr other ↦ absurd (other.1 (sym same.1)) ]))
  | inr other ↦ rw other.0 (sym (ne_eqb s t (λ e. other.1 (sym e))))
]

within : (t n : ℕ) → (nat_le 1 t && nat_lt t (1 + n)) ≡ (nat_le 1 t && nat_le t n)
within t n = grind (arith, nat_tests)

-- of numbers that rise and have just those on channels, those of other sessions that were opened
pub mated_are : (ks : List Channel) (cs : List (List ℕ)) (s n : ℕ) (zs : List ℕ) → Rises 0 zs
    → ((t : ℕ) → among t zs ≡ list_any (λ c. among t (members_in ks c)) cs) → mates_in s n zs ≡ mates ks cs s n
mated_are ks cs s n zs r m =
    let on = λ (t : ℕ). list_any (λ c. among t (members_in ks c)) cs in let p = λ (t : ℕ). on t && not (s == t) in
    rising_same 0 (mates_in s n zs) (mates ks cs s n) (rises-filter (is_mate s n) 0 zs r)
    (rises_from 0 1 (filter p (numbers 1 n)) (omega arith) (rises-filter p 1 (numbers 1 n) (rises-numbers 1 n)))
    (λ t.
    among-filter t (is_mate s n) zs ∙ ap (λ b. is_mate s n t && b) (m t)
    ∙ ap (λ b. ((nat_le 1 t && nat_le t n) && not b) && on t) (turned s t)
    ∙ shuffled (nat_le 1 t && nat_le t n) (not (s == t)) (on t)
    ∙ ap (λ b. (on t && not (s == t)) && b) (sym (within t n) ∙ sym (among-numbers t 1 n))
    ∙ sym (among-filter t p (numbers 1 n)))
