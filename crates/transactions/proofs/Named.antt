-- Names of channels, and which deeds may come next.
use Rattle.std.proofs.Common.{◌≡◌, inl, inr, ℕ, Bool, ◌⊎◌, true, false, cond, List, [], ◌∷◌, Option, Some, None}
use Rattle.std.proofs.Common.{option_copied, unwrap_or, IfSome, IfOk, Result, Ok, Err, Bor, refl, sym, subst, ap, ◌∙◌}
use Rattle.std.specs.Option.{option_or, option_map}
use Rattle.roster.specs.Laws.{ChannelsHaveOneName, SpelledNamesAreNames}
use Rattle.roster.specs.declared.deed.Deed.{Deed}
use Rattle.roster.specs.declared.deed.Deed.TheVariants.{Opened, NickSet, UserSet, HoldSet, CapsSet}
use Rattle.roster.specs.declared.deed.Deed.TheVariants.{ExchangeSet, LoggedIn, Enrolled, AwaySet}
use Rattle.roster.specs.declared.deed.Deed.TheVariants.{InvisibleSet, ChannelMade, Changed, Ended, Gone}
use Rattle.casemapping.specs.Fold.{is_same}
use Rattle.casemapping.proofs.SameNames.{is_same-refl}
use Rattle.channel_state.specs.declared.change.Change.{Change}
use Rattle.channel_state.specs.State.{State, is_some_one, without, made_by, with_change, after_gone, or_nothing}
use Rattle.channel_state.specs.State.{nothing}
use Rattle.roster.proofs.OnChannels.{members-lasting}
use Rattle.roster.specs.LookBack.{state, has_member, name, tells_name}
use Rattle.roster.specs.Legal.{IsNext}
use Rattle.transactions.specs.Tells.{touches}
use Rattle.transactions.specs.Seen.{Seen, seen, IsSeen}

-- a test is true or false
either : (b : Bool) → (b ≡ true) ⊎ (b ≡ false)
either true = inl refl
either false = inr refl

someone-without : (s : ℕ) (ts : List ℕ) → is_some_one ts ≡ false → is_some_one (without s ts) ≡ false
someone-without s [] e = refl
someone-without s (t ∷ ts) e = absurd (let f : true ≡ false = e in cc)

pub copied_unwrap : {T : Type 0} (a : Option (Option (Bor T))) (b : Option (Bor T))
    → option_copied (unwrap_or a b) ≡ unwrap_or (option_map (λ o. option_copied o) a) (option_copied b)
copied_unwrap None b = refl
copied_unwrap (Some x) b = refl

pub copied_or : {T : Type 0} (a b : Option (Bor T)) → option_copied (option_or a b)
    ≡ option_or (option_copied a) (option_copied b)
copied_or None b = refl
copied_or (Some x) b = refl

-- whoever is left was there
left_some : (t : ℕ) (k : State) → is_some_one (or_nothing (after_gone t k)).members ≡ true → is_some_one k.members
    ≡ true
left_some t k e = elim (either (is_some_one k.members)) [
  | inl some ↦ some
  | inr none ↦ absurd (let f : true ≡ false = sym e ∙ ap is_some_one (members-lasting (after_gone t k))
      ∙ someone-without t k.members none in cc)
]

same_there : ChannelsHaveOneName → (fs : List Deed) (k c : List ℕ) → is_same k c ≡ true → has_member fs k ≡ true
    → has_member fs c ≡ true
same_there law fs k c e h = ap (λ (st : State). is_some_one st.members) (sym (law fs k c e).0) ∙ h

-- a channel that is there after a deed has the name that it tells, or was there before it
pub told : ChannelsHaveOneName → (fs : List Deed) (d : Deed) (c : List ℕ) (o : Option (List ℕ))
    → IsNext fs d → (has_member fs c ≡ true → o ≡ Some (name fs c)) → has_member (d ∷ fs) c ≡ true
    → option_or (tells_name c d) o ≡ Some (name (d ∷ fs) c)
told law fs (ChannelMade t k) c o may h e = elim (either (is_same k c)) [
  | inl same ↦ rw same refl
  | inr other ↦ let was : has_member fs c
      ≡ true = sym (ap (λ b. is_some_one (cond b (made_by t) (state fs c)).members) other) ∙ e in rw other (h was)
]
told law fs (Changed k x) c o may h e = elim (either (is_same k c)) [
  | inl same ↦ h (same_there law fs k c same may.0)
  | inr other ↦ h
      (sym (ap (λ b. is_some_one (cond b (or_nothing (with_change x (state fs c))) (state fs c)).members) other) ∙ e)
]
told law fs (Gone t) c o may h e = h (left_some t (state fs c) e)
told law fs _ c o may h e = h e

-- ---- a channel that is seen

-- it is what its own name says
pub seen_is : ChannelsHaveOneName → SpelledNamesAreNames → (fs : List Deed) (c : List ℕ) → has_member fs c ≡ true
    → IsSeen fs (record { name = name fs c; state = state fs c })
seen_is law spelled fs c e =
    let same : state fs (name fs c) ≡ state fs c = (law fs (name fs c) c (spelled fs c)).0 in
    record { there = ap (λ (st : State). is_some_one st.members) same ∙ e; state = same; lasts = e }

seen_alike : (fs gs : List Deed) (c : List ℕ) → state gs c ≡ state fs c → name gs c ≡ name fs c → seen gs c ≡ seen fs c
seen_alike fs gs c st named =
    ap (λ (n : List ℕ). cond (has_member gs c) (Some (record { name = n; state = state gs c })) None) named
    ∙ ap (λ (k : State). cond (is_some_one k.members) (Some (record { name = name fs c; state = k })) None) st

-- a fact that doesn't tell of it leaves it as it is
pub untouched : (fs : List Deed) (d : Deed) (c : List ℕ) → touches c d ≡ false → seen (d ∷ fs) c ≡ seen fs c
untouched fs (ChannelMade t k) c e = seen_alike fs (ChannelMade t k ∷ fs) c
    (ap (λ b. cond b (made_by t) (state fs c)) e) (ap (λ b. unwrap_or (cond b (Some k) None) (name fs c)) e)
untouched fs (Changed k x) c e = seen_alike fs (Changed k x ∷ fs) c
    (ap (λ b. cond b (or_nothing (with_change x (state fs c))) (state fs c)) e) refl
untouched fs (Gone t) c e = absurd (let f : true ≡ false = e in cc)
untouched fs _ c e = refl

-- a channel that is seen is known, and one whose name isn't known isn't there
pub known : ChannelsHaveOneName → SpelledNamesAreNames → (fs : List Deed) (c : List ℕ) → IfSome (seen fs c) (IsSeen fs)
known law spelled fs c = elim (either (has_member fs c)) [
  | inl there ↦ rw there (seen_is law spelled fs c there)
  | inr nobody ↦ rw nobody tt
]

pub known_ok : {E : Type 0} → ChannelsHaveOneName → SpelledNamesAreNames → (fs : List Deed) (c : List ℕ)
    (r : Result (Option Seen) E) → IfOk r (λ o. o ≡ seen fs c) → IfOk r (λ o. IfSome o (IsSeen fs))
known_ok law spelled fs c (Ok o) e = subst (λ (o : Option Seen). IfSome o (IsSeen fs)) (sym e) (known law spelled fs c)
known_ok law spelled fs c (Err x) e = tt

-- and still is after a change that leaves somebody on it
pub seen_changed : (fs : List Deed) (k : Seen) (x : Change) → IsSeen fs k → is_some_one (with_change x k.state).members
    ≡ true → IsSeen (Changed k.name x ∷ fs) (record { name = k.name; state = with_change x k.state })
seen_changed fs k x i e =
    let now : state (Changed k.name x ∷ fs) k.name ≡ with_change x k.state =
    ap (λ b. cond b (or_nothing (with_change x (state fs k.name))) (state fs k.name)) (is_same-refl k.name) ∙ ap
    (λ st. or_nothing (with_change x st)) i.state
    ∙ ap (λ b. cond b (with_change x k.state) nothing) e in
    record { there = ap (λ (st : State). is_some_one st.members) now ∙ e; state = now; lasts = e }

pub seen_after : (fs gs : List Deed) (k j : Seen) (x : Change) → gs ≡ Changed k.name x ∷ fs
    → j ≡ record { name = k.name; state = with_change x k.state } → IsSeen fs k
    → is_some_one (with_change x k.state).members ≡ true → IsSeen gs j
seen_after fs gs k j x facts now i e = subst (λ (hs : List Deed). IsSeen hs j) (sym facts)
    (subst (IsSeen (Changed k.name x ∷ fs)) (sym now) (seen_changed fs k x i e))
