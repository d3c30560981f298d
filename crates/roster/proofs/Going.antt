-- A session leaves the channels that it is on and those that invite it, one after another.
use Rattle.std.proofs.Common.{◌≡◌, inl, inr, ℕ, ◌+◌, ◌≤◌, Bool, true, false, not, ◌||◌, ◌==◌, cond, List, [], ◌∷◌}
use Rattle.std.proofs.Common.{◌++◌, filter, Option, Some, None, arith, refl, sym, ap, ◌∙◌, subst}
use Rattle.std.proofs.lemmas.List.Folds.{list_any-append}
use Rattle.std.specs.Option.{option_map}
use Rattle.casemapping.specs.Fold.{is_same}
use Rattle.channel_state.specs.State.{State, among, without, is_some_one, nothing, after_gone, or_nothing}
use Rattle.channel_state.specs.Held.{ChannelView}
use Rattle.roster.specs.declared.deed.Deed.{Deed}
use Rattle.roster.specs.declared.deed.Deed.TheVariants.{Gone}
use Rattle.roster.specs.declared.tables.Channel.{Channel}
use Rattle.roster.specs.LookBack.{state, has_member, name, channels_on}
use Rattle.roster.specs.Legal.{AreLegal}
use Rattle.roster.specs.Tables.{channel_of, state_in, name_in, names_of, room_in, with_held, holds_name, Departs}
use Rattle.roster.specs.Stands.{AreApart, AreHeld, HaveSeats, LeavesThose, HoldChannels}
use Rattle.roster.proofs.Bools.{either, or-none, or-false}
use Rattle.roster.proofs.OnChannels.{among-members, state-lasts, members-lasting, someone-without}
use Rattle.roster.proofs.FieldLaws.{ranks}
use Rattle.roster.proofs.OwnChannels.{own_any}
use Rattle.roster.proofs.ChannelTable.{reheld, channel_of-same, channel_of-with, apart-with}
use Rattle.roster.proofs.ChannelTable.{apart-populated, kept, channel_of-populated, seats-populated}
use Rattle.roster.proofs.ChannelNames.{names_of-with, names_of-populated, held-populated}
use Rattle.roster.proofs.ChannelSteps.{found_state, name_at, name_reheld, kept_name, kept_state, named_now}
use Rattle.roster.proofs.Keyed.{all_populated}
use Rattle.roster.proofs.SeatLists.{filter_as}

-- ---- a session that isn't there

without_none : (t : ℕ) (ts : List ℕ) → among t ts ≡ false → without t ts ≡ ts
without_none t [] e = refl
without_none t (u ∷ ts) e =
    let parts = or-none (u == t) (among t ts) e in
    ap (λ b. cond (not b) (u ∷ without t ts) (without t ts)) parts.0 ∙ ap (λ us. u ∷ us) (without_none t ts parts.1)

pub untouched : (t : ℕ) (k : State) → among t k.members ≡ false → among t k.operators ≡ false
    → among t k.voices ≡ false → among t k.invited ≡ false → among t k.pardoned ≡ false → after_gone t k ≡ k
untouched t k m o v n p =
    let em = without_none t k.members m in
    let eo = without_none t k.operators o in
    let ev = without_none t k.voices v in
    let en = without_none t k.invited n in let ep = without_none t k.pardoned p in
    λ i. record {
      members = em i;
      operators = eo i;
      voices = ev i;
      invited = en i;
      pardoned = ep i;
      modes = k.modes;
      topic = k.topic;
      bans = k.bans;
    }

none_of : (a b : Bool) → (a ≡ true → b ≡ true) → b ≡ false → a ≡ false
none_of true b h e = sym (h refl) ∙ e
none_of false b h e = refl

-- the channels that it is on, and those that are noted, are all that it can leave
pub covered : (fs : List Deed) (t : ℕ) (own notes : List (List ℕ)) → AreLegal fs → own ≡ channels_on fs t
    → ((c : List ℕ) → among t (state fs c).invited ≡ true → holds_name c notes ≡ true) → (c : List ℕ)
    → holds_name c (own ++ notes) ≡ false → after_gone t (state fs c) ≡ state fs c
covered fs t own notes legal eo en c miss =
    let parts = or-none (holds_name c own) (holds_name c notes)
    (sym (list_any-append (λ k. is_same k c) own notes) ∙ miss) in
    let k = state fs c in let r = ranks fs c legal t in
    let off : among t k.members ≡ false = among-members fs t c ∙ sym (own_any fs t c) ∙ ap (holds_name c) (sym eo)
    ∙ parts.0 in
    let uninvited : among t k.invited ≡ false = none_of (among t k.invited) (holds_name c notes) (en c) parts.1 in
    untouched t k off (none_of (among t k.operators) (among t k.members) r.0 off) (none_of (among t k.voices)
    (among t k.members) r.1 off) uninvited (none_of (among t k.pardoned) (among t k.invited) r.2 uninvited)

-- ---- a session that left once leaves no more

without_twice : (t : ℕ) (ts : List ℕ) → without t (without t ts) ≡ without t ts
without_twice t [] = refl
without_twice t (u ∷ ts) = let us = without t ts in elim (either (u == t)) [
  | inl it ↦ ap (λ b. without t (cond (not b) (u ∷ us) us)) it ∙ without_twice t ts
      ∙ sym (ap (λ b. cond (not b) (u ∷ us) us) it)
  | inr miss ↦
      ap (λ b. without t (cond (not b) (u ∷ us) us)) miss ∙ ap
      (λ b. cond (not b) (u ∷ without t us) (without t us)) miss
      ∙ ap (λ xs. u ∷ xs) (without_twice t ts) ∙ sym (ap (λ b. cond (not b) (u ∷ us) us) miss)
]

departed_twice : (t : ℕ) (k : State) → after_gone t (after_gone t k) ≡ after_gone t k
departed_twice t k =
    let em = without_twice t k.members in
    let eo = without_twice t k.operators in
    let ev = without_twice t k.voices in let en = without_twice t k.invited in let ep = without_twice t k.pardoned in
    λ i. record {
      members = em i;
      operators = eo i;
      voices = ev i;
      invited = en i;
      pardoned = ep i;
      modes = k.modes;
      topic = k.topic;
      bans = k.bans;
    }

abbrev left : ℕ → State → State
left t k = or_nothing (after_gone t k)

left_twice : (t : ℕ) (k : State) → left t (left t k) ≡ left t k
left_twice t k = elim (either (is_some_one (after_gone t k).members)) [
  | inl some ↦
      let same : or_nothing (after_gone t k) ≡ after_gone t k = ap (λ b. cond b (after_gone t k) nothing) some in
      ap (left t) same ∙ ap or_nothing (departed_twice t k)
  | inr none ↦
      let same : or_nothing (after_gone t k) ≡ nothing = ap (λ b. cond b (after_gone t k) nothing) none in
      ap (left t) same ∙ sym same
]

had_one : (t : ℕ) (k : State) → is_some_one (left t k).members ≡ true → is_some_one k.members ≡ true
had_one t k e = elim (either (is_some_one k.members)) [
  | inl was ↦ was
  | inr was_not ↦ absurd (let f : true ≡ false = sym e ∙ ap is_some_one (members-lasting (after_gone t k))
      ∙ someone-without t k.members was_not in cc)
]

-- ---- a table in which each channel has a member

module _ (ks : List Channel) (apart : AreApart ks) (held : AreHeld ks) where
  found_held : (c : List ℕ) → channel_of ks c ≡ kept (channel_of ks c)
  found_held c = ap (λ (ls : List Channel). channel_of ls c) (sym (all_populated ks held))
      ∙ channel_of-populated ks c apart

  lasts_in : (c : List ℕ) → or_nothing (state_in ks c) ≡ state_in ks c
  lasts_in c = sym (kept_state (channel_of ks c)) ∙ ap found_state (sym (found_held c))

  pub leaves_none : (t : ℕ) → LeavesThose ks ks [] t
  leaves_none t = record {
    states = λ c. refl;
    names = λ c. ap name_at (found_held c) ∙ kept_name (channel_of ks c);
    channels = ap names_of (sym (all_populated ks held)) ∙ names_of-populated ks
        (λ c. is_some_one (state_in ks c).members) apart (λ c. refl);
    apart = apart;
    held = held;
    seats = λ ds h. h;
  }

seats_with : (ds : List Deed) (ks : List Channel) (n : List ℕ) (m : ChannelView) → HaveSeats ds ks
    → room_in ks n ≤ m.room + 0 → HaveSeats ds (with_held ks n m)
seats_with ds [] n m h l = tt
seats_with ds (k ∷ ks) n m h l = elim (either (is_same k.name n)) [
  | inl same ↦ let r : k.held.room ≤ m.room + 0 = rw same at l in rw same ((let a = h.0 in omega arith), h.1)
  | inr other ↦ let r : room_in ks n ≤ m.room + 0 = rw other at l in rw other (h.0, seats_with ds ks n m h.1 r)
]

state_by : (o : Option Channel) (m : ChannelView) (t : ℕ) → m.state ≡ after_gone t (found_state o)
    → found_state (option_map (reheld m) o) ≡ after_gone t (found_state o)
state_by None m t e = refl
state_by (Some k) m t e = e

-- ---- one channel

module _ (ks ls : List Channel) (n : List ℕ) (t : ℕ) (apart : AreApart ks) (held : AreHeld ks)
    (d : Departs ks ls n t) where
  apart_mid : AreApart d.between
  apart_mid = subst AreApart (sym d.reholds.changed) (apart-with ks n d.reholds.held apart)

  names_stay : (c : List ℕ) → name_in d.between c ≡ name_in ks c
  names_stay c =
      ap (λ (xs : List Channel). name_in xs c) d.reholds.changed ∙ ap name_at (channel_of-with ks n c d.reholds.held)
      ∙ elim (is_same n c) as
      (λ b. name_at (cond b (option_map (reheld d.reholds.held) (channel_of ks c)) (channel_of ks c))
      ≡ name_at (channel_of ks c)) [ true ↦ name_reheld (channel_of ks c) d.reholds.held | false ↦ refl ]

  state_now : (c : List ℕ) → state_in d.between c ≡ cond (is_same n c) (after_gone t (state_in ks c)) (state_in ks c)
  state_now c =
      ap (λ (xs : List Channel). state_in xs c) d.reholds.changed
      ∙ ap found_state (channel_of-with ks n c d.reholds.held)
      ∙ elim (either (is_same n c)) [
        | inl same ↦
            ap (λ b. found_state (cond b (option_map (reheld d.reholds.held) (channel_of ks c)) (channel_of ks c)))
            same
            ∙ state_by (channel_of ks c) d.reholds.held t
            (d.reholds.state ∙ ap (λ o. after_gone t (found_state o)) (channel_of-same ks n c same))
            ∙ sym (ap (λ b. cond b (after_gone t (state_in ks c)) (state_in ks c)) same)
        | inr other ↦
            ap (λ b. found_state (cond b (option_map (reheld d.reholds.held) (channel_of ks c)) (channel_of ks c)))
            other
            ∙ sym (ap (λ b. cond b (after_gone t (state_in ks c)) (state_in ks c)) other)
      ]

  lasting_by : (b : Bool) (new old : State) → or_nothing old ≡ old → or_nothing (cond b new old)
      ≡ cond b (or_nothing new) old
  lasting_by true new old e = refl
  lasting_by false new old e = e

  ended_state : (c : List ℕ) → state_in ls c ≡ or_nothing (state_in d.between c)
  ended_state c = ap (λ (xs : List Channel). state_in xs c) d.ended
      ∙ ap found_state (channel_of-populated d.between c apart_mid) ∙ kept_state (channel_of d.between c)

  members_now : (c : List ℕ) → (state_in d.between c).members ≡ (state_in ls c).members
  members_now c = sym (members-lasting (state_in d.between c)) ∙ ap (λ (st : State). st.members) (sym (ended_state c))

  pub leaves_one : LeavesThose ks ls (n ∷ []) t
  leaves_one = record {
    states = λ c.
        ended_state c ∙ ap or_nothing (state_now c) ∙ lasting_by (is_same n c) (after_gone t (state_in ks c))
        (state_in ks c) (lasts_in ks apart held c)
        ∙ ap (λ b. cond b (left t (state_in ks c)) (state_in ks c)) (sym (or-false (is_same n c)));
    names = λ c.
        ap (λ (xs : List Channel). name_in xs c) d.ended ∙ ap name_at (channel_of-populated d.between c apart_mid)
        ∙ kept_name (channel_of d.between c)
        ∙ ap (λ ms. cond (is_some_one ms) (name_in d.between c) None) (members_now c)
        ∙ ap (λ o. cond (is_some_one (state_in ls c).members) o None) (names_stay c);
    channels =
        ap names_of d.ended ∙ names_of-populated d.between (λ c. is_some_one (state_in ls c).members) apart_mid
        (λ c. ap is_some_one (members_now c))
        ∙ ap (filter (λ c. is_some_one (state_in ls c).members))
        (ap names_of d.reholds.changed ∙ names_of-with ks n d.reholds.held);
    apart = subst AreApart (sym d.ended) (apart-populated d.between apart_mid);
    held = subst AreHeld (sym d.ended) (held-populated d.between);
    seats = λ ds h. subst (HaveSeats ds) (sym d.ended) (seats-populated ds d.between
        (subst (HaveSeats ds) (sym d.reholds.changed) (seats_with ds ks n d.reholds.held h d.reholds.room)));
  }

-- ---- more of them

-- what passes the later test passed the earlier
filter_filter : {A : Type 0} (p q : A → Bool) → ((x : A) → q x ≡ true → p x ≡ true) → (xs : List A)
    → filter q (filter p xs) ≡ filter q xs
filter_filter p q h [] = refl
filter_filter p q h (x ∷ xs) = elim (either (p x)) [
  | inl it ↦ ap (λ b. filter q (cond b (x ∷ filter p xs) (filter p xs))) it ∙ ap
      (λ ys. cond (q x) (x ∷ ys) ys) (filter_filter p q h xs)
  | inr miss ↦
      let fails : q x ≡ false = elim
      (either (q x)) [ inl is ↦ absurd (let f : false ≡ true = sym miss ∙ h x is in cc) | inr no_q ↦ no_q ] in
      ap (λ b. filter q (cond b (x ∷ filter p xs) (filter p xs))) miss ∙ filter_filter p q h xs
      ∙ sym (ap (λ b. cond b (x ∷ filter q xs) (filter q xs)) fails)
]

both_left : (t : ℕ) (a b : Bool) (k : State) → cond b (left t (cond a (left t k) k)) (cond a (left t k) k)
    ≡ cond (a || b) (left t k) k
both_left t true true k = left_twice t k
both_left t true false k = refl
both_left t false true k = refl
both_left t false false k = refl

cond_one : (b : Bool) (t : ℕ) (k : State) → is_some_one (cond b (left t k) k).members ≡ true
    → is_some_one k.members ≡ true
cond_one true t k e = had_one t k e
cond_one false t k e = e

named_twice : (now mid : Bool) (o : Option (List ℕ)) → (now ≡ true → mid ≡ true)
    → cond now (cond mid o None) None ≡ cond now o None
named_twice true mid o h = ap (λ b. cond b o None) (h refl)
named_twice false mid o h = refl

module _ (ks ms ls : List Channel) (cs ds : List (List ℕ)) (t : ℕ) (v : LeavesThose ks ms cs t)
    (w : LeavesThose ms ls ds t) where
  was : (c : List ℕ) → is_some_one (state_in ls c).members ≡ true → is_some_one (state_in ms c).members ≡ true
  was c e = cond_one (holds_name c ds) t (state_in ms c)
      (ap (λ (st : State). is_some_one st.members) (sym (w.states c)) ∙ e)

  pub leaves_more : LeavesThose ks ls (cs ++ ds) t
  leaves_more = record {
    states = λ c.
        w.states c ∙ ap (λ st. cond (holds_name c ds) (left t st) st) (v.states c)
        ∙ both_left t (holds_name c cs) (holds_name c ds) (state_in ks c)
        ∙ ap (λ b. cond b (left t (state_in ks c)) (state_in ks c)) (sym (list_any-append (λ k. is_same k c) cs ds));
    names = λ c.
        w.names c ∙ ap (λ o. cond (is_some_one (state_in ls c).members) o None) (v.names c)
        ∙ named_twice (is_some_one (state_in ls c).members) (is_some_one (state_in ms c).members)
        (name_in ks c) (was c);
    channels = w.channels ∙ ap (filter (λ c. is_some_one (state_in ls c).members)) v.channels ∙ filter_filter
        (λ c. is_some_one (state_in ms c).members) (λ c. is_some_one (state_in ls c).members) was (names_of ks);
    apart = w.apart;
    held = w.held;
    seats = λ es h. w.seats es (v.seats es h);
  }

-- ---- what facts say then

module _ (ks ls : List Channel) (fs : List Deed) (cs : List (List ℕ))
    (t : ℕ) (i : HoldChannels ks fs) (v : LeavesThose ks ls cs t)
    (cover : (c : List ℕ) → holds_name c cs ≡ false → after_gone t (state fs c) ≡ state fs c) where
  left_now : (c : List ℕ) → state_in ls c ≡ left t (state fs c)
  left_now c = v.states c ∙ elim (either (holds_name c cs)) [
    | inl it ↦ ap (λ b. cond b (left t (state_in ks c)) (state_in ks c)) it ∙ ap (left t) (i.states c)
    | inr miss ↦ ap (λ b. cond b (left t (state_in ks c)) (state_in ks c)) miss ∙ i.states c
        ∙ sym (ap or_nothing (cover c miss) ∙ state-lasts fs c)
  ]

  there_now : (c : List ℕ) → is_some_one (state_in ls c).members ≡ has_member (Gone t ∷ fs) c
  there_now c = ap (λ (st : State). is_some_one st.members) (left_now c)

  pub channels_left : HoldChannels ls (Gone t ∷ fs)
  channels_left = record {
    states = left_now;
    names = λ c.
        v.names c ∙ ap (λ b. cond b (name_in ks c) None) (there_now c)
        ∙ ap (λ o. cond (has_member (Gone t ∷ fs) c) o None) (i.names c)
        ∙ named_now (has_member (Gone t ∷ fs) c) (has_member fs c) (name fs c) (had_one t (state fs c));
    channels = ap (filter (has_member (Gone t ∷ fs))) i.channels ∙ sym (filter_as (has_member (Gone t ∷ fs))
        (λ c. is_some_one (state_in ls c).members) there_now (names_of ks)) ∙ sym v.channels;
    apart = v.apart;
    held = v.held;
  }
