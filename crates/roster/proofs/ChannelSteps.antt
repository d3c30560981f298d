-- The table of channels stands for the facts after each of them.
use Rattle.std.proofs.Common.{◌≡◌, inl, inr, ℕ, Bool, true, false, cond, List, [], ◌∷◌, ◌++◌, filter}
use Rattle.std.proofs.Common.{unwrap_or, Option, Some, None, refl, sym, ap, ◌∙◌, subst}
use Rattle.std.specs.Option.{is_some, option_map, option_map_or}
use Rattle.roster.specs.declared.deed.Deed.{Deed}
use Rattle.roster.specs.declared.deed.Deed.TheVariants.{ChannelMade, Changed, Gone}
use Rattle.roster.specs.declared.tables.Channel.{Channel}
use Rattle.casemapping.specs.Fold.{is_same}
use Rattle.channel_state.specs.declared.change.Change.{Change}
use Rattle.channel_state.specs.State.{State, is_some_one, nothing, made_by, with_change, or_nothing}
use Rattle.channel_state.specs.Held.{ChannelView}
use Rattle.roster.specs.LookBack.{state, members, has_member, name, name_of}
use Rattle.roster.specs.Tables.{channel_of, state_in, name_in, names_of, Reholds, Changes, Makes, is_tame}
use Rattle.roster.specs.Stands.{AreApart, AreHeld, HoldChannels}
use Rattle.roster.proofs.Bools.{either}
use Rattle.roster.proofs.OnChannels.{state-same, state-lasts, members-lasting}
use Rattle.roster.proofs.ChannelTable.{channel_of-same, reheld, channel_of-with, channel_of-push}
use Rattle.roster.proofs.ChannelTable.{channel_of-push_other, apart-with, apart-push}
use Rattle.roster.proofs.ChannelTable.{apart-populated, kept, channel_of-populated}
use Rattle.roster.proofs.ChannelNames.{names_of-push, names_of-with, names_of-populated, held-push, held-populated}

-- a fact that tells of no channel
pub channels_plain : (d : Deed) (ks : List Channel) (fs : List Deed) → is_tame d ≡ true → HoldChannels ks fs
    → HoldChannels ks (d ∷ fs)
channels_plain (ChannelMade u k) ks fs p i = absurd (let f : false ≡ true = p in cc)
channels_plain (Changed k x) ks fs p i = absurd (let f : false ≡ true = p in cc)
channels_plain (Gone u) ks fs p i = absurd (let f : false ≡ true = p in cc)
channels_plain _ ks fs p i = record {
  states = i.states;
  names = i.names;
  channels = i.channels;
  apart = i.apart;
  held = i.held;
}

-- ---- a channel

-- the channel that a look-up finds
abbrev pub found_state : Option Channel → State
found_state o = option_map_or (λ (k : Channel). k.held.state) o nothing

abbrev pub name_at : Option Channel → Option (List ℕ)
name_at o = option_map (λ (k : Channel). k.name) o

pub name_reheld : (o : Option Channel) (m : ChannelView) → name_at (option_map (reheld m) o) ≡ name_at o
name_reheld None m = refl
name_reheld (Some k) m = refl

state_reheld : (o : Option Channel) (m : ChannelView) → is_some (name_at o) ≡ true
    → found_state (option_map (reheld m) o) ≡ m.state
state_reheld None m e = absurd (let f : false ≡ true = e in cc)
state_reheld (Some k) m e = refl

none_at : (o : Option Channel) → name_at o ≡ None → o ≡ None
none_at None e = refl
none_at (Some k) e = absurd (let f : Some k.name ≡ None = e in cc)

pub kept_name : (o : Option Channel) → name_at (kept o) ≡ cond (is_some_one (found_state o).members) (name_at o) None
kept_name None = refl
kept_name (Some k) = elim (is_some_one k.held.state.members) as
    (λ b. name_at (cond b (Some k) None) ≡ cond b (Some k.name) None) [ true ↦ refl | false ↦ refl ]

pub kept_state : (o : Option Channel) → found_state (kept o) ≡ or_nothing (found_state o)
kept_state None = refl
kept_state (Some k) = elim (is_some_one k.held.state.members) as
    (λ b. found_state (cond b (Some k) None) ≡ cond b k.held.state nothing) [ true ↦ refl | false ↦ refl ]

-- a channel that is there now has the name that it had
pub named_now : (now was : Bool) (n : List ℕ) → (now ≡ true → was ≡ true) → cond now (cond was (Some n) None) None
    ≡ cond now (Some n) None
named_now true was n h = ap (λ b. cond b (Some n) None) (h refl)
named_now false was n h = refl

module _ (ks : List Channel) (fs : List Deed) (i : HoldChannels ks fs) where
  -- a channel that has a member is in the table
  pub found : (c : List ℕ) → has_member fs c ≡ true → is_some (name_in ks c) ≡ true
  found c e = ap is_some (i.names c ∙ ap (λ b. cond b (Some (name fs c)) None) e)

  -- and no other
  pub unfound : (c : List ℕ) → has_member fs c ≡ false → channel_of ks c ≡ None
  unfound c e = none_at (channel_of ks c) (i.names c ∙ ap (λ b. cond b (Some (name fs c)) None) e)

  -- ---- a channel changes

  module _ (mid : List Channel) (n : List ℕ) (x : Change) (there : has_member fs n ≡ true)
      (r : Reholds ks mid n (with_change x (state_in ks n)) 1) where
    here : (c : List ℕ) → is_same n c ≡ true → has_member fs c ≡ true
    here c e = ap (λ (st : State). is_some_one st.members) (sym (state-same fs n c e)) ∙ there

    names_stay : (c : List ℕ) → name_in mid c ≡ name_in ks c
    names_stay c =
        ap (λ (xs : List Channel). name_in xs c) r.changed ∙ ap name_at (channel_of-with ks n c r.held)
        ∙ elim (is_same n c) as
        (λ b. name_at (cond b (option_map (reheld r.held) (channel_of ks c)) (channel_of ks c))
        ≡ name_at (channel_of ks c)) [ true ↦ name_reheld (channel_of ks c) r.held | false ↦ refl ]

    state_now : (c : List ℕ) → state_in mid c ≡ cond (is_same n c) (with_change x (state fs c)) (state fs c)
    state_now c =
        ap (λ (xs : List Channel). state_in xs c) r.changed ∙ ap found_state (channel_of-with ks n c r.held)
        ∙ elim (either (is_same n c)) [
          | inl same ↦
              ap (λ b. found_state (cond b (option_map (reheld r.held) (channel_of ks c)) (channel_of ks c))) same
              ∙ state_reheld (channel_of ks c) r.held (found c (here c same)) ∙ r.state
              ∙ ap (with_change x) (i.states n ∙ state-same fs n c same)
              ∙ sym (ap (λ b. cond b (with_change x (state fs c)) (state fs c)) same)
          | inr other ↦
              ap (λ b. found_state (cond b (option_map (reheld r.held) (channel_of ks c)) (channel_of ks c))) other
              ∙ i.states c ∙ sym (ap (λ b. cond b (with_change x (state fs c)) (state fs c)) other)
        ]

    lasting_by : (b : Bool) (new old : State) → or_nothing old ≡ old → or_nothing (cond b new old)
        ≡ cond b (or_nothing new) old
    lasting_by true new old e = refl
    lasting_by false new old e = e

    -- the channel after it, where it ends with its last member
    reshaped_now : (c : List ℕ) → or_nothing (state_in mid c) ≡ state (Changed n x ∷ fs) c
    reshaped_now c = ap or_nothing (state_now c) ∙ lasting_by (is_same n c) (with_change x (state fs c)) (state fs c)
        (state-lasts fs c)

    members_now : (c : List ℕ) → (state_in mid c).members ≡ members (Changed n x ∷ fs) c
    members_now c = sym (members-lasting (state_in mid c)) ∙ ap (λ (st : State). st.members) (reshaped_now c)

    had : (c : List ℕ) → has_member (Changed n x ∷ fs) c ≡ true → has_member fs c ≡ true
    had c e = elim (either (is_same n c)) [
      | inl same ↦ here c same
      | inr other ↦ sym
          (ap (λ b. is_some_one (cond b (or_nothing (with_change x (state fs c))) (state fs c)).members) other) ∙ e
    ]

    apart_mid : AreApart mid
    apart_mid = subst AreApart (sym r.changed) (apart-with ks n r.held i.apart)

  pub channels_changed : (ls : List Channel) (n : List ℕ) (x : Change) → has_member fs n ≡ true → Changes ks ls n x
      → HoldChannels ls (Changed n x ∷ fs)
  channels_changed ls n x was v =
      let mid = v.between in
      let r = v.reholds in let there = has_member (Changed n x ∷ fs) in let apart = apart_mid mid n x was r in
      record {
        states = λ c. ap (λ (xs : List Channel). state_in xs c) v.ended ∙ ap found_state
            (channel_of-populated mid c apart) ∙ kept_state (channel_of mid c) ∙ reshaped_now mid n x was r c;
        names = λ c.
            ap (λ (xs : List Channel). name_in xs c) v.ended ∙ ap name_at (channel_of-populated mid c apart)
            ∙ kept_name (channel_of mid c)
            ∙ ap (λ ms. cond (is_some_one ms) (name_in mid c) None) (members_now mid n x was r c)
            ∙ ap (λ o. cond (there c) o None) (names_stay mid n x was r c ∙ i.names c)
            ∙ named_now (there c) (has_member fs c) (name fs c) (had mid n x was r c);
        channels =
            ap (filter there) (i.channels ∙ sym (ap names_of r.changed ∙ names_of-with ks n r.held))
            ∙ sym (names_of-populated mid there apart (λ c. ap is_some_one (members_now mid n x was r c)))
            ∙ ap names_of (sym v.ended);
        apart = subst AreApart (sym v.ended) (apart-populated mid apart);
        held = subst AreHeld (sym v.ended) (held-populated mid);
      }

  -- ---- a channel is made

  pub channels_made : (ls : List Channel) (t room : ℕ) (n : List ℕ) → has_member fs n ≡ false → Makes ks ls n t room
      → HoldChannels ls (ChannelMade t n ∷ fs)
  channels_made ls t room n none m =
      let k : Channel = record { name = n; held = m.held } in
      let absent : (c : List ℕ) → is_same n c ≡ true → channel_of ks c
      ≡ None = λ c e. sym (channel_of-same ks n c e) ∙ unfound n none in
      let new : (c : List ℕ) → channel_of ls c ≡ cond (is_same n c) (Some k) (channel_of ks c) = λ c.
      ap (λ (xs : List Channel). channel_of xs c) m.added ∙ elim (either (is_same n c)) [
        | inl same ↦ channel_of-push ks k c (absent c same) ∙ ap (λ b. cond b (Some k) None) same
            ∙ sym (ap (λ b. cond b (Some k) (channel_of ks c)) same)
        | inr other ↦ channel_of-push_other ks k c other ∙ sym (ap (λ b. cond b (Some k) (channel_of ks c)) other)
      ] in
      record {
        states = λ c.
            ap found_state (new c) ∙ elim (is_same n c) as (λ b. found_state (cond b (Some k) (channel_of ks c))
            ≡ cond b (made_by t) (state fs c)) [ true ↦ m.state | false ↦ i.states c ];
        names = λ c.
            ap name_at (new c) ∙ made_name c (is_same n c) refl;
        channels = ap (λ cs. cs ++ n ∷ []) i.channels ∙ sym (ap names_of m.added ∙ names_of-push ks k);
        apart = subst AreApart (sym m.added) (apart-push ks k i.apart (unfound n none));
        held = subst AreHeld (sym m.added)
            (held-push ks k i.held (ap (λ (st : State). is_some_one st.members) m.state));
      }
    where
      made_by_test : (c : List ℕ) (b : Bool)
          → name_at (cond b (Some (record { name = n; held = m.held })) (channel_of ks c)) ≡ cond (is_some_one
          (cond b (made_by t) (state fs c)).members) (Some (unwrap_or (cond b (Some n) None) (name fs c))) None
      made_by_test c true = refl
      made_by_test c false = i.names c

      made_name : (c : List ℕ) (b : Bool) → is_same n c ≡ b → name_at
          (cond b (Some (record { name = n; held = m.held })) (channel_of ks c)) ≡ name_of (ChannelMade t n ∷ fs) c
      made_name c b e = made_by_test c b ∙ sym (ap (λ x. cond (is_some_one
          (cond x (made_by t) (state fs c)).members) (Some (unwrap_or (cond x (Some n) None) (name fs c))) None) e)
