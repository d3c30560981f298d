-- Tables with the same names and members stand for the same facts.
use Rattle.std.proofs.Common.{◌≡◌, ℕ, true, false, ◌||◌, cond, List, [], ◌∷◌, Some, refl, sym, ap, ◌∙◌}
use Rattle.std.specs.List.{list_any}
use Rattle.std.specs.Option.{option_map, option_map_or}
use Rattle.casemapping.specs.Fold.{is_same}
use Rattle.channel_state.specs.State.{State, is_some_one, nothing}
use Rattle.roster.specs.declared.deed.Deed.{Deed}
use Rattle.roster.specs.declared.tables.Channel.{Channel}
use Rattle.roster.specs.Tables.{channel_of, state_in, name_in, names_of}
use Rattle.roster.specs.Stands.{Alike, AreApart, AreHeld, HoldChannels}

states_alike : (ks ls : List Channel) (c : List ℕ) → Alike ks ls → state_in ls c ≡ state_in ks c
states_alike [] [] c a = refl
states_alike [] (l ∷ ls) c a = absurd a
states_alike (k ∷ ks) [] c a = absurd a
states_alike (k ∷ ks) (l ∷ ls) c a =
    ap (λ n. option_map_or (λ (x : Channel). x.held.state) (cond (is_same n c) (Some l) (channel_of ls c)) nothing) a.0
    ∙ elim (is_same k.name c) as
    (λ b. option_map_or (λ (x : Channel). x.held.state) (cond b (Some l) (channel_of ls c)) nothing
    ≡ option_map_or (λ (x : Channel). x.held.state) (cond b (Some k) (channel_of ks c)) nothing) [
      | true ↦ a.1
      | false ↦ states_alike ks ls c a.2
    ]

names_alike : (ks ls : List Channel) (c : List ℕ) → Alike ks ls → name_in ls c ≡ name_in ks c
names_alike [] [] c a = refl
names_alike [] (l ∷ ls) c a = absurd a
names_alike (k ∷ ks) [] c a = absurd a
names_alike (k ∷ ks) (l ∷ ls) c a =
    ap (λ n. option_map (λ (x : Channel). x.name) (cond (is_same n c) (Some l) (channel_of ls c))) a.0
    ∙ elim (is_same k.name c) as (λ b. option_map (λ (x : Channel). x.name) (cond b (Some l) (channel_of ls c))
    ≡ option_map (λ (x : Channel). x.name) (cond b (Some k) (channel_of ks c))) [
      | true ↦ ap (λ n. Some n) a.0
      | false ↦ names_alike ks ls c a.2
    ]

any_alike : (ks ls : List Channel) (c : List ℕ) → Alike ks ls → list_any (λ (l : Channel). is_same c l.name) ls
    ≡ list_any (λ (l : Channel). is_same c l.name) ks
any_alike [] [] c a = refl
any_alike [] (l ∷ ls) c a = absurd a
any_alike (k ∷ ks) [] c a = absurd a
any_alike (k ∷ ks) (l ∷ ls) c a = ap (λ n. is_same c n || list_any (λ (x : Channel). is_same c x.name) ls) a.0 ∙ ap
    (λ b. is_same c k.name || b) (any_alike ks ls c a.2)

apart_alike : (ks ls : List Channel) → Alike ks ls → AreApart ks → AreApart ls
apart_alike [] [] a h = tt
apart_alike [] (l ∷ ls) a h = absurd a
apart_alike (k ∷ ks) [] a h = absurd a
apart_alike (k ∷ ks) (l ∷ ls) a h = (
  ap (λ n. list_any (λ (x : Channel). is_same n x.name) ls) a.0
      ∙ any_alike ks ls k.name a.2 ∙ h.0,
  apart_alike ks ls a.2 h.1,
)

names_of_alike : (ks ls : List Channel) → Alike ks ls → names_of ls ≡ names_of ks
names_of_alike [] [] a = refl
names_of_alike [] (l ∷ ls) a = absurd a
names_of_alike (k ∷ ks) [] a = absurd a
names_of_alike (k ∷ ks) (l ∷ ls) a = ap (λ n. n ∷ names_of ls) a.0 ∙ ap (λ ns. k.name ∷ ns) (names_of_alike ks ls a.2)

held_alike : (ks ls : List Channel) → Alike ks ls → AreHeld ks → AreHeld ls
held_alike [] [] a h = tt
held_alike [] (l ∷ ls) a h = absurd a
held_alike (k ∷ ks) [] a h = absurd a
held_alike (k ∷ ks) (l ∷ ls) a h = (ap (λ (st : State). is_some_one st.members) a.1 ∙ h.0, held_alike ks ls a.2 h.1)

pub channels_alike : (ks ls : List Channel) (fs : List Deed) → Alike ks ls → HoldChannels ks fs → HoldChannels ls fs
channels_alike ks ls fs a i = record {
  states = λ c. states_alike ks ls c a ∙ i.states c;
  names = λ c. names_alike ks ls c a ∙ i.names c;
  channels = i.channels ∙ sym (names_of_alike ks ls a);
  apart = apart_alike ks ls a i.apart;
  held = held_alike ks ls a i.held;
}
