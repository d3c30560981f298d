-- The names of the channels in the table.
use Rattle.std.proofs.Common.{◌≡◌, inl, inr, ℕ, zero, suc, Bool, true, false, cond, List, [], ◌∷◌, ◌++◌, filter}
use Rattle.std.proofs.Common.{length, slice_get, Option, Some, None, refl, sym, ap, ◌∙◌, subst}
use Rattle.std.specs.List.{list_any}
use Rattle.std.specs.Option.{option_map, option_map_or}
use Rattle.roster.specs.declared.tables.Channel.{Channel}
use Rattle.channel_state.specs.Held.{ChannelView}
use Rattle.casemapping.specs.Fold.{is_same}
use Rattle.channel_state.specs.State.{State, is_some_one, nothing}
use Rattle.roster.specs.Tables.{channel_of, state_in, names_of, with_held, is_populated, with_someone}
use Rattle.roster.specs.Stands.{AreApart, AreHeld}
use Rattle.roster.proofs.Bools.{either, or-none}
use Rattle.casemapping.proofs.SameNames.{is_same-refl}

-- each of these is what a look-up of its name finds
abbrev pub Owned : List Channel → List Channel → Type 0
Owned full [] = Unit {0}
Owned full (k ∷ ks) = (channel_of full k.name ≡ Some k) × Owned full ks

lift : (k : Channel) (full ks : List Channel) → list_any (λ (l : Channel). is_same k.name l.name) ks ≡ false
    → Owned full ks → Owned (k ∷ full) ks
lift k full [] e o = tt
lift k full (l ∷ ks) e o =
    let p = or-none (is_same k.name l.name) (list_any (λ (x : Channel). is_same k.name x.name) ks) e in
    (ap (λ b. cond b (Some k) (channel_of full l.name)) p.0 ∙ o.0, lift k full ks p.1 o.1)

pub owned : (ks : List Channel) → AreApart ks → Owned ks ks
owned [] a = tt
owned (k ∷ ks) a = (
  ap (λ b. cond b (Some k) (channel_of ks k.name)) (is_same-refl k.name),
  lift k ks ks a.0 (owned ks a.1),
)

-- what stands at a place is what a look-up of its name finds
pub owned_at : (full ks : List Channel) (i : ℕ) (k : Channel) → Owned full ks → slice_get ks i ≡ Some k
    → channel_of full k.name ≡ Some k
owned_at full [] i k o e = absurd (let f : ◌≡◌ {A = Option Channel} None (Some k) = e in cc)
owned_at full (x ∷ ks) zero k o e = let f : Some x ≡ Some k = e in let g : x ≡ k = cc in
    subst (λ (y : Channel). channel_of full y.name ≡ Some y) g o.0
owned_at full (x ∷ ks) (suc i) k o e = owned_at full ks i k o.1 e

-- the members of a channel are found by its name
pub own_members : (full : List Channel) (k : Channel) → channel_of full k.name ≡ Some k
    → state_in full k.name ≡ k.held.state
own_members full k e = ap (λ o. option_map_or (λ (x : Channel). x.held.state) o nothing) e

-- ---- names

pub names_of-push : (ks : List Channel) (k : Channel) → names_of (ks ++ k ∷ []) ≡ names_of ks ++ k.name ∷ []
names_of-push [] k = refl
names_of-push (x ∷ ks) k = ap (λ ns. x.name ∷ ns) (names_of-push ks k)

pub names_of-with : (ks : List Channel) (n : List ℕ) (m : ChannelView) → names_of (with_held ks n m) ≡ names_of ks
names_of-with [] n m = refl
names_of-with (k ∷ ks) n m = elim (is_same k.name n) as (λ b. names_of
    (cond b (record { name = k.name; held = m } ∷ ks) (k ∷ with_held ks n m)) ≡ k.name ∷ names_of ks) [
      | true ↦ refl
      | false ↦ ap (λ ns. k.name ∷ ns) (names_of-with ks n m)
    ]

populated_names : (full ks : List Channel) (there : List ℕ → Bool)
    → ((c : List ℕ) → is_some_one (state_in full c).members ≡ there c) → Owned full ks
    → names_of (with_someone ks) ≡ filter there (names_of ks)
populated_names full [] there e o = refl
populated_names full (k ∷ ks) there e o =
    let ih = populated_names full ks there e o.1 in
    let here : there k.name ≡ is_populated k = sym (e k.name) ∙ ap
    (λ (st : State). is_some_one st.members) (own_members full k o.0) in
    elim (is_populated k) as (λ b. names_of (cond b (k ∷ with_someone ks) (with_someone ks))
    ≡ cond b (k.name ∷ filter there (names_of ks)) (filter there (names_of ks))) [
      | true ↦ ap (λ ns. k.name ∷ ns) ih
      | false ↦ ih
    ]
    ∙ sym (ap (λ b. cond b (k.name ∷ filter there (names_of ks)) (filter there (names_of ks))) here)

-- the names of those that have a member
pub names_of-populated : (ks : List Channel) (there : List ℕ → Bool) → AreApart ks
    → ((c : List ℕ) → is_some_one (state_in ks c).members ≡ there c) → names_of (with_someone ks)
    ≡ filter there (names_of ks)
names_of-populated ks there a e = populated_names ks ks there e (owned ks a)

pub names_of-length : (ks : List Channel) → length (names_of ks) ≡ length ks
names_of-length [] = refl
names_of-length (k ∷ ks) = ap suc (names_of-length ks)

pub names_of-get : (ks : List Channel) (i : ℕ) → slice_get (names_of ks) i
    ≡ option_map (λ (k : Channel). k.name) (slice_get ks i)
names_of-get [] i = refl
names_of-get (k ∷ ks) zero = refl
names_of-get (k ∷ ks) (suc i) = names_of-get ks i

-- ---- channels that have a member

pub held-push : (ks : List Channel) (k : Channel) → AreHeld ks → is_populated k ≡ true → AreHeld (ks ++ k ∷ [])
held-push [] k h e = (e, tt)
held-push (x ∷ ks) k h e = (h.0, held-push ks k h.1 e)

pub held-with : (ks : List Channel) (n : List ℕ) (m : ChannelView) → AreHeld ks → is_some_one m.state.members ≡ true
    → AreHeld (with_held ks n m)
held-with [] n m h e = tt
held-with (k ∷ ks) n m h e = elim (is_same k.name n) as
    (λ b. AreHeld (cond b (record { name = k.name; held = m } ∷ ks) (k ∷ with_held ks n m))) [
      | true ↦ (e, h.1)
      | false ↦ (h.0, held-with ks n m h.1 e)
    ]

pub held-populated : (ks : List Channel) → AreHeld (with_someone ks)
held-populated [] = tt
held-populated (k ∷ ks) =
    elim (either (is_populated k)) [
      | inl some ↦ rw some (some, held-populated ks)
      | inr none ↦ rw none (held-populated ks)
    ]
