-- Channels in a map, each under its folded name, as the list of them.
use Rattle.std.proofs.Common.{◌≡◌, inl, inr, ℕ, zero, suc, ◌≤◌, ◌+◌, ◌<◌, Bool, true, false, cond, List}
use Rattle.std.proofs.Common.{[], ◌∷◌, ◌++◌, filter, slice_get, slice_set, length, Option, Some, None}
use Rattle.std.proofs.Common.{Result, Ok, Err, is_ok, arith, refl, sym, ap, ◌∙◌, subst}
use Rattle.std.specs.Result.{OnOk, OnErr}
use Rattle.std.specs.Map.{lookup, values_of, set_value, remove_entry}
use Rattle.std.specs.Option.{option_map_or}
use Rattle.std.specs.Str.{bytes_eq}
use Rattle.indexmap.specs.IndexMap.{set_value_at}
use Rattle.casemapping.specs.Fold.{name_fold, is_same}
use Rattle.casemapping.proofs.SameNames.{is_same-sym}
use Rattle.channel_state.specs.State.{State, is_some_one, nothing}
use Rattle.channel_state.specs.Held.{ChannelView}
use Rattle.roster.specs.declared.tables.Channel.{Channel}
use Rattle.roster.specs.Tables.{channel_of, state_in, room_in, with_held, is_populated, with_someone, AreKeyed}
use Rattle.roster.specs.Tables.{Reholds}
use Rattle.roster.specs.Stands.{AreHeld, AreHeldBut, Reserves}
use Rattle.roster.proofs.Bools.{either}

abbrev pub test : List ℕ → List ℕ → Bool
test c = bytes_eq (name_fold c)

pub same_is : (a b : List ℕ) → is_same a b ≡ bytes_eq (name_fold a) (name_fold b)
unfolding is_same
same_is a b = refl

-- a folded name is a channel's key where the name is its name
test_is : (c : List ℕ) (e : List ℕ × Channel) → e.0 ≡ name_fold e.1.name → test c e.0 ≡ is_same e.1.name c
test_is c e k = ap (test c) k ∙ sym (same_is c e.1.name) ∙ is_same-sym c e.1.name

-- a look-up by key is one by name
pub found_keyed : (es : List (List ℕ × Channel)) (c : List ℕ) → AreKeyed es
    → lookup (test c) es ≡ channel_of (values_of es) c
found_keyed [] c a = refl
found_keyed (e ∷ es) c a = ap (λ b. cond b (Some e.1) (lookup (test c) es)) (test_is c e a.0)
    ∙ ap (cond (is_same e.1.name c) (Some e.1)) (found_keyed es c a.1)

abbrev pub held_as : Channel → ChannelView → Channel
held_as x h = record { name = x.name; held = h }

first_is : (c : List ℕ) (e : List ℕ × Channel) (es : List (List ℕ × Channel)) (x : Channel) → test c e.0 ≡ true
    → lookup (test c) (e ∷ es) ≡ Some x → e.1 ≡ x
first_is c e es x hit at = let f : Some e.1
    ≡ Some x = sym (ap (λ b. cond b (Some e.1) (lookup (test c) es)) hit) ∙ at in cc

rest_has : (c : List ℕ) (e : List ℕ × Channel) (es : List (List ℕ × Channel)) (x : Channel) → test c e.0 ≡ false
    → lookup (test c) (e ∷ es) ≡ Some x → lookup (test c) es ≡ Some x
rest_has c e es x miss at = sym (ap (λ b. cond b (Some e.1) (lookup (test c) es)) miss) ∙ at

-- a channel that was found is written
pub set_keyed : (es : List (List ℕ × Channel)) (c : List ℕ) (x : Channel) (h : ChannelView) → AreKeyed es
    → lookup (test c) es ≡ Some x → values_of (set_value (test c) es (held_as x h)) ≡ with_held (values_of es) c h
set_keyed [] c x h a at = absurd (let f : ◌≡◌ {A = Option Channel} None (Some x) = at in cc)
set_keyed (e ∷ es) c x h a at = let t = test_is c e a.0 in elim (either (is_same e.1.name c)) [
  | inl same ↦
      ap (λ b. values_of (cond b ((e.0, held_as x h) ∷ es) (e ∷ set_value (test c) es (held_as x h)))) (t ∙ same)
      ∙ ap (λ (y : Channel). held_as y h ∷ values_of es) (sym (first_is c e es x (t ∙ same) at))
      ∙ sym (ap (λ b. cond b (held_as e.1 h ∷ values_of es) (e.1 ∷ with_held (values_of es) c h)) same)
  | inr miss ↦
      ap (λ b. values_of (cond b ((e.0, held_as x h) ∷ es) (e ∷ set_value (test c) es (held_as x h)))) (t ∙ miss)
      ∙ ap (λ ks. e.1 ∷ ks) (set_keyed es c x h a.1 (rest_has c e es x (t ∙ miss) at))
      ∙ sym (ap (λ b. cond b (held_as e.1 h ∷ values_of es) (e.1 ∷ with_held (values_of es) c h)) miss)
]

pub keyed_set : (es : List (List ℕ × Channel)) (c : List ℕ) (x : Channel) (h : ChannelView) → AreKeyed es
    → lookup (test c) es ≡ Some x → AreKeyed (set_value (test c) es (held_as x h))
keyed_set [] c x h a at = tt
keyed_set (e ∷ es) c x h a at = elim (either (test c e.0)) [
  | inl hit ↦ rw hit (a.0 ∙ ap (λ (y : Channel). name_fold y.name) (first_is c e es x hit at), a.1)
  | inr miss ↦ rw miss (a.0, keyed_set es c x h a.1 (rest_has c e es x miss at))
]

-- a channel that was found by a key was written, in a table that shows as ks
module _ (es now : List (List ℕ × Channel)) (ks : List Channel) (k c : List ℕ) (x : Channel)
    (h : ChannelView) (key : k ≡ name_fold c) (keyed : AreKeyed es) (view : values_of es ≡ ks)
    (at : Some x ≡ lookup (bytes_eq k) es) where
  hit : lookup (test c) es ≡ Some x
  hit = ap (λ (j : List ℕ). lookup (bytes_eq j) es) (sym key) ∙ sym at

  pub seen : channel_of ks c ≡ Some x
  seen = ap (λ (ls : List Channel). channel_of ls c) (sym view) ∙ sym (found_keyed es c keyed) ∙ hit

  module _ (is : now ≡ set_value (bytes_eq k) es (held_as x h)) where
    so : now ≡ set_value (test c) es (held_as x h)
    so = is ∙ ap (λ (j : List ℕ). set_value (bytes_eq j) es (held_as x h)) key

    pub now_keyed : AreKeyed now
    now_keyed = subst AreKeyed (sym so) (keyed_set es c x h keyed hit)

    pub now_list : values_of now ≡ with_held ks c h
    now_list = ap values_of so ∙ set_keyed es c x h keyed hit ∙ ap (λ (ls : List Channel). with_held ls c h) view

-- none was found
pub unseen : (es : List (List ℕ × Channel)) (ks : List Channel) (k c : List ℕ) → k ≡ name_fold c → AreKeyed es
    → values_of es ≡ ks → None ≡ lookup (bytes_eq k) es → channel_of ks c ≡ None
unseen es ks k c key keyed view at = ap (λ (ls : List Channel). channel_of ls c) (sym view)
    ∙ sym (found_keyed es c keyed) ∙ ap (λ (j : List ℕ). lookup (bytes_eq j) es) (sym key) ∙ sym at

pub on_ok : {A E : Type 0} (P : Type 0) (r : Result A E) → is_ok r ≡ true → OnOk r P → P
on_ok P (Ok x) e p = p
on_ok P (Err y) e p = absurd (let f : false ≡ true = e in cc)

pub on_ok_map : {E : Type 0} {P Q : Type 0} (r : Result (Unit {0}) E) → (P → Q) → OnOk r P → OnOk r Q
on_ok_map (Ok u) f p = f p
on_ok_map (Err x) f p = tt

pub on_err_map : {E : Type 0} {P Q : Type 0} (r : Result (Unit {0}) E) → (P → Q) → OnErr r P → OnErr r Q
on_err_map (Ok u) f p = tt
on_err_map (Err x) f p = f p

-- what a step on the channel of a name leaves, where it was found
module _ (ks : List Channel) (c : List ℕ) (x : Channel) (at : channel_of ks c ≡ Some x) where
  pub room_at : room_in ks c ≡ x.held.room
  room_at = ap (λ o. option_map_or (λ (k : Channel). k.held.room) o 1) at

  pub state_at : state_in ks c ≡ x.held.state
  state_at = ap (λ o. option_map_or (λ (k : Channel). k.held.state) o nothing) at

-- and where it wasn't
pub with-absent : (ks : List Channel) (c : List ℕ) (m : ChannelView) → channel_of ks c ≡ None → with_held ks c m ≡ ks
with-absent [] c m e = refl
with-absent (k ∷ ks) c m e = elim (either (is_same k.name c)) [
  | inl hit ↦ absurd (let f : Some k ≡ None = ap (λ b. cond b (Some k) (channel_of ks c)) (sym hit) ∙ e in cc)
  | inr miss ↦ ap (λ b. cond b (record { name = k.name; held = m } ∷ ks) (k ∷ with_held ks c m)) miss ∙ ap
      (λ xs. k ∷ xs) (with-absent ks c m (ap (λ b. cond b (Some k) (channel_of ks c)) (sym miss) ∙ e))
]

pub reserves_none : (ks : List Channel) (c : List ℕ) (n : ℕ) → channel_of ks c ≡ None → Reserves ks ks c n
reserves_none ks c n out = record {
  held = record { state = nothing; room = n };
  reserved = sym (with-absent ks c (record { state = nothing; room = n }) out);
  room = omega arith;
}

pub some_same : (x y : Channel) → Some x ≡ Some y → x ≡ y
some_same x y e = cc

-- what was found is held as it is
pub with_same : (ks : List Channel) (c : List ℕ) (x : Channel) (h : ChannelView) → channel_of ks c ≡ Some x
    → h ≡ x.held → with_held ks c h ≡ ks
with_same [] c x h at e = refl
with_same (k ∷ ks) c x h at e = elim (either (is_same k.name c)) [
  | inl same ↦
      let it : k ≡ x = some_same k x (sym (ap (λ b. cond b (Some k) (channel_of ks c)) same) ∙ at) in
      ap (λ b. cond b (held_as k h ∷ ks) (k ∷ with_held ks c h)) same
      ∙ ap (λ m. held_as k m ∷ ks) (e ∙ ap (λ (y : Channel). y.held) (sym it))
  | inr miss ↦
      ap (λ b. cond b (held_as k h ∷ ks) (k ∷ with_held ks c h)) miss
      ∙ ap (λ ls. k ∷ ls) (with_same ks c x h (sym (ap (λ b. cond b (Some k) (channel_of ks c)) miss) ∙ at) e)
]

pub reholds_none : (ks : List Channel) (c : List ℕ) (f : State → State) (less : ℕ) → channel_of ks c ≡ None
    → Reholds ks ks c (f (state_in ks c)) less
reholds_none ks c f less out = record {
  held = record { state = f (state_in ks c); room = 1 };
  changed = sym (with-absent ks c (record { state = f (state_in ks c); room = 1 }) out);
  state = refl;
  room = let one : room_in ks c ≡ 1 = ap (λ o. option_map_or (λ (k : Channel). k.held.room) o 1) out in omega arith;
}

pub reholds_found : (ks ls : List Channel) (c : List ℕ) (x : Channel) (h : ChannelView) (f : State → State) (less : ℕ)
    → channel_of ks c ≡ Some x → ls ≡ with_held ks c h → h.state ≡ f x.held.state → x.held.room ≤ h.room + less
    → Reholds ks ls c (f (state_in ks c)) less
reholds_found ks ls c x h f less at e s r = record {
  held = h;
  changed = e;
  state = s ∙ ap f (sym (state_at ks c x at));
  room = let same = room_at ks c x at in omega arith;
}

-- ---- the channel that nobody is on any more ends

pub all_populated : (ks : List Channel) → AreHeld ks → with_someone ks ≡ ks
all_populated [] a = refl
all_populated (k ∷ ks) a = ap (λ b. cond b (k ∷ with_someone ks) (with_someone ks)) a.0 ∙ ap
    (λ xs. k ∷ xs) (all_populated ks a.1)

pub held_with : (ks : List Channel) (c : List ℕ) (h : ChannelView) → is_some_one h.state.members ≡ true → AreHeld ks
    → AreHeld (with_held ks c h)
held_with [] c h e a = tt
held_with (k ∷ ks) c h e a = elim (either (is_same k.name c)) [
  | inl same ↦ rw same (e, a.1)
  | inr miss ↦ rw miss (a.0, held_with ks c h e a.1)
]

pub held_but : (ks : List Channel) (c : List ℕ) (h : ChannelView) → is_some_one h.state.members ≡ false → AreHeld ks
    → AreHeldBut c (with_held ks c h)
held_but [] c h e a = tt
held_but (k ∷ ks) c h e a = elim (either (is_same k.name c)) [
  | inl same ↦ rw same ((λ s. (e, a.1)), (λ m. absurd (let f : true ≡ false = sym same ∙ m in cc)))
  | inr miss ↦ rw miss ((λ s. absurd (let f : true ≡ false = sym s ∙ miss in cc)), (λ m. (a.0, held_but ks c h e a.1)))
]

pub removed_keyed : (es : List (List ℕ × Channel)) (c : List ℕ) → AreKeyed es → AreHeldBut c (values_of es)
    → values_of (remove_entry (test c) es) ≡ with_someone (values_of es)
removed_keyed [] c a b = refl
removed_keyed (e ∷ es) c a b = let t = test_is c e a.0 in elim (either (is_same e.1.name c)) [
  | inl same ↦
      let p = b.0 same in
      ap (λ q. values_of (cond q es (e ∷ remove_entry (test c) es))) (t ∙ same)
      ∙ sym (all_populated (values_of es) p.1)
      ∙ sym (ap (λ q. cond q (e.1 ∷ with_someone (values_of es)) (with_someone (values_of es))) p.0)
  | inr miss ↦
      let p = b.1 miss in
      ap (λ q. values_of (cond q es (e ∷ remove_entry (test c) es))) (t ∙ miss)
      ∙ ap (λ ks. e.1 ∷ ks) (removed_keyed es c a.1 p.1)
      ∙ sym (ap (λ q. cond q (e.1 ∷ with_someone (values_of es)) (with_someone (values_of es))) p.0)
]

pub keyed_removed : (es : List (List ℕ × Channel)) (c : List ℕ) → AreKeyed es → AreKeyed (remove_entry (test c) es)
keyed_removed [] c a = tt
keyed_removed (e ∷ es) c a = elim (test c e.0) as (λ q. AreKeyed
    (cond q es (e ∷ remove_entry (test c) es))) [ true ↦ a.1 | false ↦ (a.0, keyed_removed es c a.1) ]

-- ---- a channel more

pub values-push : (es : List (List ℕ × Channel)) (e : List ℕ × Channel) → values_of (es ++ e ∷ [])
    ≡ values_of es ++ e.1 ∷ []
values-push [] e = refl
values-push (x ∷ es) e = ap (λ ks. x.1 ∷ ks) (values-push es e)

pub keyed-push : (es : List (List ℕ × Channel)) (e : List ℕ × Channel) → AreKeyed es → e.0 ≡ name_fold e.1.name
    → AreKeyed (es ++ e ∷ [])
keyed-push [] e a k = (k, tt)
keyed-push (x ∷ es) e a k = (a.0, keyed-push es e a.1 k)

-- ---- those that have a member

pub filter_keyed : (es : List (List ℕ × Channel)) → values_of (filter (λ e. is_populated e.1) es)
    ≡ with_someone (values_of es)
filter_keyed [] = refl
filter_keyed (e ∷ es) = elim (is_populated e.1) as
    (λ b. values_of (cond b (e ∷ filter (λ x. is_populated x.1) es) (filter (λ x. is_populated x.1) es))
    ≡ cond b (e.1 ∷ with_someone (values_of es)) (with_someone (values_of es))) [
      | true ↦ ap (λ ks. e.1 ∷ ks) (filter_keyed es)
      | false ↦ filter_keyed es
    ]

pub keyed_filter : (p : List ℕ × Channel → Bool) (es : List (List ℕ × Channel)) → AreKeyed es → AreKeyed (filter p es)
keyed_filter p [] a = tt
keyed_filter p (e ∷ es) a = elim (p e) as (λ b. AreKeyed (cond b (e ∷ filter p es) (filter p es))) [
  | true ↦
      (a.0, keyed_filter p es a.1)
  | false ↦ keyed_filter p es a.1
]

-- ---- a channel at a place

pub within_some : (ks : List Channel) (i : ℕ) → i < length ks → slice_get ks i ≡ None → ⊥
within_some [] i l e = omega arith
within_some (k ∷ ks) zero l e = let f : Some k ≡ None = e in cc
within_some (k ∷ ks) (suc i) l e = within_some ks i (omega arith) e

pub keyed_at : (es : List (List ℕ × Channel)) (i : ℕ) (x : Channel) (h : ChannelView) → AreKeyed es
    → slice_get (values_of es) i ≡ Some x → AreKeyed (set_value_at es i (held_as x h))
keyed_at [] i x h a e = tt
keyed_at (k ∷ es) zero x h a e = (a.0 ∙ ap (λ (y : Channel). name_fold y.name) (some_same k.1 x e), a.1)
keyed_at (k ∷ es) (suc i) x h a e = (a.0, keyed_at es i x h a.1 e)

values_set : (es : List (List ℕ × Channel)) (i : ℕ) (w : Channel) → values_of (set_value_at es i w)
    ≡ slice_set (values_of es) i w
values_set [] i w = refl
values_set (k ∷ es) zero w = refl
values_set (k ∷ es) (suc i) w = ap (λ ks. k.1 ∷ ks) (values_set es i w)

pub values_at : (es : List (List ℕ × Channel)) (ks : List Channel) (i : ℕ) (w : Channel) → values_of es ≡ ks
    → values_of (set_value_at es i w) ≡ slice_set ks i w
values_at es ks i w view = values_set es i w ∙ ap (λ (ls : List Channel). slice_set ls i w) view
