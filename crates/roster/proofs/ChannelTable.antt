-- The table of channels: which channel has a name, and what a change does to that.
use Rattle.std.proofs.lemmas.List.Folds.{list_any-append}
use Rattle.std.proofs.Common.{◌≡◌, inl, inr, ℕ, Bool, true, false, ◌||◌, cond, List, [], ◌∷◌}
use Rattle.std.proofs.Common.{◌++◌, filter, Option, Some, None, refl, sym, ap, ◌∙◌}
use Rattle.std.specs.List.{list_any}
use Rattle.std.specs.Option.{option_map}
use Rattle.casemapping.specs.Fold.{is_same}
use Rattle.casemapping.proofs.SameNames.{is_same-left, is_same-right, is_same-sym}
use Rattle.roster.specs.declared.deed.Deed.{Deed}
use Rattle.roster.specs.declared.tables.Channel.{Channel}
use Rattle.channel_state.specs.Held.{ChannelView}
use Rattle.roster.specs.Tables.{channel_of, with_held, is_populated, with_someone}
use Rattle.roster.specs.Stands.{AreApart, HaveSeats}
use Rattle.roster.proofs.Bools.{either, or-none, or-false}

-- the same name has the same channel
pub channel_of-same : (ks : List Channel) (c d : List ℕ) → is_same c d ≡ true → channel_of ks c ≡ channel_of ks d
channel_of-same [] c d e = refl
channel_of-same (k ∷ ks) c d e = ap (λ b. cond b (Some k) (channel_of ks c)) (is_same-right c d k.name e)
    ∙ ap (cond (is_same k.name d) (Some k)) (channel_of-same ks c d e)

-- ---- other members

abbrev pub reheld : ChannelView → Channel → Channel
reheld m k = record { name = k.name; held = m }

-- a name is no other's
apart_from : (a n c : List ℕ) → is_same a n ≡ false → is_same a c ≡ true → is_same n c ≡ false
apart_from a n c miss hit = is_same-sym n c ∙ sym (is_same-left a c n hit) ∙ miss

pub channel_of-with : (ks : List Channel) (n c : List ℕ) (m : ChannelView) → channel_of (with_held ks n m) c
    ≡ cond (is_same n c) (option_map (reheld m) (channel_of ks c)) (channel_of ks c)
channel_of-with [] n c m = elim (is_same n c) as
    (λ b. ◌≡◌ {A = Option Channel} None (cond b None None)) [ true ↦ refl | false ↦ refl ]
channel_of-with (k ∷ ks) n c m =
    let ih = channel_of-with ks n c m in let x : Channel = reheld m k in
    elim (either (is_same k.name n)) [
      | inl same ↦
          let left : is_same k.name c ≡ is_same n c = is_same-left k.name n c same in
          ap (λ b. channel_of (cond b (x ∷ ks) (k ∷ with_held ks n m)) c) same
          ∙ ap (λ b. cond b (Some x) (channel_of ks c)) left
          ∙ elim (is_same n c) as (λ b. cond b (Some x) (channel_of ks c) ≡ cond b (option_map (reheld m) (cond b
          (Some k) (channel_of ks c))) (cond b (Some k) (channel_of ks c))) [ true ↦ refl | false ↦ refl ]
          ∙ ap (λ b. cond (is_same n c) (option_map (reheld m) (cond b (Some k) (channel_of ks c)))
          (cond b (Some k) (channel_of ks c))) (sym left)
      | inr other ↦
          ap (λ b. channel_of (cond b (x ∷ ks) (k ∷ with_held ks n m)) c) other
          ∙ ap (cond (is_same k.name c) (Some k)) ih
          ∙ elim (either (is_same k.name c)) [
            | inl it ↦ let miss = apart_from k.name n c other it in rw (it, miss) refl
            | inr not_it ↦ rw not_it refl
          ]
    ]

-- ---- a channel more

pub channel_of-push : (ks : List Channel) (k : Channel) (c : List ℕ) → channel_of ks c ≡ None
    → channel_of (ks ++ k ∷ []) c ≡ cond (is_same k.name c) (Some k) None
channel_of-push [] k c e = refl
channel_of-push (x ∷ ks) k c e = elim (either (is_same x.name c)) [
  | inl it ↦ absurd (let f : Some x ≡ None = ap (λ b. cond b (Some x) (channel_of ks c)) (sym it) ∙ e in cc)
  | inr miss ↦ ap (λ b. cond b (Some x) (channel_of (ks ++ k ∷ []) c)) miss
      ∙ channel_of-push ks k c (ap (λ b. cond b (Some x) (channel_of ks c)) (sym miss) ∙ e)
]

pub channel_of-push_other : (ks : List Channel) (k : Channel) (c : List ℕ) → is_same k.name c ≡ false
    → channel_of (ks ++ k ∷ []) c ≡ channel_of ks c
channel_of-push_other [] k c e = ap (λ b. cond b (Some k) None) e
channel_of-push_other (x ∷ ks) k c e = ap (cond (is_same x.name c) (Some x)) (channel_of-push_other ks k c e)

-- ---- names apart

abbrev none_named : List ℕ → List Channel → Bool
none_named c ks = list_any (λ l. is_same c l.name) ks

unfound : (ks : List Channel) (a c : List ℕ) → none_named a ks ≡ false → is_same a c ≡ true → channel_of ks c ≡ None
unfound [] a c e s = refl
unfound (k ∷ ks) a c e s =
    let parts = or-none (is_same a k.name) (none_named a ks) e in
    let miss : is_same k.name c ≡ false = is_same-sym k.name c ∙ sym (is_same-left a c k.name s) ∙ parts.0 in
    ap (λ b. cond b (Some k) (channel_of ks c)) miss ∙ unfound ks a c parts.1 s

named-with : (ks : List Channel) (a n : List ℕ) (m : ChannelView) → none_named a (with_held ks n m) ≡ none_named a ks
named-with [] a n m = refl
named-with (k ∷ ks) a n m = elim (is_same k.name n) as
    (λ b. none_named a (cond b (reheld m k ∷ ks) (k ∷ with_held ks n m)) ≡ none_named a (k ∷ ks)) [
      | true ↦ refl
      | false ↦ ap (λ b. is_same a k.name || b) (named-with ks a n m)
    ]

pub apart-with : (ks : List Channel) (n : List ℕ) (m : ChannelView) → AreApart ks → AreApart (with_held ks n m)
apart-with [] n m a = tt
apart-with (k ∷ ks) n m a = elim (is_same k.name n) as
    (λ b. AreApart (cond b (reheld m k ∷ ks) (k ∷ with_held ks n m))) [
      | true ↦ (a.0, a.1)
      | false ↦ (named-with ks k.name n m ∙ a.0, apart-with ks n m a.1)
    ]

pub apart-push : (ks : List Channel) (k : Channel) → AreApart ks → channel_of ks k.name ≡ None
    → AreApart (ks ++ k ∷ [])
apart-push [] k a e = (refl, tt)
apart-push (x ∷ ks) k a e = elim (either (is_same x.name k.name)) [
  | inl it ↦ absurd (let f : Some x ≡ None = ap (λ b. cond b (Some x) (channel_of ks k.name)) (sym it) ∙ e in cc)
  | inr miss ↦ (
    list_any-append (λ (l : Channel). is_same x.name l.name) ks (k ∷ []) ∙ ap
        (λ b. b || (is_same x.name k.name || false)) a.0 ∙ or-false (is_same x.name k.name) ∙ miss,
    apart-push ks k a.1 (ap (λ b. cond b (Some x) (channel_of ks k.name)) (sym miss) ∙ e),
  )
]

-- ---- channels with no member end

none-filter : {A : Type 0} (p f : A → Bool) (xs : List A) → list_any p xs ≡ false → list_any p (filter f xs) ≡ false
none-filter p f [] e = refl
none-filter p f (x ∷ xs) e =
    let parts = or-none (p x) (list_any p xs) e in let ih = none-filter p f xs parts.1 in
    elim (f x) as (λ b. list_any p (cond b (x ∷ filter f xs) (filter f xs))
    ≡ false) [ true ↦ ap (λ b. b || list_any p (filter f xs)) parts.0 ∙ ih | false ↦ ih ]

pub apart-populated : (ks : List Channel) → AreApart ks → AreApart (with_someone ks)
apart-populated [] a = tt
apart-populated (k ∷ ks) a =
    let ih = apart-populated ks a.1 in
    elim (is_populated k) as (λ b. AreApart (cond b (k ∷ with_someone ks) (with_someone ks))) [
      | true ↦
          (none-filter (λ (l : Channel). is_same k.name l.name) is_populated ks a.0, ih)
      | false ↦ ih
    ]

abbrev pub kept : Option Channel → Option Channel
kept None = None
kept (Some k) = cond (is_populated k) (Some k) None

pub channel_of-populated : (ks : List Channel) (c : List ℕ) → AreApart ks → channel_of (with_someone ks) c
    ≡ kept (channel_of ks c)
channel_of-populated [] c a = refl
channel_of-populated (k ∷ ks) c a =
    let ih = channel_of-populated ks c a.1 in
    elim (either (is_same k.name c)) [
      | inl it ↦
          let none : channel_of (with_someone ks) c ≡ None = ih ∙ ap kept (unfound ks k.name c a.0 it) in
          elim (is_populated k) as (λ b. channel_of (cond b (k ∷ with_someone ks) (with_someone ks)) c
          ≡ cond b (Some k) None) [ true ↦ rw it refl | false ↦ none ]
          ∙ sym (ap (λ b. kept (cond b (Some k) (channel_of ks c))) it)
      | inr miss ↦
          elim (is_populated k) as (λ b. channel_of (cond b (k ∷ with_someone ks) (with_someone ks)) c
          ≡ channel_of (with_someone ks) c) [
            | true ↦ ap (λ b. cond b (Some k) (channel_of (with_someone ks) c)) miss
            | false ↦ refl
          ]
          ∙ ih ∙ sym (ap (λ b. kept (cond b (Some k) (channel_of ks c))) miss)
    ]

pub seats-populated : (ds : List Deed) (ks : List Channel) → HaveSeats ds ks → HaveSeats ds (with_someone ks)
seats-populated ds [] h = tt
seats-populated ds (k ∷ ks) h = elim (is_populated k) as
    (λ b. HaveSeats ds (cond b (k ∷ with_someone ks) (with_someone ks))) [
      | true ↦ (h.0, seats-populated ds ks h.1)
      | false ↦ seats-populated ds ks h.1
    ]
