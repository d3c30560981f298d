-- A session's channels: it is on just those, and as many.
use Rattle.std.proofs.lemmas.Map.Views.{any-filter_same}
use Rattle.std.proofs.Common.{◌≡◌, inl, inr, ℕ, suc, Bool, true, false, not, ◌&&◌, ◌||◌, ◌==◌, cond, List, [], ◌∷◌}
use Rattle.std.proofs.Common.{filter, length, unwrap_or, Option, Some, None, is_some, refl, sym, ap, ◌∙◌, subst}
use Rattle.std.specs.List.{list_any, IsDistinct, AllByRecursion}
use Rattle.casemapping.specs.Fold.{is_same}
use Rattle.casemapping.proofs.SameNames.{is_same-refl, is_same-sym, is_same-right}
use Rattle.channel_state.specs.declared.change.Change.{Change}
use Rattle.channel_state.specs.declared.change.Change.TheVariants.{Joined, Left, FlagSet}
use Rattle.channel_state.specs.State.{State, among}
use Rattle.roster.specs.declared.deed.Deed.{Deed}
use Rattle.roster.specs.declared.deed.Deed.TheVariants.{ChannelMade, Changed, Gone}
use Rattle.roster.specs.declared.tables.Channel.{Channel}
use Rattle.roster.specs.LookBack.{numbers, opened_in, on, members, has_member, channels, tells_seat, is_join, joins}
use Rattle.roster.specs.LookBack.{channels_on, channel_count, without_name, with_last_name, share, sharers}
use Rattle.roster.specs.Tables.{name_in, names_of, members_in, mates}
use Rattle.roster.specs.Stands.{AreApart, HoldChannels}
use Rattle.roster.proofs.Bools.{either, or-none, or-true}
use Rattle.roster.proofs.OnChannels.{among-members, on-same, someone}
use Rattle.roster.proofs.SeatLists.{filter_as}
use Rattle.roster.proofs.Notes.{has-last, has-without}
use Rattle.roster.proofs.OnceLaws.{own_once}
use Rattle.roster.proofs.ChannelSteps.{found}

some_same : (a b : Bool) → Some a ≡ Some b → a ≡ b
some_same a b e = cc

-- whether a name is among these, however it is spelled
abbrev pub has : List ℕ → List (List ℕ) → Bool
has c ks = list_any (λ k. is_same k c) ks

-- ---- who is on a channel joined it

joined_by : (fs : List Deed) (s : ℕ) (c k : List ℕ) (told : Option Bool) (j : Bool) → (told ≡ Some true → j ≡ true)
    → unwrap_or (cond (is_same k c) told None) (on fs s c) ≡ true
    → (on fs s c ≡ true → has c (joins fs s) ≡ true)
    → has c (cond j (with_last_name k (joins fs s)) (joins fs s)) ≡ true
joined_by fs s c k told j h e ih = elim (either (is_same k c)) [
  | inl same ↦ by told refl same
  | inr miss ↦ kept miss (sym (ap (λ b. unwrap_or (cond b told None) (on fs s c)) miss) ∙ e) j
]
  where
    last : is_same k c ≡ true → has c (with_last_name k (joins fs s)) ≡ true
    last same = has-last c k (joins fs s) ∙ ap (λ b. has c (without_name k (joins fs s)) || b) same
        ∙ or-true (has c (without_name k (joins fs s)))

    kept : is_same k c ≡ false → on fs s c ≡ true → (b : Bool)
        → has c (cond b (with_last_name k (joins fs s)) (joins fs s)) ≡ true
    kept miss was true =
        let other = is_same-sym c k ∙ miss in
        has-last c k (joins fs s) ∙ ap (λ b. b || is_same k c)
        (has-without c k (joins fs s) ∙ ap (λ b. not b && has c (joins fs s)) other ∙ ih was)
    kept miss was false = ih was

    by : (o : Option Bool) → told ≡ o → is_same k c ≡ true
        → has c (cond j (with_last_name k (joins fs s)) (joins fs s)) ≡ true
    by (Some b) t same =
        let now : b ≡ true = sym (ap (λ x. unwrap_or (cond x told None) (on fs s c)) same ∙ ap
        (λ o. unwrap_or o (on fs s c)) t) ∙ e in
        ap (λ b. has c (cond b (with_last_name k (joins fs s)) (joins fs s)))
        (h (t ∙ ap (λ x. Some x) now)) ∙ last same
    by None t same =
        let was : on fs s c ≡ true = sym (ap (λ x. unwrap_or (cond x told None) (on fs s c)) same ∙ ap
        (λ o. unwrap_or o (on fs s c)) t) ∙ e in
        elim j as (λ b. has c (cond b (with_last_name k (joins fs s)) (joins fs s)) ≡ true) [
          | true ↦ last same
          | false ↦ ih was
        ]

joins_by : (s : ℕ) (x : Change) → tells_seat s x ≡ Some true → is_join s x ≡ true
joins_by s (Joined t) e = elim (either (t == s)) [
  | inl it ↦ it
  | inr miss ↦ absurd (let f : None ≡ Some true = sym (ap (λ b. cond b (Some true) None) miss) ∙ e in cc)
]
joins_by s (Left t) e = elim (either (t == s)) [
  | inl it ↦ absurd (let f : Some false ≡ Some true = sym (ap (λ b. cond b (Some false) None) it) ∙ e in
      let g = some_same false true f in let h : false ≡ true = g in cc)
  | inr miss ↦ absurd (let f : None ≡ Some true = sym (ap (λ b. cond b (Some false) None) miss) ∙ e in cc)
]
joins_by s (FlagSet f is) e = absurd (let f : ◌≡◌ {A = Option Bool} None (Some true) = e in cc)
joins_by s _ e = absurd (let f : ◌≡◌ {A = Option Bool} None (Some true) = e in cc)

joined_on : (fs : List Deed) (s : ℕ) (c : List ℕ) → on fs s c ≡ true → has c (joins fs s) ≡ true
joined_on [] s c e = absurd (let f : false ≡ true = e in cc)
joined_on (ChannelMade t k ∷ fs) s c e = joined_by fs s c k (Some (t == s)) (t == s)
    (λ f. some_same (t == s) true f) e (joined_on fs s c)
joined_on (Changed k x ∷ fs) s c e = joined_by fs s c k (tells_seat s x) (is_join s x) (joins_by s x) e
    (joined_on fs s c)
joined_on (Gone t ∷ fs) s c e = elim (either (t == s)) [
  | inl it ↦ absurd
      (let f : false ≡ true = sym (ap (λ b. unwrap_or (cond b (Some false) None) (on fs s c)) it) ∙ e in cc)
  | inr miss ↦ joined_on fs s c (sym (ap (λ b. unwrap_or (cond b (Some false) None) (on fs s c)) miss) ∙ e)
]
joined_on (_ ∷ fs) s c e = joined_on fs s c e

and_true : (a b : Bool) → (a ≡ true → b ≡ true) → (a && b) ≡ a
and_true true b h = h refl
and_true false b h = refl

-- a session is on a channel where that is among its own
pub own_any : (fs : List Deed) (s : ℕ) (c : List ℕ) → has c (channels_on fs s) ≡ on fs s c
own_any fs s c = any-filter_same (λ k. is_same k c) (on fs s) (on fs s c) (λ k e. on-same fs s k c e) (joins fs s)
    ∙ and_true (on fs s c) (has c (joins fs s)) (joined_on fs s c)

-- ---- a channel that has a member is there

named : (ks : List Channel) (c : List ℕ) → is_some (name_in ks c) ≡ true → has c (names_of ks) ≡ true
named [] c e = e
named (k ∷ ks) c e = elim (either (is_same k.name c)) [
  | inl it ↦ ap (λ b. b || has c (names_of ks)) it
  | inr miss ↦
      let there : is_some (name_in ks c) ≡ true = rw miss at e in
      ap (λ b. b || has c (names_of ks)) miss ∙ named ks c there
]

module _ (ks : List Channel) (fs : List Deed) (i : HoldChannels ks fs) where
  there_is : (c : List ℕ) → has_member fs c ≡ true → has c (channels fs) ≡ true
  there_is c e = ap (has c) i.channels ∙ named ks c (found ks fs i c e)

  on_there : (s : ℕ) (c : List ℕ) → on fs s c ≡ true → has c (channels fs) ≡ true
  on_there s c e = there_is c (someone s (members fs c) (among-members fs s c ∙ e))

  -- ---- who shares a channel

  same_bool : (a b : Bool) → (a ≡ true → b ≡ true) → (b ≡ true → a ≡ true) → a ≡ b
  same_bool true b f g = sym (f refl)
  same_bool false true f g = g refl
  same_bool false false f g = refl

  any_into : {X : Type 0} (p : X → Bool) (b : Bool) → ((x : X) → p x ≡ true → b ≡ true) → (xs : List X)
      → list_any p xs ≡ true → b ≡ true
  any_into p b h [] e = absurd (let f : false ≡ true = e in cc)
  any_into p b h (x ∷ xs) e = elim (either (p x)) [
    | inl it ↦ h x it
    | inr miss ↦ any_into p b h xs (sym (ap (λ q. q || list_any p xs) miss) ∙ e)
  ]

  any_mono : {X : Type 0} (p q : X → Bool) → ((x : X) → p x ≡ true → q x ≡ true) → (xs : List X)
      → list_any p xs ≡ true → list_any q xs ≡ true
  any_mono p q h [] e = e
  any_mono p q h (x ∷ xs) e = elim (either (p x)) [
    | inl it ↦ ap (λ b. b || list_any q xs) (h x it)
    | inr miss ↦ ap (λ b. q x || b) (any_mono p q h xs (sym (ap (λ b. b || list_any p xs) miss) ∙ e)) ∙ or-true (q x)
  ]

  any-filter : {X : Type 0} (p q : X → Bool) (xs : List X) → list_any q (filter p xs) ≡ list_any (λ x. p x && q x) xs
  any-filter p q [] = refl
  any-filter p q (x ∷ xs) = elim (p x) as
      (λ b. list_any q (cond b (x ∷ filter p xs) (filter p xs)) ≡ ((b && q x) || list_any (λ y. p y && q y) xs)) [
        | true ↦ ap (λ b. q x || b) (any-filter p q xs)
        | false ↦ any-filter p q xs
      ]

  and_left : (a b : Bool) → (a && b) ≡ true → (a ≡ true) × (b ≡ true)
  and_left true b e = (refl, e)
  and_left false b e = absurd (let f : false ≡ true = e in cc)

  shared : (s t : ℕ) → list_any (on fs t) (channels_on fs s) ≡ share fs s t
  shared s t =
      let both = λ (c : List ℕ). on fs s c && on fs t c in
      any-filter (on fs s) (on fs t) (joins fs s)
      ∙ same_bool (list_any both (joins fs s)) (share fs s t)
      (any_into both (share fs s t) (λ k e.
      let p = and_left (on fs s k) (on fs t k) e in
      any_mono (λ c. is_same c k) both (λ c same. ap (λ b. b && on fs t c) (on-same fs s c k same ∙ p.0)
      ∙ on-same fs t c k same ∙ p.1) (channels fs) (on_there s k p.0)) (joins fs s))
      (any_into both (list_any both (joins fs s)) (λ c e.
      let p = and_left (on fs s c) (on fs t c) e in
      any_mono (λ k. is_same k c) both (λ k same. ap (λ b. b && on fs t k) (on-same fs s k c same ∙ p.0)
      ∙ on-same fs t k c same ∙ p.1) (joins fs s) (joined_on fs s c p.0)) (channels fs))

  any_as : {X : Type 0} (p q : X → Bool) → ((x : X) → p x ≡ q x) → (xs : List X) → list_any p xs ≡ list_any q xs
  any_as p q h [] = refl
  any_as p q h (x ∷ xs) = ap (λ b. b || list_any p xs) (h x) ∙ ap (λ b. q x || b) (any_as p q h xs)

  pub sharers_are : (s n : ℕ) → opened_in fs ≡ numbers 1 n → mates ks (channels_on fs s) s n ≡ sharers fs s
  sharers_are s n e =
      let mine = λ (t : ℕ). list_any (λ c. among t (members_in ks c)) (channels_on fs s) in
      let is : (t : ℕ) → mine t ≡ share fs s t = λ t. any_as (λ c. among t (members_in ks c)) (on fs t) (λ c. ap
      (λ (k : State). among t k.members) (i.states c) ∙ among-members fs t c) (channels_on fs s) ∙ shared s t in
      filter_as (λ t. share fs s t && not (s == t)) (λ t. mine t && not (s == t))
      (λ t. ap (λ b. b && not (s == t)) (is t)) (numbers 1 n)
      ∙ ap (filter (λ t. share fs s t && not (s == t))) (sym e)

  -- ---- as many

  abbrev Apart : List (List ℕ) → Type 0
  Apart [] = Unit {0}
  Apart (x ∷ xs) = (list_any (λ k. is_same x k) xs ≡ false) × Apart xs

  apart_names : (ls : List Channel) → AreApart ls → Apart (names_of ls)
  apart_names [] a = tt
  apart_names (l ∷ ls) a = (other l.name ls ∙ a.0, apart_names ls a.1)
    where
      other : (c : List ℕ) (ms : List Channel) → list_any (λ k. is_same c k) (names_of ms)
          ≡ list_any (λ (l : Channel). is_same c l.name) ms
      other c [] = refl
      other c (m ∷ ms) = ap (λ b. is_same c m.name || b) (other c ms)

  none-filter : (p q : List ℕ → Bool) (xs : List (List ℕ)) → list_any q xs ≡ false → list_any q (filter p xs) ≡ false
  none-filter p q [] e = e
  none-filter p q (x ∷ xs) e =
      let parts = or-none (q x) (list_any q xs) e in
      elim (p x) as (λ b. list_any q (cond b (x ∷ filter p xs) (filter p xs)) ≡ false) [
        | true ↦ ap (λ b. b || list_any q (filter p xs)) parts.0 ∙ none-filter p q xs parts.1
        | false ↦ none-filter p q xs parts.1
      ]

  apart-filter : (p : List ℕ → Bool) (xs : List (List ℕ)) → Apart xs → Apart (filter p xs)
  apart-filter p [] a = tt
  apart-filter p (x ∷ xs) a = elim (p x) as (λ b. Apart (cond b (x ∷ filter p xs) (filter p xs))) [
    | true ↦ (none-filter p (λ k. is_same x k) xs a.0, apart-filter p xs a.1)
    | false ↦ apart-filter p xs a.1
  ]

  none_of : (x : List ℕ) (xs : List (List ℕ)) → AllByRecursion (λ y. is_same x y ≡ false) xs
      → list_any (λ k. is_same x k) xs ≡ false
  none_of x [] a = refl
  none_of x (y ∷ ys) a = ap (λ b. b || list_any (λ k. is_same x k) ys) a.0 ∙ none_of x ys a.1

  apart_of : (xs : List (List ℕ)) → IsDistinct is_same xs → Apart xs
  unfolding IsDistinct
  apart_of [] d = tt
  apart_of (x ∷ xs) d = (none_of x xs d.0, apart_of xs d.1)

  turned : (x : List ℕ) (xs : List (List ℕ)) → list_any (λ k. is_same x k) xs ≡ has x xs
  turned x xs = any_as (λ k. is_same x k) (λ k. is_same k x) (λ k. is_same-sym x k) xs

  has-same : (c d : List ℕ) (xs : List (List ℕ)) → is_same c d ≡ true → has c xs ≡ has d xs
  has-same c d xs e = any_as (λ k. is_same k c) (λ k. is_same k d) (λ k. is_same-right c d k e) xs

  -- nothing is taken out that isn't there
  kept_all : (x : List ℕ) (xs : List (List ℕ)) → has x xs ≡ false → without_name x xs ≡ xs
  kept_all x [] e = refl
  kept_all x (y ∷ ys) e =
      let parts = or-none (is_same y x) (has x ys) e in
      ap (λ b. cond (not b) (y ∷ without_name x ys) (without_name x ys)) parts.0 ∙ ap
      (λ zs. y ∷ zs) (kept_all x ys parts.1)

  one_out : (x : List ℕ) (xs : List (List ℕ)) → Apart xs → has x xs ≡ true
      → length xs ≡ suc (length (without_name x xs))
  one_out x [] a e = absurd (let f : false ≡ true = e in cc)
  one_out x (y ∷ ys) a e = elim (either (is_same y x)) [
    | inl it ↦
        let none : has x ys ≡ false = sym (has-same y x ys it) ∙ sym (turned y ys) ∙ a.0 in
        ap suc (sym (ap length (ap (λ b. cond (not b) (y ∷ without_name x ys) (without_name x ys)) it
        ∙ kept_all x ys none)))
    | inr miss ↦
        ap suc (one_out x ys a.1 (sym (ap (λ b. b || has x ys) miss) ∙ e))
        ∙ sym (ap (λ zs. suc (length zs)) (ap (λ b. cond (not b) (y ∷ without_name x ys) (without_name x ys)) miss))
  ]

  -- names apart that are the same names are as many
  as_many : (xs ys : List (List ℕ)) → Apart xs → Apart ys → ((c : List ℕ) → has c xs ≡ has c ys)
      → length xs ≡ length ys
  as_many [] [] a b h = refl
  as_many [] (y ∷ ys) a b h = absurd (let f : false ≡ true = h y ∙ ap (λ q. q || has y ys) (is_same-refl y) in cc)
  as_many (x ∷ xs) ys a b h =
      let it : has x ys ≡ true = sym (h x) ∙ ap (λ q. q || has x xs) (is_same-refl x) in
      let rest : (c : List ℕ) → has c xs ≡ has c (without_name x ys) = λ c. elim (either (is_same x c)) [
        | inl same ↦
            sym (has-same x c xs same) ∙ sym (turned x xs) ∙ a.0
            ∙ sym (has-without c x ys ∙ ap (λ q. not q && has c ys) (is_same-sym c x ∙ same))
        | inr miss ↦
            sym (ap (λ q. q || has c xs) miss) ∙ h c
            ∙ sym (has-without c x ys ∙ ap (λ q. not q && has c ys) (is_same-sym c x ∙ miss))
      ] in
      ap suc (as_many xs (without_name x ys) a.1 (apart-filter (λ k. not (is_same k x)) ys b) rest)
      ∙ sym (one_out x ys b it)

  -- a session is on as many channels as are its own
  pub count_is : (s : ℕ) → length (channels_on fs s) ≡ channel_count fs s
  count_is s = as_many (channels_on fs s) (filter (on fs s) (channels fs))
      (apart_of (channels_on fs s) (own_once fs s))
      (apart-filter (on fs s) (channels fs) (subst Apart (sym i.channels) (apart_names ks i.apart)))
      (λ c. own_any fs s c ∙ sym (any-filter_same (λ k. is_same k c) (on fs s) (on fs s c)
      (λ k e. on-same fs s k c e) (channels fs) ∙ and_true (on fs s c) (has c (channels fs)) (on_there s c)))
