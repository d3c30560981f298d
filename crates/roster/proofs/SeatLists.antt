-- The channels of each session, by the facts and in the lists.
use Rattle.std.proofs.lemmas.Bool.Decides.{eqb_tells}
use Rattle.std.proofs.lemmas.List.{take_more, take_all}
use Rattle.std.proofs.lemmas.List.Folds.{list_any-append}
use Rattle.std.proofs.lemmas.List.Sums.{sum_by-cons, count_by-le-length}
use Rattle.std.proofs.Common.{◌≡◌, inl, inr, ℕ, ◌+◌, ◌<◌, ◌≤◌, Bool, true, false, not, ◌||◌, ◌==◌, cond}
use Rattle.std.proofs.Common.{List, [], ◌∷◌, ◌++◌, filter, length, take, drop, get_or, slice_get, unwrap_or}
use Rattle.std.proofs.Common.{Option, Some, None, arith, refl, sym, ap, ◌∙◌, subst}
use Rattle.std.specs.List.{flat_map, list_any}
use Rattle.casemapping.specs.Fold.{is_same}
use Rattle.casemapping.proofs.SameNames.{is_same-refl, is_same-sym}
use Rattle.channel_state.specs.declared.change.Change.{Change}
use Rattle.channel_state.specs.declared.change.Change.TheVariants.{Joined, Left, RankSet, FlagSet, KeySet, LimitSet}
use Rattle.channel_state.specs.declared.change.Change.TheVariants.{TopicSet, BanSet, BanLifted, Invited}
use Rattle.chronicle.specs.declared.why.Why.{Why}
use Rattle.roster.specs.declared.deed.Deed.{Deed}
use Rattle.roster.specs.declared.deed.Deed.TheVariants.{NickSet}
use Rattle.roster.specs.declared.deed.Deed.TheVariants.{ChannelMade, Changed, Ended, Gone}
use Rattle.roster.specs.LookBack.{on, state, members, has_member, tells_seat, joins}
use Rattle.roster.specs.LookBack.{channels_on, without_name, with_last_name}
use Rattle.roster.specs.Legal.{IsNext, AreNext}
use Rattle.roster.specs.declared.tables.Card.{Card}
use Rattle.roster.specs.declared.tables.Channel.{Channel}
use Rattle.channel_state.specs.State.{State, among}
use Rattle.roster.specs.declared.channel_lists.ListChange.{ListChange}
use Rattle.roster.specs.Tables.{is_plain, state_in, holds_name}
use Rattle.roster.specs.Lists.{row_of, seat_of, is_taken, seat_list, seat_notes, deed_list, deed_notes, is_joining}
use Rattle.roster.specs.Lists.{joinings}
use Rattle.roster.specs.Lists.{made_name, keyed_name, Relists, Widens, Refits, BeginWith, AreListed}
use Rattle.roster.proofs.Bools.{either, or-none, or-false}
use Rattle.roster.proofs.OnChannels.{among-members, on-same, someone}
use Rattle.roster.proofs.Notes.{noted_after}

-- ---- names that pass a test

pub filter_as : {A : Type 0} (p q : A → Bool) → ((x : A) → q x ≡ p x) → (xs : List A) → filter q xs ≡ filter p xs
filter_as p q same [] = refl
filter_as p q same (x ∷ xs) = ap (λ b. cond b (x ∷ filter q xs) (filter q xs)) (same x) ∙ ap
    (λ ys. cond (p x) (x ∷ ys) ys) (filter_as p q same xs)

pub filter_none : {A : Type 0} (q : A → Bool) → ((x : A) → q x ≡ false) → (xs : List A) → filter q xs ≡ []
filter_none q fails [] = refl
filter_none q fails (x ∷ xs) = ap (λ b. cond b (x ∷ filter q xs) (filter q xs)) (fails x) ∙ filter_none q fails xs

pub filter-append : {A : Type 0} (p : A → Bool) (xs ys : List A) → filter p (xs ++ ys) ≡ filter p xs ++ filter p ys
filter-append p [] ys = refl
filter-append p (x ∷ xs) ys = elim (p x) as (λ b. cond b (x ∷ filter p (xs ++ ys)) (filter p (xs ++ ys))
    ≡ cond b (x ∷ filter p xs) (filter p xs) ++ filter p ys) [
      | true ↦ ap (λ zs. x ∷ zs) (filter-append p xs ys)
      | false ↦ filter-append p xs ys
    ]

module _ (k : List ℕ) (p q : List ℕ → Bool) (other : (c : List ℕ) → is_same k c ≡ false → q c ≡ p c) where
  turned : (c : List ℕ) → is_same c k ≡ false → q c ≡ p c
  turned c e = other c (is_same-sym k c ∙ e)

  -- a test that differs at one name alone, of the others
  filter_others : (cs : List (List ℕ)) → filter q (without_name k cs) ≡ without_name k (filter p cs)
  filter_others [] = refl
  filter_others (c ∷ cs) = elim (either (is_same c k)) [
    | inl same ↦
        ap (λ b. filter q (cond (not b) (c ∷ without_name k cs) (without_name k cs))) same ∙ filter_others cs
        ∙ sym (elim (p c) as (λ b. without_name k (cond b (c ∷ filter p cs) (filter p cs))
        ≡ without_name k (filter p cs)) [
          | true ↦ ap (λ b. cond (not b) (c ∷ without_name k (filter p cs))
              (without_name k (filter p cs))) same
          | false ↦ refl
        ])
    | inr miss ↦
        ap (λ b. filter q (cond (not b) (c ∷ without_name k cs) (without_name k cs))) miss
        ∙ ap (λ b. cond b (c ∷ filter q (without_name k cs)) (filter q (without_name k cs))) (turned c miss)
        ∙ ap (λ xs. cond (p c) (c ∷ xs) xs) (filter_others cs)
        ∙ sym (elim (p c) as (λ b. without_name k (cond b (c ∷ filter p cs) (filter p cs))
        ≡ cond b (c ∷ without_name k (filter p cs)) (without_name k (filter p cs))) [
          | true ↦ ap (λ b. cond
              (not b) (c ∷ without_name k (filter p cs)) (without_name k (filter p cs))) miss
          | false ↦ refl
        ])
  ]

  -- it passes the name, which is put at the end
  filter_last : q k ≡ true → (cs : List (List ℕ)) → filter q (with_last_name k cs) ≡ with_last_name k (filter p cs)
  filter_last it cs =
      filter-append q (without_name k cs) (k ∷ []) ∙ ap (λ b. filter q (without_name k cs) ++ cond b (k ∷ []) []) it
      ∙ ap (λ xs. xs ++ k ∷ []) (filter_others cs)

  -- it doesn't pass the name
  filter_left : ((c : List ℕ) → is_same k c ≡ true → q c ≡ false) → (cs : List (List ℕ))
      → filter q cs ≡ without_name k (filter p cs)
  filter_left fails [] = refl
  filter_left fails (c ∷ cs) = elim (either (is_same c k)) [
    | inl same ↦
        ap (λ b. cond b (c ∷ filter q cs) (filter q cs)) (fails c (is_same-sym k c ∙ same)) ∙ filter_left fails cs
        ∙ sym (elim (p c) as (λ b. without_name k (cond b (c ∷ filter p cs) (filter p cs))
        ≡ without_name k (filter p cs)) [
          | true ↦ ap (λ b. cond (not b) (c ∷ without_name k (filter p cs))
              (without_name k (filter p cs))) same
          | false ↦ refl
        ])
    | inr miss ↦
        ap (λ b. cond b (c ∷ filter q cs) (filter q cs)) (turned c miss)
        ∙ ap (λ xs. cond (p c) (c ∷ xs) xs) (filter_left fails cs)
        ∙ sym (elim (p c) as (λ b. without_name k (cond b (c ∷ filter p cs) (filter p cs))
        ≡ cond b (c ∷ without_name k (filter p cs)) (without_name k (filter p cs))) [
          | true ↦ ap (λ b. cond
              (not b) (c ∷ without_name k (filter p cs)) (without_name k (filter p cs))) miss
          | false ↦ refl
        ])
  ]

-- ---- the channels of a session after a fact

-- what is told of one name says nothing of others
told_of : (o : Option Bool) (p b : Bool) → b ≡ false → unwrap_or (cond b o None) p ≡ p
told_of o p b e = ap (λ x. unwrap_or (cond x o None) p) e

-- what is told says it of the name
told_it : (v p b : Bool) → b ≡ true → unwrap_or (cond b (Some v) None) p ≡ v
told_it v p b e = ap (λ x. unwrap_or (cond x (Some v) None) p) e

told_none : (p b : Bool) → unwrap_or (cond b None None) p ≡ p
told_none p true = refl
told_none p false = refl

nobody_on : (fs : List Deed) (s : ℕ) (k c : List ℕ) → has_member fs k ≡ false → is_same k c ≡ true → on fs s c ≡ false
nobody_on fs s k c none same = elim (either (on fs s c)) [
  | inl is ↦ absurd (let f : true
      ≡ false = sym (someone s (members fs k) (among-members fs s k ∙ on-same fs s k c same ∙ is)) ∙ none in cc)
  | inr not_on ↦ not_on
]

made_by_other : (fs : List Deed) (t s : ℕ) (k : List ℕ) → has_member fs k ≡ false → (t == s) ≡ false → (c : List ℕ)
    → on (ChannelMade t k ∷ fs) s c ≡ on fs s c
made_by_other fs t s k none other c = elim (either (is_same k c)) [
  | inl same ↦ told_it (t == s) (on fs s c) (is_same k c) same ∙ other ∙ sym (nobody_on fs s k c none same)
  | inr miss ↦ told_of (Some (t == s)) (on fs s c) (is_same k c) miss
]

after_making : (fs : List Deed) (t s : ℕ) (k : List ℕ) → has_member fs k ≡ false
    → channels_on (ChannelMade t k ∷ fs) s ≡ deed_list s (ChannelMade t k) (channels_on fs s)
after_making fs t s k none = let now = on (ChannelMade t k ∷ fs) s in elim (eqb_tells t s) [
  | inl same ↦
      ap (λ b. filter now (cond b (with_last_name k (joins fs s)) (joins fs s))) same.0
      ∙ filter_last k (on fs s) now (λ c. told_of (Some (t == s)) (on fs s c) (is_same k c))
      (told_it (t == s) (on fs s k) (is_same k k) (is_same-refl k) ∙ same.0) (joins fs s)
      ∙ sym (ap (λ b. cond b (with_last_name k (channels_on fs s)) (channels_on fs s)) same.0)
  | inr other ↦
      ap (λ b. filter now (cond b (with_last_name k (joins fs s)) (joins fs s))) other.0
      ∙ filter_as (on fs s) now (made_by_other fs t s k none other.0) (joins fs s)
      ∙ sym (ap (λ b. cond b (with_last_name k (channels_on fs s)) (channels_on fs s)) other.0)
]

-- a change that says nothing of s
untold : (fs : List Deed) (k : List ℕ) (s : ℕ) (x : Change) → tells_seat s x ≡ None
    → filter (on (Changed k x ∷ fs) s) (joins fs s) ≡ channels_on fs s
untold fs k s x e = filter_as (on fs s) (on (Changed k x ∷ fs) s) (λ c. ap
    (λ o. unwrap_or (cond (is_same k c) o None) (on fs s c)) e ∙ told_none (on fs s c) (is_same k c)) (joins fs s)

after_join : (fs : List Deed) (t s : ℕ) (k : List ℕ) → channels_on (Changed k (Joined t) ∷ fs) s
    ≡ deed_list s (Changed k (Joined t)) (channels_on fs s)
after_join fs t s k = let now = on (Changed k (Joined t) ∷ fs) s in elim (eqb_tells t s) [
  | inl same ↦
      let told : tells_seat s (Joined t) ≡ Some true = ap (λ b. cond b (Some true) None) same.0 in
      ap (λ b. filter now (cond b (with_last_name k (joins fs s)) (joins fs s))) same.0
      ∙ filter_last k (on fs s) now (λ c. told_of (tells_seat s (Joined t)) (on fs s c) (is_same k c))
      (ap (λ o. unwrap_or (cond (is_same k k) o None) (on fs s k)) told ∙ told_it true (on fs s k) (is_same k k)
      (is_same-refl k)) (joins fs s)
      ∙ sym (ap (λ b. cond b (with_last_name k (channels_on fs s)) (channels_on fs s)) same.0)
  | inr other ↦
      ap (λ b. filter now (cond b (with_last_name k (joins fs s)) (joins fs s))) other.0
      ∙ untold fs k s (Joined t) (ap (λ b. cond b (Some true) None) other.0)
      ∙ sym (ap (λ b. cond b (with_last_name k (channels_on fs s)) (channels_on fs s)) other.0)
]

after_leaving : (fs : List Deed) (t s : ℕ) (k : List ℕ) → channels_on (Changed k (Left t) ∷ fs) s
    ≡ deed_list s (Changed k (Left t)) (channels_on fs s)
after_leaving fs t s k = let now = on (Changed k (Left t) ∷ fs) s in elim (eqb_tells t s) [
  | inl same ↦
      let told : tells_seat s (Left t) ≡ Some false = ap (λ b. cond b (Some false) None) same.0 in
      filter_left k (on fs s) now (λ c. told_of (tells_seat s (Left t)) (on fs s c) (is_same k c))
      (λ c it. ap (λ o. unwrap_or (cond (is_same k c) o None) (on fs s c)) told
      ∙ told_it false (on fs s c) (is_same k c) it) (joins fs s)
      ∙ sym (ap (λ b. cond b (without_name k (channels_on fs s)) (channels_on fs s)) same.0)
  | inr other ↦
      untold fs k s (Left t) (ap (λ b. cond b (Some false) None) other.0)
      ∙ sym (ap (λ b. cond b (without_name k (channels_on fs s)) (channels_on fs s)) other.0)
]

after_change : (fs : List Deed) (s : ℕ) (k : List ℕ) (x : Change) → channels_on (Changed k x ∷ fs) s
    ≡ deed_list s (Changed k x) (channels_on fs s)
after_change fs s k (Joined t) = after_join fs t s k
after_change fs s k (Left t) = after_leaving fs t s k
after_change fs s k (RankSet t rank is) = untold fs k s (RankSet t rank is) refl
after_change fs s k (FlagSet f is) = untold fs k s (FlagSet f is) refl
after_change fs s k (KeySet x) = untold fs k s (KeySet x) refl
after_change fs s k (LimitSet x) = untold fs k s (LimitSet x) refl
after_change fs s k (TopicSet x) = untold fs k s (TopicSet x) refl
after_change fs s k (BanSet x) = untold fs k s (BanSet x) refl
after_change fs s k (BanLifted x) = untold fs k s (BanLifted x) refl
after_change fs s k (Invited t x) = untold fs k s (Invited t x) refl

after_going : (fs : List Deed) (t s : ℕ) → channels_on (Gone t ∷ fs) s ≡ deed_list s (Gone t) (channels_on fs s)
after_going fs t s = elim (eqb_tells t s) [
  | inl same ↦
      filter_none (on (Gone t ∷ fs) s) (λ c. ap (λ b. unwrap_or (cond b (Some false) None) (on fs s c)) same.0)
      (joins fs s)
      ∙ sym (ap (λ b. cond b [] (channels_on fs s)) same.0)
  | inr other ↦
      filter_as (on fs s) (on (Gone t ∷ fs) s)
      (λ c. ap (λ b. unwrap_or (cond b (Some false) None) (on fs s c)) other.0) (joins fs s)
      ∙ sym (ap (λ b. cond b [] (channels_on fs s)) other.0)
]

-- the channels of a session after each fact that may come
pub channels_after : (fs : List Deed) (s : ℕ) (d : Deed) → IsNext fs d → channels_on (d ∷ fs) s
    ≡ deed_list s d (channels_on fs s)
channels_after fs s (ChannelMade t k) n = after_making fs t s k n
channels_after fs s (Changed k x) n = after_change fs s k x
channels_after fs s (Gone t) n = after_going fs t s
channels_after fs s _ n = refl

-- ---- the lists

pub joinings-cons : (s : ℕ) (d : Deed) (ds : List Deed) → joinings s (d ∷ ds)
    ≡ cond (is_joining s d) 1 0 + joinings s ds
joinings-cons s d ds = sum_by-cons (λ (e : Deed). cond (is_joining s e) 1 0) d ds

listed : (fs ds : List Deed) (d : Deed) (rs qs : List (ℕ × Card)) (copies left : List (List ℕ)) → IsNext fs d
    → AreListed rs copies fs (d ∷ ds) → Relists rs qs (λ s. deed_list s d) (λ s. deed_notes s d) (λ s. is_joining s d)
    → BeginWith (flat_map made_name ds) left → AreListed qs left (d ∷ fs) ds
listed fs ds d rs qs copies left n i r b = record {
  lists = λ s. r.lists s ∙ ap (deed_list s d) (i.lists s) ∙ sym (channels_after fs s d n);
  noted = λ s c e. ap (holds_name c) (r.notes s) ∙ noted_after d fs s c (row_of rs s).notes (i.noted s c) e;
  room = λ s. let had = i.room s in let less = r.rooms s in let e = joinings-cons s d ds in omega arith;
  copies = b;
}

module _ (d e : Deed) (is : d ≡ e) (fs ds : List Deed) (first : slice_get ds 0 ≡ Some d) (rs : List (ℕ × Card))
    (copies : List (List ℕ)) where
  ready_first : (es : List Deed) → slice_get es 0 ≡ Some d → es ≡ d ∷ drop 1 es
  ready_first [] f = absurd (let g : ◌≡◌ {A = Option Deed} None (Some d) = f in cc)
  ready_first (x ∷ es) f = let g : Some x ≡ Some d = f in let h : x ≡ d = cc in ap (λ y. y ∷ es) h

  -- what holds before the deed
  pub listed_before : AreListed rs copies fs ds → AreListed rs copies fs (e ∷ drop 1 ds)
  listed_before i = subst (AreListed rs copies fs) (ready_first ds first ∙ ap (λ x. x ∷ drop 1 ds) is) i

  pub next_before : AreNext fs ds → AreNext fs (e ∷ drop 1 ds)
  next_before n = subst (AreNext fs) (ready_first ds first ∙ ap (λ x. x ∷ drop 1 ds) is) n

  -- and after it
  pub listed_after : (qs : List (ℕ × Card)) (left : List (List ℕ)) (gs es : List Deed) → AreNext fs ds
      → AreListed rs copies fs ds → Relists rs qs (λ s. deed_list s e) (λ s. deed_notes s e) (λ s. is_joining s e)
      → BeginWith (flat_map made_name (drop 1 ds)) left → gs ≡ d ∷ fs → es ≡ drop 1 ds → AreListed qs left gs es
  listed_after qs left gs es n i r b eg ee =
      subst (λ (xs : List Deed). AreListed qs left xs es) (sym (eg ∙ ap (λ x. x ∷ fs) is))
      (subst (AreListed qs left (e ∷ fs)) (sym ee)
      (listed fs (drop 1 ds) e rs qs copies left (next_before n).0 (listed_before i) r b))

-- what was shown of the variant of a deed
pub listed_done : (d e : Deed) (qs : List (ℕ × Card)) (left : List (List ℕ)) (fs ds gs rs : List Deed) → d ≡ e
    → gs ≡ d ∷ fs → rs ≡ drop 1 ds → AreListed qs left (e ∷ fs) (drop 1 ds) → AreListed qs left gs rs
listed_done d e qs left fs ds gs rs is eg er i = subst (λ (xs : List Deed). AreListed qs left xs rs)
    (sym (eg ∙ ap (λ x. x ∷ fs) is)) (subst (AreListed qs left (e ∷ fs)) (sym er) i)

-- ---- room and copies

-- there is room for whoever joins
pub seat_room : (rs : List (ℕ × Card)) (copies : List (List ℕ)) (fs ds : List Deed) (d : Deed) (s : ℕ)
    → AreListed rs copies fs (d ∷ ds) → is_joining s d ≡ true → 0 < (row_of rs s).room
seat_room rs copies fs ds d s i it = let r = i.room s in
    let e = joinings-cons s d ds ∙ ap (λ b. cond b 1 0 + joinings s ds) it in omega arith

pub first_copy : (n : List ℕ) (cs ks : List (List ℕ)) → BeginWith (n ∷ cs) ks → slice_get ks 0 ≡ Some n
first_copy n cs [] b = absurd b
first_copy n cs (k ∷ ks) b = ap (λ (x : List ℕ). Some x) b.0

pub some_copy : (n : List ℕ) (cs ks : List (List ℕ)) → BeginWith (n ∷ cs) ks → 0 < length ks
some_copy n cs [] b = absurd b
some_copy n cs (k ∷ ks) b = omega arith

pub later_copies : (n : List ℕ) (cs ks : List (List ℕ)) → BeginWith (n ∷ cs) ks → BeginWith cs (drop 1 ks)
later_copies n cs [] b = absurd b
later_copies n cs (k ∷ ks) b = b.1

pub begin_same : (cs : List (List ℕ)) → BeginWith cs cs
begin_same [] = tt
begin_same (c ∷ cs) = (refl, begin_same cs)

pub reseats : (rs qs : List (ℕ × Card)) (n m : List ℕ) (x : Change) (z : ListChange) → n ≡ m
    → z ≡ seat_of x → Relists rs qs (λ s. seat_list s m z) (λ s. seat_notes s m z) (λ s. is_taken s z)
    → Relists rs qs (λ s. deed_list s (Changed n x)) (λ s. deed_notes s (Changed n x))
    (λ s. is_joining s (Changed n x))
reseats rs qs n m x z en ez r =
    subst (λ (y : ListChange). Relists rs qs (λ s. seat_list s n y) (λ s. seat_notes s n y) (λ s. is_taken s y)) ez
    (subst
    (λ (k : List ℕ). Relists rs qs (λ s. seat_list s k z) (λ s. seat_notes s k z) (λ s. is_taken s z)) (sym en) r)

-- it is ready for nothing
pub listed_idle : (rs : List (ℕ × Card)) (copies : List (List ℕ)) (fs ds : List Deed) → AreListed rs copies fs ds
    → AreListed rs copies fs []
listed_idle rs copies fs ds i = record {
  lists = i.lists;
  noted = i.noted;
  room = λ s.
      let z : 0 ≤ (row_of rs s).room = omega arith in z;
  copies = tt;
}

-- notes stay where the channels are those of the facts
still_noted : (ks : List Channel) (fs : List Deed) (rs qs : List (ℕ × Card))
    → ((c : List ℕ) → state_in ks c ≡ state fs c) → Refits ks rs qs
    → ((s : ℕ) (c : List ℕ) → among s (state fs c).invited ≡ true → holds_name c (row_of rs s).notes ≡ true)
    → (s : ℕ) (c : List ℕ) → among s (state fs c).invited ≡ true → holds_name c (row_of qs s).notes ≡ true
still_noted ks fs rs qs st w i s c e = w.notes s c (ap (λ (k : State). among s k.invited) (st c) ∙ e) (i s c e)

pub listed_wide : (ks : List Channel) (rs qs : List (ℕ × Card)) (copies : List (List ℕ)) (fs ds : List Deed)
    → ((c : List ℕ) → state_in ks c ≡ state fs c) → AreListed rs copies fs ds → Refits ks rs qs
    → AreListed qs copies fs ds
listed_wide ks rs qs copies fs ds st i w = record {
  lists = λ s. w.lists s ∙ i.lists s;
  noted = still_noted ks fs rs qs st w i.noted;
  room = λ s. let had = i.room s in let wide = w.rooms s in omega arith;
  copies = i.copies;
}

-- the server ends a session
pub listed_ended : (rs qs : List (ℕ × Card)) (ns : List (List ℕ)) (fs ds : List Deed) (t : ℕ) (w : Why) (x : List ℕ)
    → AreListed rs ns fs ds → Widens rs qs → AreListed qs ns (Ended t w x ∷ fs) []
listed_ended rs qs ns fs ds t w x i v = record {
  lists = λ s. v.lists s ∙ i.lists s;
  noted = λ s c e. ap (holds_name c) (v.notes s) ∙ i.noted s c e;
  room = λ s.
      let z : 0 ≤ (row_of qs s).room = omega arith in z;
  copies = tt;
}

-- a plain fact says nothing of channels
plain_relisted : (d : Deed) → is_plain d ≡ true → (s : ℕ) (cs : List (List ℕ)) → deed_list s d cs ≡ cs
plain_relisted (NickSet u n) p s cs = absurd (let f : false ≡ true = p in cc)
plain_relisted (ChannelMade u k) p s cs = absurd (let f : false ≡ true = p in cc)
plain_relisted (Changed k x) p s cs = absurd (let f : false ≡ true = p in cc)
plain_relisted (Gone u) p s cs = absurd (let f : false ≡ true = p in cc)
plain_relisted _ p s cs = refl

plain_renoted : (d : Deed) → is_plain d ≡ true → (s : ℕ) (cs : List (List ℕ)) → deed_notes s d cs ≡ cs
plain_renoted (NickSet u n) p s cs = absurd (let f : false ≡ true = p in cc)
plain_renoted (ChannelMade u k) p s cs = absurd (let f : false ≡ true = p in cc)
plain_renoted (Changed k x) p s cs = absurd (let f : false ≡ true = p in cc)
plain_renoted (Gone u) p s cs = absurd (let f : false ≡ true = p in cc)
plain_renoted _ p s cs = refl

plain_unmade : (d : Deed) → is_plain d ≡ true → made_name d ≡ []
plain_unmade (NickSet u n) p = absurd (let f : false ≡ true = p in cc)
plain_unmade (ChannelMade u k) p = absurd (let f : false ≡ true = p in cc)
plain_unmade (Changed k x) p = absurd (let f : false ≡ true = p in cc)
plain_unmade (Gone u) p = absurd (let f : false ≡ true = p in cc)
plain_unmade _ p = refl

-- rows that are as wide stand where a fact says nothing of channels
pub relists_wide : (rs qs : List (ℕ × Card)) (d : Deed) → ((s : ℕ) (cs : List (List ℕ)) → deed_list s d cs ≡ cs)
    → ((s : ℕ) (ns : List (List ℕ)) → deed_notes s d ns ≡ ns) → Widens rs qs
    → Relists rs qs (λ s. deed_list s d) (λ s. deed_notes s d) (λ s. is_joining s d)
relists_wide rs qs d same so w = record {
  lists = λ s. w.lists s ∙ sym (same s (row_of rs s).list);
  notes = λ s. w.notes s ∙ sym (so s (row_of rs s).notes);
  rooms = λ s. let a = w.rooms s in omega arith;
}

pub relists_plain : (rs qs : List (ℕ × Card)) (d : Deed) → is_plain d ≡ true → Widens rs qs
    → Relists rs qs (λ s. deed_list s d) (λ s. deed_notes s d) (λ s. is_joining s d)
relists_plain rs qs d p w = relists_wide rs qs d (plain_relisted d p) (plain_renoted d p) w

pub copies_plain : (d : Deed) (ds : List Deed) (copies : List (List ℕ)) → is_plain d ≡ true
    → BeginWith (flat_map made_name (d ∷ ds)) copies → BeginWith (flat_map made_name ds) copies
copies_plain d ds copies p b = subst (λ (cs : List (List ℕ)). BeginWith (cs ++ flat_map made_name ds) copies)
    (plain_unmade d p) b

-- where no deed that follows gives a name, nobody joins by one
unkeyed_joining : (d : Deed) (s : ℕ) (cs : List (List ℕ)) → BeginWith (keyed_name d ++ cs) []
    → (is_joining s d ≡ false) × BeginWith cs []
unkeyed_joining (NickSet u n) s cs b = absurd b
unkeyed_joining (ChannelMade u k) s cs b = absurd b
unkeyed_joining (Changed k x) s cs b = absurd b
unkeyed_joining _ s cs b = (refl, b)

pub none_keyed : (s : ℕ) (ds : List Deed) → BeginWith (flat_map keyed_name ds) [] → joinings s ds ≡ 0
none_keyed s [] b = refl
none_keyed s (d ∷ ds) b =
    let first = unkeyed_joining d s (flat_map keyed_name ds) b in let rest = none_keyed s ds first.1 in
    let e = joinings-cons s d ds ∙ ap (λ x. cond x 1 0 + joinings s ds) first.0 in omega arith

pub none_there : (ks : List (List ℕ)) (n : ℕ) → n ≡ length ks → (n == 0) ≡ true → ks ≡ []
none_there [] n e z = refl
none_there (k ∷ ks) n e z = elim (eqb_tells n 0) [
  | inl same ↦ absurd (let f = same.1 in omega arith)
  | inr other ↦ absurd (let f : false ≡ true = sym other.0 ∙ z in cc)
]

-- a session is gone
pub listed_gone : (rs qs : List (ℕ × Card)) (copies folds : List (List ℕ)) (fs ds : List Deed) (t : ℕ) (last : Bool)
    → IsNext fs (Gone t) → AreListed rs copies fs (Gone t ∷ ds)
    → ((s : ℕ) → (row_of qs s).list ≡ cond (t == s) [] (row_of rs s).list)
    → ((s : ℕ) → (row_of qs s).notes ≡ cond (t == s) [] (row_of rs s).notes)
    → (last ≡ false → (s : ℕ) → (row_of rs s).room ≤ (row_of qs s).room) → (last ≡ true → folds ≡ [])
    → BeginWith (flat_map keyed_name ds) folds → AreListed qs copies (Gone t ∷ fs) ds
listed_gone rs qs copies folds fs ds t last n i el en er ef b = record {
  lists = λ s. el s ∙ ap (λ (cs : List (List ℕ)). cond (t == s) [] cs) (i.lists s)
      ∙ sym (channels_after fs s (Gone t) n);
  noted = λ s c e. ap (holds_name c) (en s) ∙ noted_after (Gone t) fs s c (row_of rs s).notes (i.noted s c) e;
  room = λ s. elim (either last) [
    | inl it ↦ let none = none_keyed s ds (subst (BeginWith (flat_map keyed_name ds)) (ef it) b) in omega arith
    | inr not_last ↦ let had = i.room s in let kept = er not_last s in
        let e = joinings-cons s (Gone t) ds in omega arith
  ];
  copies = i.copies;
}

-- it is ready for deeds
pub listed_ready : (ks : List Channel) (rs qs : List (ℕ × Card)) (copies left : List (List ℕ))
    (fs es ds : List Deed) → ((c : List ℕ) → state_in ks c ≡ state fs c) → AreListed rs copies fs es
    → Refits ks rs qs → ((s : ℕ) → joinings s ds ≤ (row_of qs s).room) → left ≡ flat_map made_name ds
    → AreListed qs left fs ds
listed_ready ks rs qs copies left fs es ds st i w room e =
    record {
      lists = λ s. w.lists s ∙ i.lists s;
      noted = still_noted ks fs rs qs st w i.noted;
      room = room;
      copies = subst (BeginWith (flat_map made_name ds)) (sym e) (begin_same (flat_map made_name ds));
    }

-- ---- lists that stay

pub refits_refl : (ks : List Channel) (rs : List (ℕ × Card)) → Refits ks rs rs
refits_refl ks rs = record { lists = λ s. refl; notes = λ s c e h. h; rooms = λ s. omega arith }

pub refits_same : (ks : List Channel) (rs qs : List (ℕ × Card)) → qs ≡ rs → Refits ks rs qs
refits_same ks rs qs e = subst (Refits ks rs) (sym e) (refits_refl ks rs)

pub refits_more : (ks : List Channel) (rs qs ls : List (ℕ × Card)) → Refits ks rs qs → Refits ks qs ls
    → Refits ks rs ls
refits_more ks rs qs ls w v = record {
  lists = λ s. v.lists s ∙ w.lists s;
  notes = λ s c e h. v.notes s c e
      (w.notes s c e h);
  rooms = λ s. let a = w.rooms s in let b = v.rooms s in omega arith;
}

pub refits_wide : (ks : List Channel) (rs qs : List (ℕ × Card)) → Widens rs qs → Refits ks rs qs
refits_wide ks rs qs w = record {
  lists = w.lists;
  notes = λ s c e h. ap (holds_name c) (w.notes s) ∙ h;
  rooms = w.rooms;
}

-- ---- room for those who join by deeds

-- what holds of the rows of those who join by the first deeds
abbrev pub HaveRoomFor : ℕ → List Deed → List (ℕ × Card) → Type 0
HaveRoomFor n ds rs = (s : ℕ) → list_any (is_joining s) ds ≡ true → n ≤ (row_of rs s).room

pub room_for_none : (n : ℕ) (rs : List (ℕ × Card)) → HaveRoomFor n [] rs
room_for_none n rs s e = absurd (let f : false ≡ true = e in cc)

pub room_for_more : (ks : List Channel) (n i : ℕ) (ds : List Deed) (d : Deed) (rs qs : List (ℕ × Card))
    → i < length ds → d ≡ get_or ds i d → Refits ks rs qs → HaveRoomFor n (take i ds) rs
    → ((s : ℕ) → is_joining s d ≡ true → n ≤ (row_of qs s).room) → HaveRoomFor n (take (i + 1) ds) qs
room_for_more ks n i ds d rs qs l is w h new s e =
    elim (either (list_any (is_joining s) (take i ds))) [
      | inl before ↦ let a = h s before in let b = w.rooms s in omega arith
      | inr none ↦ new s (
          sym (or-false (is_joining s d))
          ∙ sym (ap (λ b. b || (is_joining s d || false)) none)
          ∙ sym (list_any-append (is_joining s) (take i ds) (d ∷ []))
          ∙ ap (list_any (is_joining s)) (ap (λ (x : Deed). take i ds ++ x ∷ []) is ∙ sym (take_more ds i d l))
          ∙ e)
    ]

none_joining : (s : ℕ) (ds : List Deed) → list_any (is_joining s) ds ≡ false → joinings s ds ≡ 0
none_joining s [] e = refl
none_joining s (d ∷ ds) e =
    let parts = or-none (is_joining s d) (list_any (is_joining s) ds) e in
    let first = joinings-cons s d ds ∙ ap (λ b. cond b 1 0 + joinings s ds) parts.0 in
    let rest = none_joining s ds parts.1 in omega arith

pub room_for_all : (ds : List Deed) (i : ℕ) (rs : List (ℕ × Card)) → length ds ≤ i
    → HaveRoomFor (length ds) (take i ds) rs → (s : ℕ) → joinings s ds ≤ (row_of rs s).room
room_for_all ds i rs l h s =
    let few : joinings s ds ≤ length ds = count_by-le-length (is_joining s) ds in
    elim (either (list_any (is_joining s) ds)) [
      | inl some ↦ let a = h s (ap (list_any (is_joining s)) (take_all i ds l) ∙ some) in omega arith
      | inr none ↦ let e = none_joining s ds none in omega arith
    ]
