-- Room for deeds.
use Rattle.std.proofs.Common.{◌≡◌, ℕ, ◌+◌, ◌<◌, ◌≤◌, Bool, true, false, cond, List, [], ◌∷◌, ◌++◌, length, take, ◌||◌}
use Rattle.std.proofs.Common.{inl, inr, Option, Some, None, count_by, get_or, arith, refl, sym, ap, ◌∙◌, subst}
use Rattle.std.proofs.lemmas.List.Sums.{sum_by-cons, count_by-le-length}
use Rattle.roster.specs.declared.deed.Deed.{Deed}
use Rattle.roster.specs.declared.tables.Channel.{Channel}
use Rattle.channel_state.specs.State.{nothing}
use Rattle.channel_state.specs.Held.{ChannelView}
use Rattle.std.specs.List.{list_any}
use Rattle.std.specs.Option.{option_map_or}
use Rattle.std.specs.List.{flat_map}
use Rattle.std.proofs.lemmas.List.{take_more, take_all, length-append}
use Rattle.std.proofs.lemmas.List.Folds.{list_any-append}
use Rattle.casemapping.specs.Fold.{is_same}
use Rattle.casemapping.proofs.SameNames.{is_same-left, is_same-sym}
use Rattle.roster.specs.declared.deed.Deed.TheVariants.{Changed}
use Rattle.roster.specs.Tables.{channel_of, with_held}
use Rattle.roster.specs.Lists.{keyed_name, BeginWith}
use Rattle.roster.specs.Stands.{HaveSeats, KeepsSeats, AreSpare, Alike, AreApart, ReservesBy}
use Rattle.roster.specs.Stands.{changed_name, is_change, changes, is_making}
use Rattle.roster.proofs.Bools.{either, or-none, or-false}
use Rattle.roster.proofs.ChannelTable.{apart-with}

-- ---- lists that are spare

pub spare_last : (n : ℕ) (ms : List ChannelView) (m : ChannelView) → AreSpare n (ms ++ m ∷ []) → AreSpare n ms
    × (m.state ≡ nothing) × (n ≤ m.room)
spare_last n [] m a = (tt, a.0, a.1)
spare_last n (x ∷ ms) m a = let rest = spare_last n ms m a.2 in ((a.0, a.1, rest.0), rest.1, rest.2)

pub spare_push : (n : ℕ) (ms : List ChannelView) (m : ChannelView) → AreSpare n ms → m.state ≡ nothing → n ≤ m.room
    → AreSpare n (ms ++ m ∷ [])
spare_push n [] m a e l = (e, l, tt)
spare_push n (x ∷ ms) m a e l = (a.0, a.1, spare_push n ms m a.2 e l)

pub spare_less : (n k : ℕ) (ms : List ChannelView) → k ≤ n → AreSpare n ms → AreSpare k ms
spare_less n k [] l a = tt
spare_less n k (m ∷ ms) l a = (a.0, (let r = a.1 in omega arith), spare_less n k ms l a.2)

-- ---- seats

pub seats_none : (ks : List Channel) → HaveSeats [] ks
seats_none [] = tt
seats_none (k ∷ ks) = (let z : 0 ≤ k.held.room = omega arith in z, seats_none ks)

fewer : (b : Bool) (n : ℕ) → n ≤ cond b 1 0 + n
fewer true n = omega arith
fewer false n = omega arith

pub changes-cons : (c : List ℕ) (d : Deed) (ds : List Deed) → changes c (d ∷ ds)
    ≡ cond (is_change c d) 1 0 + changes c ds
changes-cons c d ds = sum_by-cons (λ (e : Deed). cond (is_change c e) 1 0) d ds

pub makings-cons : (d : Deed) (ds : List Deed) → count_by is_making (d ∷ ds)
    ≡ cond (is_making d) 1 0 + count_by is_making ds
makings-cons d ds = sum_by-cons (λ (e : Deed). cond (is_making e) 1 0) d ds

-- a deed fewer
pub seats_less : (d : Deed) (ds : List Deed) (ks : List Channel) → HaveSeats (d ∷ ds) ks → HaveSeats ds ks
seats_less d ds [] h = tt
seats_less d ds (k ∷ ks) h = (
  (let r = h.0 in let b = fewer (is_change k.name d) (changes k.name ds) in
      let e = changes-cons k.name d ds in omega arith),
  seats_less d ds ks h.1,
)

pub changes_few : (c : List ℕ) (ds : List Deed) → changes c ds ≤ length ds
changes_few c ds = count_by-le-length (is_change c) ds

pub seats-push : (ds : List Deed) (ks : List Channel) (k : Channel) → HaveSeats ds ks
    → changes k.name ds ≤ k.held.room → HaveSeats ds (ks ++ k ∷ [])
seats-push ds [] k h l = (l, tt)
seats-push ds (x ∷ ks) k h l = (h.0, seats-push ds ks k h.1 l)

-- ---- all rooms made

pub alike_refl : (ks : List Channel) → Alike ks ks
alike_refl [] = tt
alike_refl (k ∷ ks) = (refl, refl, alike_refl ks)

pub alike_with : (ks : List Channel) (c : List ℕ) (m : ChannelView)
    → ((x : Channel) → channel_of ks c ≡ Some x → m.state ≡ x.held.state) → Alike ks (with_held ks c m)
alike_with [] c m e = tt
alike_with (k ∷ ks) c m e = elim (either (is_same k.name c)) [
  | inl same ↦ rw same (refl, e k (ap (λ b. cond b (Some k) (channel_of ks c)) same), alike_refl ks)
  | inr miss ↦ rw miss (
    refl,
    refl,
    alike_with ks c m
        (λ x at. e x (ap (λ b. cond b (Some k) (channel_of ks c)) miss ∙ at)),
  )
]

-- ---- room in the channels that deeds change

-- each channel that one of these deeds changes has room for n changes
abbrev pub HaveSeatsFor : ℕ → List Deed → List Channel → Type 0
HaveSeatsFor n ds [] = Unit {0}
HaveSeatsFor n ds (k ∷ ks) = (list_any (is_change k.name) ds ≡ true → n ≤ k.held.room) × HaveSeatsFor n ds ks

pub seats_for_none : (n : ℕ) (ks : List Channel) → HaveSeatsFor n [] ks
seats_for_none n [] = tt
seats_for_none n (k ∷ ks) = (λ e. absurd (let f : false ≡ true = e in cc), seats_for_none n ks)

-- a deed more that doesn't change this channel
unchanged : (c : List ℕ) (ds : List Deed) (d : Deed) → is_change c d ≡ false
    → list_any (is_change c) (ds ++ d ∷ []) ≡ list_any (is_change c) ds
unchanged c ds d e = list_any-append (is_change c) ds (d ∷ []) ∙ ap
    (λ b. list_any (is_change c) ds || (b || false)) e ∙ or-false (list_any (is_change c) ds)

seats_for_other : (n : ℕ) (ds : List Deed) (d : Deed) (ks : List Channel) → ((c : List ℕ) → is_change c d ≡ false)
    → HaveSeatsFor n ds ks → HaveSeatsFor n (ds ++ d ∷ []) ks
seats_for_other n ds d [] no_change h = tt
seats_for_other n ds d (k ∷ ks) no_change h = (
  λ e. h.0 (sym (unchanged k.name ds d (no_change k.name)) ∙ e),
  seats_for_other n ds d ks no_change h.1,
)

-- channels of other names
seats_for_apart : (n : ℕ) (ds : List Deed) (c : List ℕ) (d : Deed) → ((a : List ℕ) → is_change a d ≡ is_same c a)
    → (ks : List Channel) → list_any (λ (l : Channel). is_same c l.name) ks ≡ false → HaveSeatsFor n ds ks
    → HaveSeatsFor n (ds ++ d ∷ []) ks
seats_for_apart n ds c d w [] e h = tt
seats_for_apart n ds c d w (k ∷ ks) e h =
    let parts = or-none (is_same c k.name) (list_any (λ (l : Channel). is_same c l.name) ks) e in
    (λ f. h.0 (sym (unchanged k.name ds d (w k.name ∙ parts.0)) ∙ f), seats_for_apart n ds c d w ks parts.1 h.1)

others_apart : (a c : List ℕ) (ks : List Channel) → is_same a c ≡ true → list_any
    (λ (l : Channel). is_same a l.name) ks ≡ false → list_any (λ (l : Channel). is_same c l.name) ks ≡ false
others_apart a c [] s e = refl
others_apart a c (k ∷ ks) s e =
    let parts = or-none (is_same a k.name) (list_any (λ (l : Channel). is_same a l.name) ks) e in
    ap (λ b. b || list_any (λ (l : Channel). is_same c l.name) ks) (sym (is_same-left a c k.name s) ∙ parts.0)
    ∙ others_apart a c ks s parts.1

seats_for_with : (n : ℕ) (ds : List Deed) (c : List ℕ) (d : Deed) → ((a : List ℕ) → is_change a d ≡ is_same c a)
    → (m : ChannelView) (ks : List Channel) → AreApart ks → n ≤ m.room → HaveSeatsFor n ds ks
    → HaveSeatsFor n (ds ++ d ∷ []) (with_held ks c m)
seats_for_with n ds c d w m [] a l h = tt
seats_for_with n ds c d w m (k ∷ ks) a l h = elim (either (is_same k.name c)) [
  | inl same ↦ rw same (λ e. l, seats_for_apart n ds c d w ks (others_apart k.name c ks same a.0) h.1)
  | inr miss ↦ rw miss (
    λ e. h.0 (sym (unchanged k.name ds d (w k.name ∙ is_same-sym c k.name ∙ miss)) ∙ e),
    seats_for_with n ds c d w m ks a.1 l h.1,
  )
]

is_change_of : (c : List ℕ) (d : Deed) → is_change c d ≡ option_map_or (λ k. is_same k c) (changed_name d) false
is_change_of c (Changed k x) = refl
is_change_of c _ = refl

-- a deed more
seats_for_next : (n : ℕ) (ds : List Deed) (d : Deed) (o : Option (List ℕ)) (ks ls : List Channel) → changed_name d
    ≡ o → AreApart ks → ReservesBy o ks ls n → HaveSeatsFor n ds ks → HaveSeatsFor n (ds ++ d ∷ []) ls × AreApart ls
seats_for_next n ds d None ks ls e a r h =
    let none : (c : List ℕ) → is_change c d ≡ false = λ c. is_change_of c d ∙ ap
    (λ o. option_map_or (λ k. is_same k c) o false) e in
    subst (λ (ms : List Channel). HaveSeatsFor n (ds ++ d ∷ []) ms × AreApart ms) (sym r)
    (seats_for_other n ds d ks none h, a)
seats_for_next n ds d (Some m) ks ls e a r h =
    let by : (c : List ℕ) → is_change c d ≡ is_same m c = λ c. is_change_of c d ∙ ap
    (λ o. option_map_or (λ k. is_same k c) o false) e in
    subst (λ (ms : List Channel). HaveSeatsFor n (ds ++ d ∷ []) ms × AreApart ms) (sym r.reserved)
    (seats_for_with n ds m d by r.held ks a r.room h, apart-with ks m r.held a)

pub seats_for_more : (n i : ℕ) (ds : List Deed) (d : Deed) (ks ls : List Channel) → i < length ds
    → d ≡ get_or ds i d → AreApart ks → ReservesBy (changed_name d) ks ls n → HaveSeatsFor n (take i ds) ks
    → HaveSeatsFor n (take (i + 1) ds) ls × AreApart ls
seats_for_more n i ds d ks ls l is a r h =
    subst (λ (es : List Deed). HaveSeatsFor n es ls × AreApart ls) (ap (λ (x : Deed). take i ds ++ x ∷ []) is
    ∙ sym (take_more ds i d l)) (seats_for_next n (take i ds) d (changed_name d) ks ls refl a r h)

none_changing : (c : List ℕ) (ds : List Deed) → list_any (is_change c) ds ≡ false → changes c ds ≡ 0
none_changing c [] e = refl
none_changing c (d ∷ ds) e =
    let parts = or-none (is_change c d) (list_any (is_change c) ds) e in
    let first = changes-cons c d ds ∙ ap (λ b. cond b 1 0 + changes c ds) parts.0 in
    let rest = none_changing c ds parts.1 in omega arith

seats_for_these : (n : ℕ) (ds : List Deed) (ks : List Channel) → length ds ≤ n → HaveSeatsFor n ds ks
    → HaveSeats ds ks
seats_for_these n ds [] m h = tt
seats_for_these n ds (k ∷ ks) m h = (
  elim (either (list_any (is_change k.name) ds)) [
    | inl some ↦ let a = h.0 some in let few = changes_few k.name ds in omega arith
    | inr none ↦ let e = none_changing k.name ds none in omega arith
  ],
  seats_for_these n ds ks m h.1,
)

pub seats_for_all : (n : ℕ) (ds : List Deed) (i : ℕ) (ks : List Channel) → length ds ≤ n → length ds ≤ i
    → HaveSeatsFor n (take i ds) ks → HaveSeats ds ks
seats_for_all n ds i ks m l h = seats_for_these n ds ks m
    (subst (λ (es : List Deed). HaveSeatsFor n es ks) (take_all i ds l) h)

pub alike_more : (ks ls ms : List Channel) → Alike ks ls → Alike ls ms → Alike ks ms
alike_more [] [] [] a b = tt
alike_more [] [] (m ∷ ms) a b = absurd b
alike_more [] (l ∷ ls) ms a b = absurd a
alike_more (k ∷ ks) [] ms a b = absurd a
alike_more (k ∷ ks) (l ∷ ls) [] a b = absurd b
alike_more (k ∷ ks) (l ∷ ls) (m ∷ ms) a b = (b.0 ∙ a.0, b.1 ∙ a.1, alike_more ks ls ms a.2 b.2)

-- ---- channels that keep their room

pub keeps_same : (n : ℕ) (ks ls : List Channel) → ls ≡ ks → KeepsSeats n ks ls
keeps_same n ks ls e = λ ds few h. subst (HaveSeats ds) (sym e) h

pub keeps_more : (n : ℕ) (ks ls ms : List Channel) → KeepsSeats n ks ls → KeepsSeats n ls ms → KeepsSeats n ks ms
keeps_more n ks ls ms a b = λ ds few h. b ds few (a ds few h)

seats_with : (n : ℕ) (ds : List Deed) (ks : List Channel) (c : List ℕ) (m : ChannelView)
    → ((a : List ℕ) → changes a ds ≤ n) → n ≤ m.room → HaveSeats ds ks → HaveSeats ds (with_held ks c m)
seats_with n ds [] c m few l h = tt
seats_with n ds (k ∷ ks) c m few l h = elim (either (is_same k.name c)) [
  | inl same ↦ rw same ((let f = few k.name in omega arith), h.1)
  | inr miss ↦ rw miss (h.0, seats_with n ds ks c m few l h.1)
]

pub keeps_by : (n : ℕ) (o : Option (List ℕ)) (ks ls : List Channel) → ReservesBy o ks ls n → KeepsSeats n ks ls
keeps_by n None ks ls r = keeps_same n ks ls r
keeps_by n (Some c) ks ls r = λ ds few h. subst (HaveSeats ds) (sym r.reserved)
    (seats_with n ds ks c r.held few r.room h)

-- ---- each deed that changes a channel has a folded name

one_at_most : (b : Bool) → cond b 1 0 ≤ 1
one_at_most true = omega arith
one_at_most false = omega arith

keyed_once : (c : List ℕ) (d : Deed) → cond (is_change c d) 1 0 ≤ length (keyed_name d)
keyed_once c (Changed k x) = one_at_most (is_same k c)
keyed_once c _ = omega arith

changes_named : (c : List ℕ) (ds : List Deed) → changes c ds ≤ length (flat_map keyed_name ds)
changes_named c [] = omega arith
changes_named c (d ∷ ds) =
    let e = changes-cons c d ds in let first = keyed_once c d in let rest = changes_named c ds in
    let both = length-append (keyed_name d) (flat_map keyed_name ds) in omega arith

begin_longer : (cs ks : List (List ℕ)) → BeginWith cs ks → length cs ≤ length ks
begin_longer [] ks b = omega arith
begin_longer (c ∷ cs) [] b = absurd b
begin_longer (c ∷ cs) (k ∷ ks) b = let rest = begin_longer cs ks b.1 in omega arith

pub changes_keyed : (c : List ℕ) (ds : List Deed) (folds : List (List ℕ)) → BeginWith (flat_map keyed_name ds) folds
    → changes c ds ≤ length folds
changes_keyed c ds folds b =
    let a = changes_named c ds in let l = begin_longer (flat_map keyed_name ds) folds b in omega arith
