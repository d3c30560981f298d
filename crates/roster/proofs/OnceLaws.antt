-- Members, sharers and a session's channels are there once each.
use Rattle.std.proofs.lemmas.Bool.Decides.{eqb_tells}
use Rattle.std.proofs.Common.{◌≡◌, inl, inr, ℕ, suc, ◌+◌, ◌<◌, ◌≤◌, Bool, true, false, not, ◌&&◌}
use Rattle.std.proofs.Common.{◌==◌, cond, List, [], ◌∷◌, ◌++◌, filter, length, arith, refl, sym}
use Rattle.std.proofs.Common.{ap, ◌∙◌, ne_eqb, eq-eqb, length-append, subst}
use Rattle.std.specs.List.{IsDistinct, AllByRecursion}
use Rattle.casemapping.specs.Fold.{is_same}
use Rattle.channel_state.specs.declared.change.Change.{Change}
use Rattle.channel_state.specs.declared.change.Change.TheVariants.{Joined, Left, RankSet}
use Rattle.channel_state.specs.declared.change.Rank.TheVariants.{Operator, Voice}
use Rattle.channel_state.specs.State.{State, among, made_by, with_change, after_gone, or_nothing}
use Rattle.roster.specs.declared.deed.Deed.{Deed}
use Rattle.roster.specs.declared.deed.Deed.TheVariants.{Opened}
use Rattle.roster.specs.declared.deed.Deed.TheVariants.{ChannelMade, Changed, Gone}
use Rattle.roster.specs.LookBack.{opened_in, on, state, members, is_join, joins, with_last_name, share}
use Rattle.roster.specs.Legal.{AreLegal}
use Rattle.roster.specs.Laws.{MembersAreThereOnce, SharersAreThereOnce, OwnChannelsAreThereOnce}
use Rattle.roster.proofs.Bools.{either}
use Rattle.roster.proofs.OnChannels.{members-lasting}

-- ---- what is taken out of a list leaves the others apart

module _ {A : Type 0} (e : A → A → Bool) where
  all-filter : (p : A → Bool) (x : A) (xs : List A) → AllByRecursion (λ y. e x y ≡ false) xs
      → AllByRecursion (λ y. e x y ≡ false) (filter p xs)
  all-filter p x [] a = a
  all-filter p x (y ∷ ys) a = elim (p y) as
      (λ b. AllByRecursion (λ z. e x z ≡ false) (cond b (y ∷ filter p ys) (filter p ys))) [
        | true ↦ (a.0, all-filter p x ys a.1)
        | false ↦ all-filter p x ys a.1
      ]

  pub distinct-filter : (p : A → Bool) (xs : List A) → IsDistinct e xs → IsDistinct e (filter p xs)
  unfolding IsDistinct
  distinct-filter p [] d = d
  distinct-filter p (x ∷ xs) d = elim (p x) as (λ b. IsDistinct e (cond b (x ∷ filter p xs) (filter p xs))) [
    | true ↦ (all-filter p x xs d.0, distinct-filter p xs d.1)
    | false ↦ distinct-filter p xs d.1
  ]

  all-push : (x z : A) (xs : List A) → AllByRecursion (λ y. e x y ≡ false) xs → e x z ≡ false
      → AllByRecursion (λ y. e x y ≡ false) (xs ++ z ∷ [])
  all-push x z [] a f = (f, tt)
  all-push x z (y ∷ ys) a f = (a.0, all-push x z ys a.1 f)

  pub distinct-push : (z : A) (xs : List A) → IsDistinct e xs → AllByRecursion (λ y. e y z ≡ false) xs
      → IsDistinct e (xs ++ z ∷ [])
  unfolding IsDistinct
  distinct-push z [] d a = (tt, d)
  distinct-push z (x ∷ xs) d a = (all-push x z xs d.0 a.0, distinct-push z xs d.1 a.1)

  pub distinct-one : (x : A) → IsDistinct e (x ∷ [])
  unfolding IsDistinct
  distinct-one x = (tt, tt)

  pub distinct-none : IsDistinct e []
  unfolding IsDistinct
  distinct-none = tt

  -- what isn't z is kept apart from it
  apart : (z : A) (xs : List A) → AllByRecursion (λ y. e y z ≡ false) (filter (λ y. not (e y z)) xs)
  apart z [] = tt
  apart z (x ∷ xs) = elim (either (e x z)) [
    | inl same ↦ rw same (apart z xs)
    | inr other ↦ rw other (other, apart z xs)
  ]

  distinct-last : (z : A) (xs : List A) → IsDistinct e xs → IsDistinct e (filter (λ y. not (e y z)) xs ++ z ∷ [])
  distinct-last z xs d = distinct-push z (filter (λ y. not (e y z)) xs) (distinct-filter (λ y. not (e y z)) xs d)
      (apart z xs)

  distinct-by : (b : Bool) (xs ys : List A) → IsDistinct e xs → IsDistinct e ys → IsDistinct e (cond b xs ys)
  distinct-by true xs ys d f = d
  distinct-by false xs ys d f = f

-- ---- members

abbrev pub eq : ℕ → ℕ → Bool
eq s t = s == t

pub once_changed : (x : Change) (k : State) → IsDistinct eq k.members → IsDistinct eq (with_change x k).members
once_changed (Joined t) k d = distinct-last eq t k.members d
once_changed (Left t) k d = distinct-filter eq (λ y. not (y == t)) k.members d
once_changed (RankSet t Operator on) k d = d
once_changed (RankSet t Voice on) k d = d
once_changed _ k d = d

once_lasting : (k : State) → IsDistinct eq k.members → IsDistinct eq (or_nothing k).members
once_lasting k d = subst (IsDistinct eq) (sym (members-lasting k)) d

once_by : (b : Bool) (k l : State) → IsDistinct eq k.members → IsDistinct eq l.members
    → IsDistinct eq (cond b k l).members
once_by true k l d f = d
once_by false k l d f = f

pub members_once : MembersAreThereOnce
members_once [] c = distinct-none eq
members_once (ChannelMade t k ∷ fs) c = once_by (is_same k c) (made_by t) (state fs c) (distinct-one eq t)
    (members_once fs c)
members_once (Changed k x ∷ fs) c = once_by (is_same k c) (or_nothing (with_change x (state fs c))) (state fs c)
    (once_lasting (with_change x (state fs c)) (once_changed x (state fs c) (members_once fs c))) (members_once fs c)
members_once (Gone t ∷ fs) c = once_lasting (after_gone t (state fs c))
    (distinct-filter eq (λ y. not (y == t)) (members fs c) (members_once fs c))
members_once (_ ∷ fs) c = members_once fs c

-- ---- a session's channels

pub joins_once : (fs : List Deed) (s : ℕ) → IsDistinct is_same (joins fs s)
joins_once [] s = distinct-none is_same
joins_once (ChannelMade t k ∷ fs) s = distinct-by is_same (t == s) (with_last_name k (joins fs s)) (joins fs s)
    (distinct-last is_same k (joins fs s) (joins_once fs s)) (joins_once fs s)
joins_once (Changed k x ∷ fs) s = distinct-by is_same (is_join s x) (with_last_name k (joins fs s)) (joins fs s)
    (distinct-last is_same k (joins fs s) (joins_once fs s)) (joins_once fs s)
joins_once (_ ∷ fs) s = joins_once fs s

pub own_once : OwnChannelsAreThereOnce
own_once fs s = distinct-filter is_same (on fs s) (joins fs s) (joins_once fs s)

-- ---- sharers

-- the sessions that were opened are below their number
below-more : (n m : ℕ) (xs : List ℕ) → n ≤ m → AllByRecursion (λ y. y ≤ n) xs → AllByRecursion (λ y. y ≤ m) xs
below-more n m [] l a = tt
below-more n m (x ∷ xs) l a = ((let h = a.0 in omega arith), below-more n m xs l a.1)

below-push : (n : ℕ) (xs : List ℕ) (z : ℕ) → AllByRecursion (λ y. y ≤ n) xs → z ≤ n
    → AllByRecursion (λ y. y ≤ n) (xs ++ z ∷ [])
below-push n [] z a l = (l, tt)
below-push n (x ∷ xs) z a l = (a.0, below-push n xs z a.1 l)

below-apart : (n z : ℕ) (xs : List ℕ) → n < z → AllByRecursion (λ y. y ≤ n) xs
    → AllByRecursion (λ y. eq y z ≡ false) xs
below-apart n z [] l a = tt
below-apart n z (x ∷ xs) l a = (ne_eqb x z (let h = a.0 in omega arith), below-apart n z xs l a.1)

opened_below : (fs : List Deed) → AreLegal fs → AllByRecursion (λ y. y ≤ length (opened_in fs)) (opened_in fs)
opened_below [] l = tt
opened_below (Opened t h ∷ fs) l =
    let n = length (opened_in fs) in
    let more : length (opened_in fs ++ t ∷ []) ≡ n + 1 = length-append (opened_in fs) (t ∷ []) in let is : t
    ≡ suc n = l.0 in
    below-push (length (opened_in fs ++ t ∷ [])) (opened_in fs) t
    (below-more n (length (opened_in fs ++ t ∷ [])) (opened_in fs) (omega arith) (opened_below fs l.1)) (omega arith)
opened_below (_ ∷ fs) l = opened_below fs l.1

opened_once : (fs : List Deed) → AreLegal fs → IsDistinct eq (opened_in fs)
opened_once [] l = distinct-none eq
opened_once (Opened t h ∷ fs) l =
    let is : t ≡ suc (length (opened_in fs)) = l.0 in
    distinct-push eq t (opened_in fs) (opened_once fs l.1)
    (below-apart (length (opened_in fs)) t (opened_in fs) (omega arith) (opened_below fs l.1))
opened_once (_ ∷ fs) l = opened_once fs l.1

-- whoever fails the test isn't among those who pass it
not_among : (p : ℕ → Bool) (s : ℕ) → p s ≡ false → (xs : List ℕ) → among s (filter p xs) ≡ false
not_among p s fails [] = refl
not_among p s fails (x ∷ xs) = elim (eqb_tells x s) [
  | inl same ↦ rw (ap p same.1 ∙ fails) (not_among p s fails xs)
  | inr other ↦ elim (either (p x)) [
    | inl in_it ↦ rw in_it (rw other.0 (not_among p s fails xs))
    | inr out ↦ rw out (not_among p s fails xs)
  ]
]

pub not_self : (b : Bool) (s : ℕ) → (b && not (s == s)) ≡ false
not_self true s = ap not (eq-eqb s s refl)
not_self false s = refl

pub sharers_once : SharersAreThereOnce
sharers_once fs s l = (
  distinct-filter eq (λ t. share fs s t && not (s == t)) (opened_in fs) (opened_once fs l),
  not_among (λ t. share fs s t && not (s == t)) s (not_self (share fs s s) s) (opened_in fs),
)
