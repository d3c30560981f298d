-- What the tables of sessions and channels hold: words of the private contracts.
use Rattle.std.specs.Prelude.{◌≡◌, ℕ, zero, suc, ◌+◌, ◌≤◌, ◌<◌, Bool, true, false, not, ◌&&◌}
use Rattle.std.specs.Prelude.{cond, nat_eq, nat_le, List, [], ◌∷◌, ◌++◌, slice_index_or}
use Rattle.std.specs.Prelude.{slice_get, filter, Option, Some, None, ◌==◌, unwrap_or}
use Rattle.std.specs.Option.{option_map_or, option_map}
use Rattle.std.specs.List.{find, list_any}
use Rattle.std.specs.Map.{lookup}
use Rattle.std.specs.Str.{bytes_eq}
use Rattle.chronicle.specs.declared.why.Why.{Why}
use Rattle.chronicle.specs.declared.why.Why.TheVariants.{SendQ}
use Rattle.registration.specs.Caps.{none_on}
use Rattle.registration.specs.Enrol.{Enrolment}
use Rattle.roster.specs.declared.deed.Deed.{Deed}
use Rattle.roster.specs.declared.deed.Deed.TheVariants.{Opened, NickSet, UserSet, HoldSet, CapsSet}
use Rattle.roster.specs.declared.deed.Deed.TheVariants.{ExchangeSet, LoggedIn, Enrolled, AwaySet}
use Rattle.roster.specs.declared.deed.Deed.TheVariants.{InvisibleSet, ChannelMade, Changed, Ended, Gone}
use Rattle.roster.specs.declared.tables.Person.{Person}
use Rattle.roster.specs.declared.tables.Card.{Card}
use Rattle.roster.specs.declared.tables.Channel.{Channel}
use Rattle.casemapping.specs.Fold.{name_fold, is_same}
use Rattle.channel_state.specs.State.{State, among, is_some_one, nothing, made_by, with_change, after_gone}
use Rattle.channel_state.specs.Held.{ChannelView}
use Rattle.channel_state.specs.declared.change.Change.{Change}
use Rattle.roster.specs.LookBack.{numbers}

-- ---- sessions

abbrev pub nobody : Person
nobody = record {
  host = [];
  nick = None;
  user = None;
  real = None;
  held = false;
  caps = none_on;
  exchange = None;
  account = None;
  registered = false;
  away = None;
  invisible = false;
  parting = [];
}

-- what is known of a person while it registers
abbrev pub enrolment_in : Person → Enrolment
enrolment_in p = record {
  nick = p.nick;
  user = p.user;
  hold = p.held;
  caps = p.caps;
  exchange = p.exchange;
  account = p.account;
  registered = p.registered;
}

-- the session of which a deed tells what is known of it
abbrev pub subject : Deed → Option ℕ
subject (Opened t h) = Some t
subject (NickSet t n) = Some t
subject (UserSet t u r) = Some t
subject (HoldSet t on) = Some t
subject (CapsSet t caps) = Some t
subject (ExchangeSet t x) = Some t
subject (LoggedIn t a) = Some t
subject (Enrolled t) = Some t
subject (AwaySet t x) = Some t
subject (InvisibleSet t is) = Some t
subject (ChannelMade t k) = None
subject (Changed k x) = None
subject (Ended t w x) = Some t
subject (Gone t) = Some t

-- whether that is s
abbrev pub is_about : ℕ → Deed → Bool
is_about s d = option_map_or (λ t. t == s) (subject d) false

-- whether a deed tells of one session alone, and not of nicknames
abbrev pub is_plain : Deed → Bool
is_plain (NickSet t n) = false
is_plain (ChannelMade t k) = false
is_plain (Changed k x) = false
is_plain (Gone t) = false
is_plain d = true

-- whether it tells of no channel
abbrev pub is_tame : Deed → Bool
is_tame (ChannelMade t k) = false
is_tame (Changed k x) = false
is_tame (Gone t) = false
is_tame d = true

-- what is known of a session after a deed of it
abbrev pub after_deed : Deed → Person → Person
after_deed (Opened t h) p = record nobody { host = h }
after_deed (NickSet t n) p = record p { nick = Some n }
after_deed (UserSet t u r) p = record p { user = Some u; real = Some r }
after_deed (HoldSet t on) p = record p { held = on }
after_deed (CapsSet t caps) p = record p { caps = caps }
after_deed (ExchangeSet t x) p = record p { exchange = x }
after_deed (LoggedIn t a) p = record p { account = Some a }
after_deed (Enrolled t) p = record p { registered = true }
after_deed (AwaySet t x) p = record p { away = x }
after_deed (InvisibleSet t is) p = record p { invisible = is }
after_deed (ChannelMade t k) p = p
after_deed (Changed k x) p = p
after_deed (Ended t w x) p = record p { parting = x }
after_deed (Gone t) p = nobody

abbrev pub blank : Card
blank = record { person = nobody; names = record { list = []; notes = []; room = 0 } }

-- the card of session s
abbrev pub card_in : List (ℕ × Card) → ℕ → Option Card
card_in es s = lookup (nat_eq s) es

-- who has none is as one with a blank card
abbrev pub card_at : List (ℕ × Card) → ℕ → Card
card_at es s = unwrap_or (card_in es s) blank

-- the person of session s
abbrev pub person_at : List (ℕ × Card) → ℕ → Person
person_at es s = (card_at es s).person

-- why session s ended
abbrev pub why_at : List Why → ℕ → Why
why_at ws zero = SendQ
why_at ws (suc i) = slice_index_or ws i SendQ

abbrev pub is_opening : Deed → Bool
is_opening (Opened t h) = true
is_opening d = false

-- a deed that tells why a session ended is one of the first n sessions, or opens the next
abbrev pub IsOf : ℕ → Deed → Type 0
IsOf n (Opened t h) = t ≡ suc n
IsOf n (Ended t w x) = (0 < t) × (t ≤ n)
IsOf n (Gone t) = (0 < t) × (t ≤ n)
IsOf n d = Unit {0}

-- the session that holds a folded nickname
abbrev pub held_by : List (List ℕ × ℕ) → List ℕ → Option ℕ
held_by hs k = lookup (bytes_eq k) hs

abbrev pub is_freed : Option (List ℕ) → List ℕ → Bool
is_freed None k = false
is_freed (Some n) k = bytes_eq (name_fold n) k

-- nobody holds a nickname any more, if one is given
abbrev pub Frees : List (List ℕ × ℕ) → List (List ℕ × ℕ) → Option (List ℕ) → Type 0
Frees old new n = (k : List ℕ) → held_by new k ≡ cond (is_freed n k) None (held_by old k)

-- ---- channels

-- each stands under its folded name
abbrev pub AreKeyed : List (List ℕ × Channel) → Type 0
AreKeyed [] = Unit {0}
AreKeyed (e ∷ es) = (e.0 ≡ name_fold e.1.name) × AreKeyed es

-- the channel of a name
abbrev pub channel_of : List Channel → List ℕ → Option Channel
channel_of ks c = find (λ k. is_same k.name c) ks

abbrev pub state_in : List Channel → List ℕ → State
state_in ks c = option_map_or (λ k. k.held.state) (channel_of ks c) nothing

abbrev pub name_in : List Channel → List ℕ → Option (List ℕ)
name_in ks c = option_map (λ k. k.name) (channel_of ks c)

abbrev pub names_of : List Channel → List (List ℕ)
names_of [] = []
names_of (k ∷ ks) = k.name ∷ names_of ks

-- those on the channel of a name
abbrev pub members_in : List Channel → List ℕ → List ℕ
members_in ks c = (state_in ks c).members

-- whether t is one of the first n sessions, and not s
abbrev pub is_mate : ℕ → ℕ → ℕ → Bool
is_mate s n t = (nat_le 1 t && nat_le t n) && not (t == s)

abbrev pub mates_in : ℕ → ℕ → List ℕ → List ℕ
mates_in s n ts = filter (is_mate s n) ts

-- those of the first n sessions that are on one of these channels, but for s
abbrev pub mates : List Channel → List (List ℕ) → ℕ → ℕ → List ℕ
mates ks cs s n = filter (λ t. list_any (λ c. among t (members_in ks c)) cs && not (s == t)) (numbers 1 n)

-- the channel of a name is held otherwise
abbrev pub with_held : List Channel → List ℕ → ChannelView → List Channel
with_held [] c h = []
with_held (k ∷ ks) c h = cond (is_same k.name c) (record { name = k.name; held = h } ∷ ks) (k ∷ with_held ks c h)

-- where there is no such channel, any number would do
abbrev pub room_in : List Channel → List ℕ → ℕ
room_in ks c = option_map_or (λ k. k.held.room) (channel_of ks c) 1

-- the channel of a name becomes this, with room for so many less changes at most
pub record Reholds (old new : List Channel) (c : List ℕ) (st : State) (less : ℕ) : Type 0 where
  pub held : ChannelView
  pub changed : new ≡ with_held old c held
  pub state : held.state ≡ st
  pub room : room_in old c ≤ held.room + less

-- a channel more, at the end, with room for n changes
pub record Makes (old new : List Channel) (c : List ℕ) (s n : ℕ) : Type 0 where
  pub held : ChannelView
  pub added : new ≡ old ++ record { name = c; held = held } ∷ []
  pub state : held.state ≡ made_by s
  pub room : n ≤ held.room

abbrev pub is_populated : Channel → Bool
is_populated k = is_some_one k.held.state.members

-- channels that have no member left end
abbrev pub with_someone : List Channel → List Channel
with_someone ks = filter is_populated ks

-- the channel of a name changes, and ends where no member is left
pub record Changes (old new : List Channel) (c : List ℕ) (x : Change) : Type 0 where
  pub between : List Channel
  pub reholds : Reholds old between c (with_change x (state_in old c)) 1
  pub ended : new ≡ with_someone between

-- whether a name is among these, however it is spelled
abbrev pub holds_name : List ℕ → List (List ℕ) → Bool
holds_name c cs = list_any (λ k. is_same k c) cs

-- a channel of a name is at a place, or at none
abbrev pub IsPlace : List Channel → List ℕ → Option ℕ → Type 0
IsPlace ks c None = channel_of ks c ≡ None
IsPlace ks c (Some i) = (k : Channel) × (slice_get ks i ≡ Some k) × (channel_of ks c ≡ Some k)

-- a session leaves the channel of a name, which ends where no member is left
pub record Departs (old new : List Channel) (c : List ℕ) (t : ℕ) : Type 0 where
  pub between : List Channel
  pub reholds : Reholds old between c (after_gone t (state_in old c)) 0
  pub ended : new ≡ with_someone between
