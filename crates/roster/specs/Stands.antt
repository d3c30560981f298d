-- How tables stand for a list of facts, and are ready for deeds.
use Rattle.std.specs.Prelude.{◌≡◌, ℕ, ◌≤◌, Bool, true, false, cond, List, [], ◌∷◌}
use Rattle.std.specs.Prelude.{filter, length, count_by, Option, Some, None}
use Rattle.std.specs.List.{list_any, flat_map}
use Rattle.chronicle.specs.declared.why.Why.{Why}
use Rattle.roster.specs.declared.deed.Deed.{Deed}
use Rattle.roster.specs.declared.deed.Deed.TheVariants.{Changed, ChannelMade}
use Rattle.roster.specs.declared.tables.Person.{Person}
use Rattle.roster.specs.declared.tables.Card.{Card}
use Rattle.roster.specs.declared.tables.Channel.{Channel}
use Rattle.casemapping.specs.Fold.{name_fold, is_same}
use Rattle.channel_state.specs.State.{nothing, is_some_one, after_gone, or_nothing}
use Rattle.channel_state.specs.Held.{ChannelView}
use Rattle.roster.specs.LookBack.{numbers, opened_in, host, nick, user, real, is_on_hold, caps, exchange, account}
use Rattle.roster.specs.LookBack.{registered}
use Rattle.roster.specs.LookBack.{away, invisible, why, parting_text, is_named, state, name_of, channels}
use Rattle.roster.specs.Legal.{IsOpened, AreNext, AreLegal}
use Rattle.roster.specs.Table.{Table}
use Rattle.roster.specs.Tables.{person_at, why_at, held_by, state_in, name_in}
use Rattle.roster.specs.Tables.{names_of, with_held, is_populated, holds_name}
use Rattle.roster.specs.Lists.{keyed_name, BeginWith}

-- what facts say of a session
abbrev pub person : List Deed → ℕ → Person
person fs s = record {
  host = host fs s;
  nick = nick fs s;
  user = user fs s;
  real = real fs s;
  held = is_on_hold fs s;
  caps = caps fs s;
  exchange = exchange fs s;
  account = account fs s;
  registered = registered fs s;
  away = away fs s;
  invisible = invisible fs s;
  parting = parting_text fs s;
}

-- no two channels have one name
abbrev pub AreApart : List Channel → Type 0
AreApart [] = Unit {0}
AreApart (k ∷ ks) = (list_any (λ l. is_same k.name l.name) ks ≡ false) × AreApart ks

-- each channel has a member
abbrev pub AreHeld : List Channel → Type 0
AreHeld [] = Unit {0}
AreHeld (k ∷ ks) = (is_populated k ≡ true) × AreHeld ks

-- each but the channel of a name has one, and that has none
abbrev pub AreHeldBut : List ℕ → List Channel → Type 0
AreHeldBut c [] = Unit {0}
AreHeldBut c (k ∷ ks) = (is_same k.name c ≡ true → (is_populated k ≡ false) × AreHeld ks)
    × (is_same k.name c ≡ false → (is_populated k ≡ true) × AreHeldBut c ks)

-- the index of nicknames: whoever has one is found by it, and nobody else
pub record AreHolders (hs : List (List ℕ × ℕ)) (fs : List Deed) : Type 0 where
  pub found : (s : ℕ) (n : List ℕ) → is_named (nick fs s) n ≡ true → held_by hs (name_fold n) ≡ Some s
  pub named : (s : ℕ) (n : List ℕ) → held_by hs (name_fold n) ≡ Some s → is_named (nick fs s) n ≡ true
  -- who has a nickname was opened
  pub opened : (s : ℕ) (n : List ℕ) → is_named (nick fs s) n ≡ true → IsOpened fs s

-- the tables of sessions stand for facts
pub record HoldPeople (es : List (ℕ × Card)) (ws : List Why) (hs : List (List ℕ × ℕ)) (fs : List Deed) : Type 0 where
  pub people : (s : ℕ) → person_at es s ≡ person fs s
  pub whys : (s : ℕ) → why_at ws s ≡ why fs s
  pub opened : opened_in fs ≡ numbers 1 (length ws)
  pub holders : AreHolders hs fs

-- the table of channels stands for facts
pub record HoldChannels (ks : List Channel) (fs : List Deed) : Type 0 where
  pub states : (c : List ℕ) → state_in ks c ≡ state fs c
  pub names : (c : List ℕ) → name_in ks c ≡ name_of fs c
  pub channels : channels fs ≡ names_of ks
  pub apart : AreApart ks
  pub held : AreHeld ks

-- ---- room

-- whether a deed changes a channel
abbrev pub is_change : List ℕ → Deed → Bool
is_change c (Changed k x) = is_same k c
is_change c d = false

-- how many deeds do
abbrev pub changes : List ℕ → List Deed → ℕ
changes c ds = count_by (is_change c) ds

-- each channel has room for its changes
abbrev pub HaveSeats : List Deed → List Channel → Type 0
HaveSeats ds [] = Unit {0}
HaveSeats ds (k ∷ ks) = (changes k.name ds ≤ k.held.room) × HaveSeats ds ks

-- a session leaves the channels of names, and those end where no member is left
pub record LeavesThose (old new : List Channel) (cs : List (List ℕ)) (t : ℕ) : Type 0 where
  pub states : (c : List ℕ) → state_in new c ≡ cond (holds_name c cs) (or_nothing (after_gone t (state_in old c)))
      (state_in old c)
  pub names : (c : List ℕ) → name_in new c ≡ cond (is_some_one (state_in new c).members) (name_in old c) None
  pub channels : names_of new ≡ filter (λ c. is_some_one (state_in new c).members) (names_of old)
  pub apart : AreApart new
  pub held : AreHeld new
  pub seats : (ds : List Deed) → HaveSeats ds old → HaveSeats ds new

-- channels keep their room for deeds of which each channel has at most n
abbrev pub KeepsSeats : ℕ → List Channel → List Channel → Type 0
KeepsSeats n old new = (ds : List Deed) → ((c : List ℕ) → changes c ds ≤ n) → HaveSeats ds old → HaveSeats ds new

-- what channels that will be made are kept in
abbrev pub AreSpare : ℕ → List ChannelView → Type 0
AreSpare n [] = Unit {0}
AreSpare n (h ∷ hs) = (h.state ≡ nothing) × (n ≤ h.room) × AreSpare n hs

-- the same channels
abbrev pub Alike : List Channel → List Channel → Type 0
Alike [] [] = Unit {0}
Alike (k ∷ ks) (l ∷ ls) = (l.name ≡ k.name) × (l.held.state ≡ k.held.state) × Alike ks ls
Alike [] (l ∷ ls) = ⊥
Alike (k ∷ ks) [] = ⊥

-- the channel of a name has room for n changes
pub record Reserves (old new : List Channel) (c : List ℕ) (n : ℕ) : Type 0 where
  pub held : ChannelView
  pub reserved : new ≡ with_held old c held
  pub room : n ≤ held.room

-- the name of the channel that a deed changes
abbrev pub changed_name : Deed → Option (List ℕ)
changed_name (Changed k x) = Some k
changed_name d = None

-- the channel of the name does, if one is given
abbrev pub ReservesBy : Option (List ℕ) → List Channel → List Channel → ℕ → Type 0
ReservesBy None old new n = new ≡ old
ReservesBy (Some c) old new n = Reserves old new c n

abbrev pub is_making : Deed → Bool
is_making (ChannelMade t k) = true
is_making d = false

-- there is room for these deeds, and their names stand ready
pub record HasRoom (es : Table (ℕ × Card)) (ws : Table Why) (hs : Table (List ℕ × ℕ)) (ks : Table Channel)
    (spare : List ChannelView) (folds : List (List ℕ)) (ds : List Deed) : Type 0 where
  pub people : length ds ≤ es.room
  pub whys : length ds ≤ ws.room
  pub nicks : length ds ≤ hs.room
  pub channels : length ds ≤ ks.room
  pub seats : HaveSeats ds ks.list
  pub enough : count_by is_making ds ≤ length spare
  pub empty : AreSpare (length ds) spare
  pub keys : BeginWith (flat_map keyed_name ds) folds

-- what holds of every roster
pub record IsKept (es : Table (ℕ × Card)) (ws : Table Why) (hs : Table (List ℕ × ℕ)) (ks : Table Channel)
    (spare : List ChannelView) (folds : List (List ℕ)) (fs ds : List Deed) : Type 0 where
  pub people : HoldPeople es.list ws.list hs.list fs
  pub channels : HoldChannels ks.list fs
  pub legal : AreLegal fs
  pub next : AreNext fs ds
  pub room : HasRoom es ws hs ks spare folds ds
