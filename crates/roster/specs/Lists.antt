-- The lists of the channels of sessions: words of the private contracts.
use Rattle.std.specs.Prelude.{◌≡◌, ℕ, ◌+◌, ◌≤◌, Bool, true, false, ◌==◌, cond, List, [], ◌∷◌, count_by}
use Rattle.std.specs.List.{flat_map}
use Rattle.channel_state.specs.declared.change.Change.{Change}
use Rattle.channel_state.specs.declared.change.Change.TheVariants as change
use Rattle.roster.specs.declared.deed.Deed.{Deed}
use Rattle.roster.specs.declared.deed.Deed.TheVariants.{NickSet, ChannelMade, Changed, Gone}
use Rattle.roster.specs.declared.channel_lists.ListChange.{ListChange}
use Rattle.roster.specs.declared.channel_lists.ListChange.TheVariants.{Taken, Left, Noted, Same}
use Rattle.casemapping.specs.Fold.{name_fold}
use Rattle.roster.specs.declared.tables.Card.{Card}
use Rattle.roster.specs.declared.tables.Channel.{Channel}
use Rattle.channel_state.specs.State.{among}
use Rattle.roster.specs.Row.{ChannelList}
use Rattle.roster.specs.Tables.{card_at, state_in, holds_name}
use Rattle.roster.specs.LookBack.{with_last_name, without_name, channels_on, state}

-- the names on a session's card
abbrev pub row_of : List (ℕ × Card) → ℕ → ChannelList
row_of es s = (card_at es s).names

-- what a change says of seats
abbrev pub seat_of : Change → ListChange
seat_of (change.Joined t) = Taken t
seat_of (change.Left t) = Left t
seat_of (change.Invited t by_operator) = Noted t
seat_of x = Same

-- whether a name is added to a list of s
abbrev pub is_taken : ℕ → ListChange → Bool
is_taken s (Taken t) = t == s
is_taken s (Noted t) = t == s
is_taken s x = false

-- the channels of s after a seat is taken or left
abbrev pub seat_list : ℕ → List ℕ → ListChange → List (List ℕ) → List (List ℕ)
seat_list s c (Taken t) cs = cond (t == s) (with_last_name c cs) cs
seat_list s c (Left t) cs = cond (t == s) (without_name c cs) cs
seat_list s c (Noted t) cs = cs
seat_list s c Same cs = cs

-- the channels that may list s among the invited, after a seat is taken or left
abbrev pub seat_notes : ℕ → List ℕ → ListChange → List (List ℕ) → List (List ℕ)
seat_notes s c (Noted t) ns = cond (t == s) (with_last_name c ns) ns
seat_notes s c x ns = ns

-- the channels of s after a deed
abbrev pub deed_list : ℕ → Deed → List (List ℕ) → List (List ℕ)
deed_list s (ChannelMade t k) cs = cond (t == s) (with_last_name k cs) cs
deed_list s (Changed k x) cs = seat_list s k (seat_of x) cs
deed_list s (Gone t) cs = cond (t == s) [] cs
deed_list s d cs = cs

-- the channels that may list s among the invited, after a deed
abbrev pub deed_notes : ℕ → Deed → List (List ℕ) → List (List ℕ)
deed_notes s (Changed k x) ns = seat_notes s k (seat_of x) ns
deed_notes s (Gone t) ns = cond (t == s) [] ns
deed_notes s d ns = ns

-- whether s joins a channel by a deed, or is invited
abbrev pub is_joining : ℕ → Deed → Bool
is_joining s (ChannelMade t k) = t == s
is_joining s (Changed k x) = is_taken s (seat_of x)
is_joining s d = false

-- by how many deeds s joins a channel, or is invited
abbrev pub joinings : ℕ → List Deed → ℕ
joinings s ds = count_by (is_joining s) ds

-- the name of the channel that a deed makes
abbrev pub made_name : Deed → List (List ℕ)
made_name (ChannelMade t k) = k ∷ []
made_name d = []

-- the folded name that a deed gives of a channel or of a nickname
abbrev pub keyed_name : Deed → List (List ℕ)
keyed_name (NickSet t n) = name_fold n ∷ []
keyed_name (ChannelMade t k) = name_fold k ∷ []
keyed_name (Changed k x) = name_fold k ∷ []
keyed_name d = []

-- each list becomes another; those of whom that is told have room for one less at most
pub record Relists (old new : List (ℕ × Card)) (list note : ℕ → List (List ℕ) → List (List ℕ))
    (joins : ℕ → Bool) : Type 0 where
  pub lists : (s : ℕ) → (row_of new s).list ≡ list s (row_of old s).list
  pub notes : (s : ℕ) → (row_of new s).notes ≡ note s (row_of old s).notes
  pub rooms : (s : ℕ) → (row_of old s).room ≤ (row_of new s).room + cond (joins s) 1 0

-- the lists stay, and have room for as many at least
pub record Widens (old new : List (ℕ × Card)) : Type 0 where
  pub lists : (s : ℕ) → (row_of new s).list ≡ (row_of old s).list
  pub notes : (s : ℕ) → (row_of new s).notes ≡ (row_of old s).notes
  pub rooms : (s : ℕ) → (row_of old s).room ≤ (row_of new s).room

-- the same, where notes of channels that don't invite a session may be gone
pub record Refits (ks : List Channel) (old new : List (ℕ × Card)) : Type 0 where
  pub lists : (s : ℕ) → (row_of new s).list ≡ (row_of old s).list
  pub notes : (s : ℕ) (c : List ℕ) → among s (state_in ks c).invited ≡ true → holds_name c (row_of old s).notes
      ≡ true → holds_name c (row_of new s).notes ≡ true
  pub rooms : (s : ℕ) → (row_of old s).room ≤ (row_of new s).room

-- names begin with these
abbrev pub BeginWith : List (List ℕ) → List (List ℕ) → Type 0
BeginWith [] ks = Unit {0}
BeginWith (c ∷ cs) [] = ⊥
BeginWith (c ∷ cs) (k ∷ ks) = (k ≡ c) × BeginWith cs ks

-- each session's list stands for facts, with room and copies of names for deeds
pub record AreListed (rs : List (ℕ × Card)) (ns : List (List ℕ)) (fs ds : List Deed) : Type 0 where
  pub lists : (s : ℕ) → (row_of rs s).list ≡ channels_on fs s
  -- each channel that invites it is noted
  pub noted : (s : ℕ) (c : List ℕ) → among s (state fs c).invited ≡ true → holds_name c (row_of rs s).notes ≡ true
  pub room : (s : ℕ) → joinings s ds ≤ (row_of rs s).room
  pub copies : BeginWith (flat_map made_name ds) ns
