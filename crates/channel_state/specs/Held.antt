-- What clauses see of a channel that is kept, and of its lists: with room for more, which then takes no memory.
use Rattle.std.specs.Prelude.{◌≡◌, ℕ, ◌≤◌, ◌<◌, Bool, false, nat_eq, List, [], ◌∷◌, length, is_some, ⊤}
use Rattle.std.specs.Map.{lookup}
use Rattle.channel_state.specs.State.{State, among}

-- sessions, and how many more there is room for
pub record Seats : Type 0 where
  pub list : List ℕ
  pub room : ℕ

-- masks, and how many more there is room for
pub record Rows : Type 0 where
  pub list : List (List ℕ)
  pub room : ℕ

-- a channel, and how many more changes there is room for
pub record ChannelView : Type 0 where
  pub state : State
  pub room : ℕ

-- each list has room for n more
pub record HaveRoom (ms os vs is ps : Seats) (bs : Rows) (n : ℕ) : Type 0 where
  pub members : n ≤ ms.room
  pub operators : n ≤ os.room
  pub voices : n ≤ vs.room
  pub invited : n ≤ is.room
  pub pardoned : n ≤ ps.room
  pub bans : n ≤ bs.room

-- each session is there once
abbrev pub AreOnce : List ℕ → Type 0
AreOnce [] = ⊤
AreOnce (t ∷ ts) = (among t ts ≡ false) × AreOnce ts

-- whether a session has come, by the turns in which sessions came
abbrev pub has_come : List (ℕ × ℕ) → ℕ → Bool
has_come es t = is_some (lookup (nat_eq t) es)

-- sessions that are there once each, and the turns in which they came: of all of them, or of none
pub record AreKept (ts : List ℕ) (es : List (ℕ × ℕ)) : Type 0 where
  pub once : AreOnce ts
  pub turns : 0 < length es → (t : ℕ) → has_come es t ≡ among t ts
