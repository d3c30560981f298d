-- A channel as a row sees it: RFC 2811, section 2.
use Rattle.std.specs.Prelude.{◌≡◌, ℕ, true, cond, List, Option, Some, None}
use Rattle.channel_state.specs.State.{State, is_some_one}
use Rattle.roster.specs.declared.deed.Deed.{Deed}
use Rattle.roster.specs.LookBack.{state, has_member, name}

pub record Seen : Type 0 where
  -- as it was first spelled
  pub name : List ℕ
  pub state : State

-- the channel of a name, where it is there
abbrev pub seen : List Deed → List ℕ → Option Seen
seen fs c = cond (has_member fs c) (Some (record { name = name fs c; state = state fs c })) None

-- it is what the facts say by its own name
pub record IsSeen (fs : List Deed) (k : Seen) : Type 0 where
  pub there : has_member fs k.name ≡ true
  pub state : state fs k.name ≡ k.state
  pub lasts : is_some_one k.state.members ≡ true
