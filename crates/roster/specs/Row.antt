-- What clauses see of a session's list of channels: with room for more, which then takes no memory.
use Rattle.std.specs.Prelude.{ℕ, List}

pub record ChannelList : Type 0 where
  pub list : List (List ℕ)
  -- the channels that may list it among the invited
  pub notes : List (List ℕ)
  pub room : ℕ
