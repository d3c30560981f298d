-- What private contracts see of a table: its rows, in order, with room for more, which then take no memory.
use Rattle.std.specs.Prelude.{ℕ, List}

pub record Table (A : Type 0) : Type 0 where
  pub list : List A
  pub room : ℕ
