-- What clauses see of a roster.
use Rattle.std.specs.Prelude.{List}
use Rattle.registration.specs.declared.settings.Settings.{Settings}
use Rattle.roster.specs.declared.deed.Deed.{Deed}

pub record Known : Type 0 where
  pub settings : Settings
  -- all facts, the newest first
  pub facts : List Deed
  -- the deeds that can be applied next, in this order, without memory
  pub ready : List Deed
