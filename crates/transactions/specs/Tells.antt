-- What a fact may tell of a channel: this project's own choice.
use Rattle.std.specs.Prelude.{ℕ, Bool, true, false, List}
use Rattle.casemapping.specs.Fold.{is_same}
use Rattle.roster.specs.declared.deed.Deed.{Deed}
use Rattle.roster.specs.declared.deed.Deed.TheVariants.{ChannelMade, Changed, Gone}

-- whether a fact may tell of a channel: who is gone may have been on any
abbrev pub touches : List ℕ → Deed → Bool
touches c (ChannelMade t k) = is_same k c
touches c (Changed k x) = is_same k c
touches c (Gone t) = true
touches c d = false
