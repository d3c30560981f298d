-- The numeric of a denial, of the nickname, channel or target that it names: RFC 2812, section 5.2.
use Rattle.std.specs.Prelude.{ℕ, List}
use Rattle.numerics.specs.declared.numeric.Numeric.{Numeric}
use Rattle.numerics.specs.declared.numeric.Numeric.TheVariants as numeric
use Rattle.transactions.specs.declared.denials.Denial.{Denial}
use Rattle.transactions.specs.declared.denials.Denial.TheVariants.{NoSuchNick, NoSuchChannel, CannotSendToChan}
use Rattle.transactions.specs.declared.denials.Denial.TheVariants.{TooManyChannels, TooManyTargets, NotOnChannel}
use Rattle.transactions.specs.declared.denials.Denial.TheVariants.{ChannelIsFull, InviteOnlyChan, BannedFromChan}
use Rattle.transactions.specs.declared.denials.Denial.TheVariants.{BadChannelKey, ChanOPrivsNeeded}

abbrev pub numeric_for : Denial → List ℕ → Numeric
numeric_for NoSuchNick name = numeric.NoSuchNick name
numeric_for NoSuchChannel name = numeric.NoSuchChannel name
numeric_for CannotSendToChan name = numeric.CannotSendToChan name
numeric_for TooManyChannels name = numeric.TooManyChannels name
numeric_for TooManyTargets name = numeric.TooManyTargets name
numeric_for NotOnChannel name = numeric.NotOnChannel name
numeric_for ChannelIsFull name = numeric.ChannelIsFull name
numeric_for InviteOnlyChan name = numeric.InviteOnlyChan name
numeric_for BannedFromChan name = numeric.BannedFromChan name
numeric_for BadChannelKey name = numeric.BadChannelKey name
numeric_for ChanOPrivsNeeded name = numeric.ChanOPrivsNeeded name
