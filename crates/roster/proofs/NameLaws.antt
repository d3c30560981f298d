-- What follows of names of channels.
use Rattle.std.proofs.Common.{inl, inr, [], ◌∷◌}
use Rattle.roster.specs.declared.deed.Deed.TheVariants.{ChannelMade}
use Rattle.casemapping.specs.Fold.{is_same}
use Rattle.roster.specs.Laws.{ChannelsHaveOneName, SpelledNamesAreNames}
use Rattle.roster.proofs.Bools.{either}
use Rattle.casemapping.proofs.SameNames.{is_same-refl}
use Rattle.roster.proofs.OnChannels.{state-same, on-same}

pub one_name : ChannelsHaveOneName
one_name fs c d e = (state-same fs c d e, λ s. on-same fs s c d e)

pub spelled : SpelledNamesAreNames
spelled [] c = is_same-refl c
spelled (ChannelMade t k ∷ fs) c = elim (either (is_same k c)) [
  | inl same ↦ rw same same
  | inr other ↦ rw other (spelled fs c)
]
spelled (_ ∷ fs) c = spelled fs c
