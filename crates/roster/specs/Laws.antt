-- What follows for every list of facts: RFC 2812, section 2.2 (names that differ in case alone are one), and RFC
-- 2811, sections 2 to 4.
use Rattle.std.specs.Prelude.{◌≡◌, ℕ, true, false, ◌==◌, List}
use Rattle.std.specs.List.{IsDistinct, list_any}
use Rattle.channel_state.specs.State.{among, is_set}
use Rattle.channel_state.specs.declared.modes.Flag.{Flag}
use Rattle.roster.specs.declared.deed.Deed.{Deed}
use Rattle.casemapping.specs.Fold.{is_same}
use Rattle.roster.specs.Legal.{AreLegal}
use Rattle.roster.specs.LookBack.{on, state, name, members, has_member, is_operator, has_voice}
use Rattle.roster.specs.LookBack.{invited, has_pardon, mode, topic, bans, channels_on, sharers}
use Rattle.roster.specs.Told.{last_topic, last_flag, last_key, last_limit, last_ban}
use Rattle.roster.specs.Told.{last_operator, last_voice, last_invited, last_pardoned}

-- one name, however it is spelled, is the same channel
abbrev pub ChannelsHaveOneName : Type 0
ChannelsHaveOneName = (fs : List Deed) (c d : List ℕ) → is_same c d ≡ true → (state fs c ≡ state fs d)
    × ((s : ℕ) → on fs s c ≡ on fs s d)

-- a channel's name as it was first spelled is its name
abbrev pub SpelledNamesAreNames : Type 0
SpelledNamesAreNames = (fs : List Deed) (c : List ℕ) → is_same (name fs c) c ≡ true

-- ---- what a channel has is what the newest fact tells of it

-- who is on it is among its members, and nobody else
abbrev pub MembersAreOnIt : Type 0
MembersAreOnIt = (fs : List Deed) (s : ℕ) (c : List ℕ) → among s (members fs c) ≡ on fs s c

-- what is said of each channel that is there, in facts of which each might come when it did
abbrev pub OfChannels : (List Deed → List ℕ → Type 0) → Type 0
OfChannels P = (fs : List Deed) (c : List ℕ) → AreLegal fs → has_member fs c ≡ true → P fs c

abbrev pub TopicsAreTheLast : Type 0
TopicsAreTheLast = OfChannels (λ fs c. topic fs c ≡ last_topic fs c)

abbrev pub FlagsAreTheLast : Type 0
FlagsAreTheLast = (f : Flag) → OfChannels (λ fs c. is_set f (mode fs c) ≡ last_flag fs f c)

abbrev pub KeysAreTheLast : Type 0
KeysAreTheLast = OfChannels (λ fs c. (mode fs c).key ≡ last_key fs c)

abbrev pub LimitsAreTheLast : Type 0
LimitsAreTheLast = OfChannels (λ fs c. (mode fs c).limit ≡ last_limit fs c)

abbrev pub BansAreTheLast : Type 0
BansAreTheLast = (m : List ℕ) → OfChannels (λ fs c. list_any (λ b. is_same b m) (bans fs c) ≡ last_ban fs m c)

abbrev pub OperatorsAreTheLast : Type 0
OperatorsAreTheLast = (s : ℕ) → OfChannels (λ fs c. is_operator fs s c ≡ last_operator fs s c)

abbrev pub VoicesAreTheLast : Type 0
VoicesAreTheLast = (s : ℕ) → OfChannels (λ fs c. has_voice fs s c ≡ last_voice fs s c)

abbrev pub InvitationsAreTheLast : Type 0
InvitationsAreTheLast = (s : ℕ)
    → OfChannels (λ fs c. (invited fs s c ≡ last_invited fs s c) × (has_pardon fs s c ≡ last_pardoned fs s c))

-- ---- each once

abbrev pub MembersAreThereOnce : Type 0
MembersAreThereOnce = (fs : List Deed) (c : List ℕ) → IsDistinct (λ s t. s == t) (members fs c)

-- and without the session itself
abbrev pub SharersAreThereOnce : Type 0
SharersAreThereOnce = (fs : List Deed) (s : ℕ) → AreLegal fs → IsDistinct (λ t u. t == u) (sharers fs s)
    × (among s (sharers fs s) ≡ false)

-- however they are spelled
abbrev pub OwnChannelsAreThereOnce : Type 0
OwnChannelsAreThereOnce = (fs : List Deed) (s : ℕ) → IsDistinct is_same (channels_on fs s)
