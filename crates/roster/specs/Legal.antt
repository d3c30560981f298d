-- Which fact may come next. Whoever establishes one has looked that up.
use Rattle.std.specs.Prelude.{◌≡◌, ℕ, suc, ◌<◌, ◌≤◌, true, false, List, [], ◌∷◌, length, Some}
use Rattle.roster.specs.declared.deed.Deed.{Deed}
use Rattle.roster.specs.declared.deed.Deed.TheVariants.{Opened, NickSet, UserSet, HoldSet, CapsSet}
use Rattle.roster.specs.declared.deed.Deed.TheVariants.{ExchangeSet, LoggedIn, Enrolled, AwaySet}
use Rattle.roster.specs.declared.deed.Deed.TheVariants.{InvisibleSet, ChannelMade, Changed, Ended, Gone}
use Rattle.channel_state.specs.State.{State, among}
use Rattle.channel_state.specs.declared.change.Change.{Change}
use Rattle.channel_state.specs.declared.change.Change.TheVariants as change
use Rattle.roster.specs.LookBack.{opened_in, holder, state, has_member}

-- a session that was opened: they are numbered from 1 in the order in which they are
abbrev pub IsOpened : List Deed → ℕ → Type 0
IsOpened fs s = (0 < s) × (s ≤ length (opened_in fs))

-- no other session holds a nickname
abbrev pub IsFree : List Deed → ℕ → List ℕ → Type 0
IsFree fs t n = (s : ℕ) → holder fs n ≡ Some s → s ≡ t

-- a change that a channel may have: who joins isn't on it, who leaves or has a rank is
abbrev pub IsFit : State → Change → Type 0
IsFit k (change.Joined t) = among t k.members ≡ false
IsFit k (change.Left t) = among t k.members ≡ true
IsFit k (change.RankSet t rank is) = among t k.members ≡ true
IsFit k x = Unit {0}

-- a fact may come after these
abbrev pub IsNext : List Deed → Deed → Type 0
IsNext fs (Opened t h) = t ≡ suc (length (opened_in fs))
IsNext fs (NickSet t n) = IsOpened fs t × IsFree fs t n
IsNext fs (UserSet t u r) = IsOpened fs t
IsNext fs (HoldSet t on) = IsOpened fs t
IsNext fs (CapsSet t caps) = IsOpened fs t
IsNext fs (ExchangeSet t x) = IsOpened fs t
IsNext fs (LoggedIn t a) = IsOpened fs t
IsNext fs (Enrolled t) = IsOpened fs t
IsNext fs (AwaySet t x) = IsOpened fs t
IsNext fs (InvisibleSet t is) = IsOpened fs t
IsNext fs (ChannelMade t k) = has_member fs k ≡ false
IsNext fs (Changed k x) = (has_member fs k ≡ true) × IsFit (state fs k) x
IsNext fs (Ended t w x) = IsOpened fs t
IsNext fs (Gone t) = IsOpened fs t

-- facts may come after these, one after another
abbrev pub AreNext : List Deed → List Deed → Type 0
AreNext fs [] = Unit {0}
AreNext fs (d ∷ ds) = IsNext fs d × AreNext (d ∷ fs) ds

-- facts, the newest first, each of which might come when it did
abbrev pub AreLegal : List Deed → Type 0
AreLegal [] = Unit {0}
AreLegal (d ∷ fs) = IsNext fs d × AreLegal fs
