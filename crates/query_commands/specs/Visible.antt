-- What a session is let see of channels: RFC 2811, section 4.2.6 (secret channels), and RFC 2812, section 3.1.5
-- (user mode `i`).
use Rattle.std.specs.Prelude.{ℕ, Bool, not, ◌||◌, List, [], filter, Option, Some, None, if◌then◌else◌}
use Rattle.channel_state.specs.State.{State, among}
use Rattle.roster.specs.declared.deed.Deed.{Deed}
use Rattle.roster.specs.LookBack.{invisible}
use Rattle.transactions.specs.Seen.{Seen, seen}

-- a secret channel is there for its members alone
abbrev pub sees : ℕ → State → Bool
sees s k = not k.modes.secret || among s k.members

abbrev pub seen_by : ℕ → Option Seen → Option Seen
seen_by s None = None
seen_by s (Some k) = if sees s k.state then Some k else None

-- the channel of a name, where the session sees it
unfoldable pub channel_for : List Deed → ℕ → List ℕ → Option Seen
channel_for fs s c = seen_by s (seen fs c)

-- what there is of one thing, and nothing of none
abbrev pub of_one : {A B : Type 0} → (A → List B) → Option A → List B
of_one f None = []
of_one f (Some x) = f x

-- the members that a session is told of: who isn't on the channel isn't told of those with mode `i`
unfoldable pub members_for : List Deed → ℕ → State → List ℕ
members_for fs s k = if among s k.members then k.members else filter (λ t. not (invisible fs t)) k.members
