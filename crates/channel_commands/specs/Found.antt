-- Whom and what a command names, as it finds them. Clauses see these as they stand, unless they unfold them.
use Rattle.std.specs.Prelude.{ℕ, List, Option}
use Rattle.roster.specs.declared.deed.Deed.{Deed}
use Rattle.roster.specs.LookBack.{user_named}
use Rattle.transactions.specs.Seen.{Seen, seen}

-- the channel of a name, where it is there: RFC 2811, section 2
unfoldable pub channel_of : List Deed → List ℕ → Option Seen
channel_of fs c = seen fs c

-- the user of a nickname: RFC 2812, section 1.2.1
unfoldable pub user_of : List Deed → List ℕ → Option ℕ
user_of fs n = user_named fs n
