-- Who is on a channel, in full: RFC 2812, section 3.6.1 (WHO).
use Rattle.std.specs.Prelude.{ℕ, List, [], ◌∷◌, ◌++◌, map, codes, is_some, unwrap_or, Option, Some, None, Result, Ok}
use Rattle.numerics.specs.declared.numeric.Numeric.{Numeric}
use Rattle.numerics.specs.declared.numeric.Numeric.TheVariants.{WhoReply, EndOfWho}
use Rattle.numerics.specs.declared.numeric.Who.{Who}
use Rattle.roster.specs.declared.deed.Deed.{Deed}
use Rattle.roster.specs.LookBack.{host, nick, user, real, away}
use Rattle.transactions.specs.Seen.{Seen}
use Rattle.transactions.specs.Lines.{title}
use Rattle.command_params.specs.declared.fault.ReadFault.{ReadFault}
use Rattle.command_params.specs.Params.{first_or_none}
use Rattle.query_commands.specs.declared.query.Query.{Query}
use Rattle.query_commands.specs.declared.query.Query.TheVariants as query
use Rattle.query_commands.specs.Visible.{channel_for, members_for}
use Rattle.query_commands.specs.Names.{rank_of}

abbrev pub who_query : List (List ℕ) → Result Query ReadFault
who_query ps = Ok (query.Who (first_or_none ps))

-- a member of a channel
abbrev pub who_of : List Deed → Seen → ℕ → Who
who_of fs k t = record {
  channel = k.name;
  user = title (user fs t);
  host = host fs t;
  nick = title (nick fs t);
  away = is_some (away fs t);
  prefix = rank_of k.state t;
  real = unwrap_or (real fs t) [];
}

-- names of users and masks find nobody; nothing tells a channel that isn't seen from one that isn't there
abbrev pub who_seen : List Deed → ℕ → List ℕ → Option Seen → List Numeric
who_seen fs s n None = EndOfWho n ∷ []
who_seen fs s n (Some k) = map (λ t. WhoReply (who_of fs k t)) (members_for fs s k.state) ++ EndOfWho k.name ∷ []

abbrev pub who_asked : List Deed → ℕ → Option (List ℕ) → List Numeric
who_asked fs s None = EndOfWho (codes "*") ∷ []
who_asked fs s (Some n) = who_seen fs s n (channel_for fs s n)
