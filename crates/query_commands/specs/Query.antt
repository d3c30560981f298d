-- The commands that only ask, and what each is told. RFC 2812, sections 3.2.5, 3.2.6,
-- 3.4.1, 3.6.1 and 3.6.2.
use Rattle.std.specs.Prelude.{ℕ, List}
use Rattle.numerics.specs.declared.numeric.Numeric.{Numeric}
use Rattle.registration.specs.declared.settings.Settings.{Settings}
use Rattle.roster.specs.declared.deed.Deed.{Deed}
use Rattle.transactions.specs.declared.effect.Effect.{Effect}
use Rattle.transactions.specs.Replies.{tells_all}
use Rattle.query_commands.specs.declared.query.Query.{Query}
use Rattle.query_commands.specs.declared.query.Query.TheVariants as query
use Rattle.query_commands.specs.Names.{names_asked}
use Rattle.query_commands.specs.Listing.{channels_asked, lists_told}
use Rattle.query_commands.specs.Who.{who_asked}
use Rattle.query_commands.specs.Whois.{whois_asked}
use Rattle.query_commands.specs.Motd.{motd_asked}

-- what a session is told that asks, by the settings and the facts before the record
abbrev pub told : Settings → List Deed → ℕ → Query → List Numeric
told g fs s (query.Names channels) = names_asked g fs s channels
told g fs s (query.List channels) = lists_told fs s (channels_asked fs channels)
told g fs s (query.Who name) = who_asked fs s name
told g fs s (query.Whois nick) = whois_asked g fs s nick
told g fs s (query.Motd server) = motd_asked g server

-- a query does nothing but tell
abbrev pub queries : Settings → List Deed → ℕ → Query → List Effect
queries g fs s q = tells_all g fs s (told g fs s q)
