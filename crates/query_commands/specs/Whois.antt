-- Who has a nickname: RFC 2812, section 3.6.2 (WHOIS).
use Rattle.std.specs.Prelude.{ℕ, cond, List, [], ◌∷◌, ◌++◌, map, length, unwrap_or}
use Rattle.std.specs.Prelude.{Option, Some, None, Result, Ok, Err}
use Rattle.std.specs.List.{flat_map}
use Rattle.numerics.specs.declared.numeric.Numeric.{Numeric}
use Rattle.numerics.specs.declared.numeric.Numeric.TheVariants.{NoSuchNick, WhoisUser, WhoisChannels}
use Rattle.numerics.specs.declared.numeric.Numeric.TheVariants.{WhoisServer, EndOfWhois, Away}
use Rattle.numerics.specs.Cut.{cut_lines}
use Rattle.numerics.specs.Numerics.{numeric, marks}
use Rattle.numerics.specs.Outgoing.{room}
use Rattle.registration.specs.declared.settings.Settings.{Settings}
use Rattle.roster.specs.declared.deed.Deed.{Deed}
use Rattle.roster.specs.LookBack.{host, nick, user, real, away, user_named, channels_on}
use Rattle.transactions.specs.Seen.{Seen}
use Rattle.transactions.specs.Lines.{title}
use Rattle.command_params.specs.declared.fault.ReadFault.{ReadFault}
use Rattle.command_params.specs.declared.fault.ReadFault.TheVariants.{NoNicknameGiven}
use Rattle.line_grammar.specs.Parts.{is_empty}
use Rattle.command_params.specs.Params.{first_or_empty}
use Rattle.query_commands.specs.declared.query.Query.{Query}
use Rattle.query_commands.specs.declared.query.Query.TheVariants as query
use Rattle.query_commands.specs.Visible.{channel_for}
use Rattle.query_commands.specs.Names.{rank_of}

-- of two parameters the second counts
abbrev pub nick_asked : List (List ℕ) → List ℕ
nick_asked (server ∷ nick ∷ ps) = nick
nick_asked ps = first_or_empty ps

abbrev pub whois_query : List (List ℕ) → Result Query ReadFault
whois_query ps = cond (is_empty (nick_asked ps)) (Err NoNicknameGiven) (Ok (query.Whois (nick_asked ps)))

-- a channel's name as it was first spelled, with the mark of the user's rank there
abbrev pub title_seen : ℕ → Option Seen → List (List ℕ)
title_seen t None = []
title_seen t (Some k) = (marks (rank_of k.state t) ++ k.name) ∷ []

-- the channels of t that a session sees, by t's last join of each
abbrev pub channel_titles : List Deed → ℕ → ℕ → List (List ℕ)
channel_titles fs s t = flat_map (λ c. title_seen t (channel_for fs s c)) (channels_on fs t)

abbrev pub channels_room : Settings → List Deed → ℕ → List ℕ → ℕ
channels_room g fs s n = room (numeric g.server (title (nick fs s)) (WhoisChannels n []))

abbrev pub channel_lines : List ℕ → ℕ → List (List ℕ) → List Numeric
channel_lines n octets names = map (WhoisChannels n) (cut_lines octets (length names) names)

abbrev pub channels_told : Settings → List Deed → ℕ → ℕ → List ℕ → List Numeric
channels_told g fs s t n = channel_lines n (channels_room g fs s n) (channel_titles fs s t)

abbrev pub away_told : List ℕ → Option (List ℕ) → List Numeric
away_told n None = []
away_told n (Some text) = Away n text ∷ []

abbrev pub user_line : List Deed → ℕ → List ℕ → Numeric
user_line fs t n = WhoisUser n (title (user fs t)) (host fs t) (unwrap_or (real fs t) [])

-- a user of nickname n
abbrev pub user_told : Settings → List Deed → ℕ → ℕ → List ℕ → List Numeric
user_told g fs s t n =
    user_line fs t n ∷ channels_told g fs s t n ++ WhoisServer n g.info ∷ away_told n (away fs t) ++ EndOfWhois n ∷ []

abbrev pub whois_found : Settings → List Deed → ℕ → List ℕ → Option ℕ → List Numeric
whois_found g fs s n None = NoSuchNick n ∷ EndOfWhois n ∷ []
whois_found g fs s n (Some t) = user_told g fs s t (title (nick fs t))

abbrev pub whois_asked : Settings → List Deed → ℕ → List ℕ → List Numeric
whois_asked g fs s n = whois_found g fs s n (user_named fs n)
