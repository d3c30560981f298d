-- Which channels there are: RFC 2812, section 3.2.6 (LIST).
use Rattle.std.specs.Prelude.{ℕ, List, [], ◌∷◌, ◌++◌, length, unwrap_or, Option, Some, None, Result, Ok}
use Rattle.std.specs.List.{flat_map}
use Rattle.numerics.specs.declared.numeric.Numeric.{Numeric}
use Rattle.numerics.specs.declared.numeric.Numeric.TheVariants.{ListReply, ListEnd}
use Rattle.roster.specs.declared.deed.Deed.{Deed}
use Rattle.roster.specs.LookBack.{channels}
use Rattle.transactions.specs.Seen.{Seen}
use Rattle.command_params.specs.declared.fault.ReadFault.{ReadFault}
use Rattle.command_params.specs.Lists.{list_given}
use Rattle.query_commands.specs.declared.query.Query.{Query}
use Rattle.query_commands.specs.declared.query.Query.TheVariants as query
use Rattle.query_commands.specs.Visible.{channel_for}

abbrev pub list_query : List (List ℕ) → Result Query ReadFault
list_query ps = Ok (query.List (list_given ps))

-- a channel, how many are on it, and its topic
abbrev pub listed_seen : Option Seen → List Numeric
listed_seen None = []
listed_seen (Some k) = ListReply k.name (length k.state.members) (unwrap_or k.state.topic []) ∷ []

abbrev pub list_told : List Deed → ℕ → List ℕ → List Numeric
list_told fs s c = listed_seen (channel_for fs s c)

-- those of a list in its order, or else all in the order of making
abbrev pub channels_asked : List Deed → Option (List (List ℕ)) → List (List ℕ)
channels_asked fs None = channels fs
channels_asked fs (Some cs) = cs

abbrev pub lists_told : List Deed → ℕ → List (List ℕ) → List Numeric
lists_told fs s cs = flat_map (list_told fs s) cs ++ ListEnd ∷ []
