-- Who is on a channel, as it is told: RFC 2812, section 3.2.5 (NAMES, with which JOIN ends).
use Rattle.std.specs.Prelude.{ℕ, List, [], ◌∷◌, ◌++◌, map, codes, length, Option}
use Rattle.std.specs.Prelude.{Some, None, Result, Ok, if◌then◌else◌}
use Rattle.std.specs.List.{flat_map}
use Rattle.channel_state.specs.State.{State, among}
use Rattle.numerics.specs.declared.numeric.Numeric.{Numeric}
use Rattle.numerics.specs.declared.numeric.Numeric.TheVariants.{NamReply, EndOfNames}
use Rattle.numerics.specs.declared.prefix.Prefix.{Prefix}
use Rattle.numerics.specs.declared.prefix.Prefix.TheVariants.{Operator, Voice}
use Rattle.numerics.specs.Cut.{cut_lines}
use Rattle.numerics.specs.Numerics.{numeric, marks}
use Rattle.numerics.specs.Outgoing.{room}
use Rattle.registration.specs.declared.settings.Settings.{Settings}
use Rattle.roster.specs.declared.deed.Deed.{Deed}
use Rattle.roster.specs.LookBack.{nick}
use Rattle.transactions.specs.Seen.{Seen}
use Rattle.transactions.specs.Lines.{title}
use Rattle.command_params.specs.declared.fault.ReadFault.{ReadFault}
use Rattle.command_params.specs.Lists.{list_given}
use Rattle.query_commands.specs.declared.query.Query.{Query}
use Rattle.query_commands.specs.declared.query.Query.TheVariants as query
use Rattle.query_commands.specs.Visible.{channel_for, members_for}

abbrev pub names_query : List (List ℕ) → Result Query ReadFault
names_query ps = Ok (query.Names (list_given ps))

-- the higher of a member's ranks
abbrev pub rank_of : State → ℕ → Option Prefix
rank_of k t = if among t k.operators then Some Operator else if among t k.voices then Some Voice else None

-- a member's nickname, with the mark of its rank
unfoldable pub member_name : List Deed → State → ℕ → List ℕ
member_name fs k t = marks (rank_of k t) ++ title (nick fs t)

-- those that the session is told of, in the order of joining
abbrev pub member_names : List Deed → ℕ → State → List (List ℕ)
member_names fs s k = map (member_name fs k) (members_for fs s k)

-- how many octets of names a line has room for
abbrev pub names_room : Settings → List Deed → ℕ → Seen → ℕ
names_room g fs s k = room (numeric g.server (title (nick fs s)) (NamReply k.state.modes.secret k.name []))

-- names in as few lines as their order allows; no name makes no line
abbrev pub name_lines : Seen → ℕ → List (List ℕ) → List Numeric
name_lines k octets names = map (NamReply k.state.modes.secret k.name) (cut_lines octets (length names) names)

-- these names, and that they are all
abbrev pub all_told : Settings → List Deed → ℕ → Seen → List (List ℕ) → List Numeric
all_told g fs s k names = name_lines k (names_room g fs s k) names ++ EndOfNames k.name ∷ []

-- who is on it
abbrev pub names_told : Settings → List Deed → ℕ → Seen → List Numeric
names_told g fs s k = all_told g fs s k (member_names fs s k.state)

-- a channel, with these members in the place of its own
abbrev pub with_members : List ℕ → State → List ℕ → Seen
with_members name k members = record { name = name; state = record k { members = members } }

-- nothing tells a channel that isn't seen from one that isn't there
abbrev pub names_seen : Settings → List Deed → ℕ → List ℕ → Option Seen → List Numeric
names_seen g fs s c None = EndOfNames c ∷ []
names_seen g fs s c (Some k) = names_told g fs s k

abbrev pub names_of : Settings → List Deed → ℕ → List ℕ → List Numeric
names_of g fs s c = names_seen g fs s c (channel_for fs s c)

-- each channel of a list in turn. Without one nothing is told but the end
abbrev pub names_asked : Settings → List Deed → ℕ → Option (List (List ℕ)) → List Numeric
names_asked g fs s None = EndOfNames (codes "*") ∷ []
names_asked g fs s (Some cs) = flat_map (names_of g fs s) cs
