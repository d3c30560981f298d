-- The message of the day: RFC 2812, sections 3.4.1 (MOTD) and 5.1.
use Rattle.std.specs.Prelude.{ℕ, List, [], ◌∷◌, ◌++◌, map, Option, Some, None, Result, Ok, if◌then◌else◌}
use Rattle.casemapping.specs.Fold.{is_same}
use Rattle.numerics.specs.declared.numeric.Numeric.{Numeric}
use Rattle.numerics.specs.declared.numeric.Numeric.TheVariants.{Motd, MotdStart, EndOfMotd, NoMotd, NoSuchServer}
use Rattle.registration.specs.declared.settings.Settings.{Settings}
use Rattle.command_params.specs.declared.fault.ReadFault.{ReadFault}
use Rattle.command_params.specs.Params.{first_or_none}
use Rattle.query_commands.specs.declared.query.Query.{Query}
use Rattle.query_commands.specs.declared.query.Query.TheVariants as query

abbrev pub motd_query : List (List ℕ) → Result Query ReadFault
motd_query ps = Ok (query.Motd (first_or_none ps))

-- the message of the day, line by line
abbrev pub motd_numerics : Option (List (List ℕ)) → List Numeric
motd_numerics None = NoMotd ∷ []
motd_numerics (Some lines) = MotdStart ∷ map Motd lines ++ EndOfMotd ∷ []

-- of this server, or of none
abbrev pub motd_asked : Settings → Option (List ℕ) → List Numeric
motd_asked g None = motd_numerics g.motd
motd_asked g (Some server) = if is_same server g.server then motd_numerics g.motd else NoSuchServer server ∷ []
