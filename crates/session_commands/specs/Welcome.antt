-- What a session is told when it is registered: RFC 2812, section 5.1.
use Rattle.std.specs.Prelude.{ℕ, List, ◌∷◌, ◌++◌, map}
use Rattle.numerics.specs.declared.numeric.Numeric.{Numeric}
use Rattle.numerics.specs.declared.numeric.Numeric.TheVariants.{Welcome, YourHost, Created, MyInfo, ISupport}
use Rattle.numerics.specs.CivilTime.{time_text}
use Rattle.numerics.specs.Cut.{cut_lines, most_tokens}
use Rattle.numerics.specs.Support.{tokens}
use Rattle.registration.specs.declared.settings.Settings.{Settings}
use Rattle.query_commands.specs.Motd.{motd_numerics}

-- what the server supports, in lines whose tokens have 370 octets at most
abbrev pub support_numerics : List Numeric
support_numerics = map ISupport (cut_lines 370 most_tokens tokens)

-- who registered is welcomed
abbrev pub welcome_numerics : Settings → List ℕ → List Numeric
welcome_numerics g source = Welcome source ∷ YourHost g.version ∷ Created (time_text g.created) ∷ MyInfo g.version
    ∷ support_numerics ++ motd_numerics g.motd
