-- What the server asks a session that is idle: RFC 2812, section 3.7.2.
use Rattle.std.specs.Prelude.{ℕ, List, [], ◌∷◌, codes, false}
use Rattle.numerics.specs.declared.outgoing.Out.{Out}
use Rattle.numerics.specs.Outgoing.{line}

-- PING comes from the server, and names it as the one that is to be answered
abbrev pub ping_line : List ℕ → Out
ping_line server = line server (codes "PING") (server ∷ []) false
