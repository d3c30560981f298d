-- The lines that are shown, and those that answer without a number: RFC 2812, sections 2.3.1 (prefix), 3.1.2 (NICK),
-- 3.1.7 (QUIT), 3.2.1 (JOIN) and 3.7.3 (PONG); IRCv3 Capability Negotiation, SASL 3.1, extended-join and
-- away-notify.
use Rattle.std.specs.Prelude.{ℕ, List, [], ◌∷◌, ◌++◌, codes, unwrap_or, true, false, Option, Some, None}
use Rattle.line_grammar.specs.Spelling.{needs_colon}
use Rattle.numerics.specs.declared.outgoing.Out.{Out}
use Rattle.numerics.specs.Outgoing.{line}
use Rattle.roster.specs.declared.deed.Deed.{Deed}
use Rattle.roster.specs.LookBack.{host, nick, user}

-- a name, or a star before it is known
abbrev pub title : Option (List ℕ) → List ℕ
title name = unwrap_or name (codes "*")

-- whom the lines of a session come from: nick!user@host
unfoldable pub prefix : List Deed → ℕ → List ℕ
prefix fs s = title (nick fs s) ++ codes "!" ++ title (user fs s) ++ codes "@" ++ host fs s

abbrev pub join_line : List ℕ → List ℕ → Out
join_line from channel = line from (codes "JOIN") (channel ∷ []) false

-- a join with the account of who joined, or a star, and its real name
abbrev pub extended_join_line : List ℕ → List ℕ → Option (List ℕ) → Option (List ℕ) → Out
extended_join_line from channel account real = line from (codes "JOIN")
    (channel ∷ title account ∷ unwrap_or real [] ∷ []) true

-- away with a text, or here again
abbrev pub away_line : List ℕ → Option (List ℕ) → Out
away_line from None = line from (codes "AWAY") [] false
away_line from (Some text) = line from (codes "AWAY") (text ∷ []) true

abbrev pub quit_line : List ℕ → List ℕ → Out
quit_line from text = line from (codes "QUIT") (text ∷ []) true

abbrev pub nick_line : List ℕ → List ℕ → Out
nick_line from new = line from (codes "NICK") (new ∷ []) false

-- the server's name stands twice: the answer comes from it, and it is the one that was asked
abbrev pub pong_line : List ℕ → List ℕ → Out
pong_line server token = line server (codes "PONG") (server ∷ token ∷ []) (needs_colon token)

-- a list of capabilities, with the subcommand that it belongs to
abbrev pub cap_line : List ℕ → List ℕ → List ℕ → List ℕ → Out
cap_line server to subcommand list = line server (codes "CAP") (to ∷ subcommand ∷ list ∷ []) true

-- the client is to go on. It names nobody whom it comes from
abbrev pub go_on_line : Out
go_on_line = record {
  tags = [];
  source = None;
  command = codes "AUTHENTICATE";
  params = codes "+" ∷ [];
  colon = false;
}
