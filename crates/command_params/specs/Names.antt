-- The commands that are served, and their names: RFC 2812, section 2.3.1.
use Rattle.std.specs.Prelude.{◌≡◌, ℕ, List, [], ◌∷◌, codes, Option, Some}
use Rattle.std.specs.List.{find}
use Rattle.std.specs.Str.{str_eq_ignore_ascii_case}
use Rattle.command_params.specs.declared.name.CommandName.{CommandName}
use Rattle.command_params.specs.declared.name.CommandName.TheVariants as name

abbrev pub name_text : CommandName → List ℕ
name_text name.Quit = codes "QUIT"
name_text name.Ping = codes "PING"
name_text name.Pong = codes "PONG"
name_text name.Privmsg = codes "PRIVMSG"
name_text name.Notice = codes "NOTICE"
name_text name.Tagmsg = codes "TAGMSG"
name_text name.Away = codes "AWAY"
name_text name.Join = codes "JOIN"
name_text name.Part = codes "PART"
name_text name.Kick = codes "KICK"
name_text name.Invite = codes "INVITE"
name_text name.Topic = codes "TOPIC"
name_text name.Mode = codes "MODE"
name_text name.Names = codes "NAMES"
name_text name.List = codes "LIST"
name_text name.Who = codes "WHO"
name_text name.Whois = codes "WHOIS"
name_text name.Motd = codes "MOTD"
name_text name.Cap = codes "CAP"
name_text name.Authenticate = codes "AUTHENTICATE"
name_text name.Pass = codes "PASS"
name_text name.Nick = codes "NICK"
name_text name.User = codes "USER"

abbrev pub all_names : List CommandName
all_names = name.Quit ∷ name.Ping ∷ name.Pong ∷ name.Privmsg ∷ name.Notice ∷ name.Tagmsg ∷ name.Away ∷ name.Join
    ∷ name.Part ∷ name.Kick ∷ name.Invite ∷ name.Topic ∷ name.Mode ∷ name.Names ∷ name.List ∷ name.Who ∷ name.Whois
    ∷ name.Motd ∷ name.Cap ∷ name.Authenticate ∷ name.Pass ∷ name.Nick ∷ name.User ∷ []

-- the command of a name, which is taken in either case
unfoldable pub known_name : List ℕ → Option CommandName
known_name n = find (λ known. str_eq_ignore_ascii_case n (name_text known)) all_names

-- none is left out, and no two have one name
abbrev pub EachNameIsRead : Type 0
EachNameIsRead = (c : CommandName) → known_name (name_text c) ≡ Some c
