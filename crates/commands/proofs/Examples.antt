-- The definitions at work, computed: what lines ask for.
use Rattle.std.proofs.Common.{◌≡◌, ℕ, true, false, List, [], ◌∷◌, codes, Option, Some, None, refl}
use Rattle.line_grammar.specs.declared.message.Message.{Message}
use Rattle.line_grammar.specs.declared.splitter.Piece.TheVariants as piece
use Rattle.line_grammar.specs.Reading.{reading, parameters, with_command}
use Rattle.casemapping.specs.Fold.{fold_of}
use Rattle.std.specs.Str.{is_utf8, chars}
use lib.Utf8.{encode}
use Rattle.message_tags.specs.Tags.{counting_tags, key_shape}
use Rattle.message_tags.specs.ClientOnly.{client_only_data}
use Rattle.session_commands.specs.declared.session.CapSubcommand.TheVariants as cap
use Rattle.commands.specs.declared.command.Command.TheVariants as topic
use Rattle.session_commands.specs.declared.session.SessionCommand.TheVariants as session
use Rattle.channel_commands.specs.declared.channel.ChannelCommand.TheVariants as channel
use Rattle.talk_commands.specs.declared.talk.TalkCommand.TheVariants as talk
use Rattle.talk_commands.specs.declared.verb.Verb.TheVariants as verb
use Rattle.command_params.specs.declared.fault.ReadFault.TheVariants as fault
use Rattle.command_params.specs.declared.join_targets.JoinTarget.{JoinTarget}
use Rattle.commands.specs.declared.asked.Asked.{Asked}
use Rattle.commands.specs.declared.asked.Asked.TheVariants.{Nothing, TooLong, Command as Asks, Fault as Fails}
use Rattle.casemapping.specs.Fold.{is_same}
use Rattle.query_commands.specs.declared.query.Query.TheVariants as query
use Rattle.mode_commands.specs.declared.modes.ModeCommand.{ModeCommand}
use Rattle.command_params.specs.declared.name.CommandName.TheVariants as name
use Rattle.command_params.specs.Names.{known_name}
use Rattle.commands.specs.Commands.{command_by, command_of}
use Rattle.commands.specs.Asked.{read_as, asked_of}

-- what a line asks for
abbrev of : List ℕ → Asked
of line = asked_of (piece.Line line)

-- what it is read as
abbrev read_as_given : Option Message → Asked
read_as_given None = Nothing
read_as_given (Some m) = read_as (command_of m)

abbrev read_of : List ℕ → Asked
read_of line = read_as_given (reading line)

-- faults of shape
faults : (of (codes "whois") ≡ Fails fault.NoNicknameGiven)
    × (of (codes "TAGMSG") ≡ Fails (fault.NoRecipient name.Tagmsg))
    × (of (codes "NOTICE") ≡ Asks (topic.Talk (talk.Send verb.Notice [] (Some []) [])))
    × (of (codes "JOIN") ≡ Fails (fault.NeedMoreParams name.Join))
unfolding asked_of reading parameters with_command command_of command_by known_name
faults = (refl, refl, refl, refl)

abbrev changes : List ℕ → List (List ℕ) → ModeCommand
changes to params = record { target = to; changes = params }

abbrev target : List ℕ → List ℕ → JoinTarget
target channel key = record { channel = channel; key = key }

no_message : (of (codes "PRIV MSG") ≡ Fails (fault.UnknownCommand (codes "PRIV"))) × (of (codes ":al") ≡ Nothing)
    × (of (codes "PI-NG") ≡ Nothing) × (of (0 ∷ codes "PING") ≡ Nothing) × (asked_of piece.TooLong ≡ TooLong)
unfolding asked_of reading parameters with_command command_of command_by known_name
no_message = (refl, refl, refl, refl, refl)

-- an unknown command is told as given, a known one in upper case
names_of_commands : (of (codes "fOO") ≡ Fails (fault.UnknownCommand (codes "fOO")))
    × (of (codes "join") ≡ Fails (fault.NeedMoreParams name.Join))
    × (of (codes "001") ≡ Fails (fault.UnknownCommand (codes "001")))
    × (of (codes "pOnG x") ≡ Asks (topic.Session session.Pong))
unfolding asked_of reading parameters with_command command_of command_by known_name
names_of_commands = (refl, refl, refl, refl)

cap_listed : (of (codes "CAP LS") ≡ Asks (topic.Session (session.Cap (cap.Ls false))))
    × (of (codes "CAP ls 0302") ≡ Asks (topic.Session (session.Cap (cap.Ls true))))
    × (of (codes "CAP LS 301") ≡ Asks (topic.Session (session.Cap (cap.Ls false))))
    × (of (codes "CAP LS 99999") ≡ Asks (topic.Session (session.Cap (cap.Ls true))))
    × (of (codes "CAP LS 302x") ≡ Asks (topic.Session (session.Cap (cap.Ls false))))
unfolding asked_of reading parameters with_command command_of command_by known_name
cap_listed = (refl, refl, refl, refl, refl)

cap_others : (of (codes "CAP") ≡ Fails (fault.NeedMoreParams name.Cap))
    × (of (codes "CAP :") ≡ Fails (fault.InvalidCapSubcommand []))
    × (of (codes "CAP clear") ≡ Fails (fault.InvalidCapSubcommand (codes "clear")))
    × (of (codes "CAP REQ") ≡ Fails (fault.NeedMoreParams name.Cap))
    × (of (codes "CAP REQ :") ≡ Asks (topic.Session (session.Cap (cap.Req []))))
    × (of (codes "CAP END x") ≡ Asks (topic.Session (session.Cap cap.End)))
unfolding asked_of reading parameters with_command command_of command_by known_name
cap_others = (refl, refl, refl, refl, refl, refl)

-- a word that stands twice stays: the last counts
cap_words : of (codes "CAP REQ : batch  -sasl batch ")
    ≡ Asks (topic.Session (session.Cap (cap.Req (codes "batch" ∷ codes "-sasl" ∷ codes "batch" ∷ []))))
unfolding asked_of reading parameters with_command command_of command_by known_name
cap_words = refl

registering : (of (codes "NICK :") ≡ Fails fault.NoNicknameGiven)
    × (of (codes "NICK al x") ≡ Asks (topic.Session (session.Nick (codes "al"))))
    × (of (codes "USER a 0 *") ≡ Fails (fault.NeedMoreParams name.User))
    × (of (codes "USER @! 0 * :Al") ≡ Fails (fault.NeedMoreParams name.User)) × (of (codes "USER a@b 0 * :")
    ≡ Asks (topic.Session (session.User (codes "ab") []))) × (of (codes "USER abcdefghijklmnopq 0 * :Al Bo")
    ≡ Asks (topic.Session (session.User (codes "abcdefghijklmnop") (codes "Al Bo"))))
unfolding asked_of reading parameters with_command command_of command_by known_name
registering = (refl, refl, refl, refl, refl, refl)

sessions : (of (codes "PASS") ≡ Fails (fault.NeedMoreParams name.Pass))
    × (of (codes "PASS :") ≡ Asks (topic.Session session.Pass)) × (of (codes "AUTHENTICATE :")
    ≡ Asks (topic.Session (session.Authenticate []))) × (of (codes "PING :") ≡ Fails fault.NoOrigin)
    × (of (codes "PING a b") ≡ Asks (topic.Session (session.Ping (codes "a"))))
    × (of (codes "QUIT") ≡ Asks (topic.Session (session.Quit [])))
    × (of (codes "QUIT :so long") ≡ Asks (topic.Session (session.Quit (codes "so long"))))
unfolding asked_of reading parameters with_command command_of command_by known_name
sessions = (refl, refl, refl, refl, refl, refl, refl)

-- keys go by place, empty names and keys counted
joined : of (codes "JOIN #a,,#b,#A,#c k1,k2,k3,k4") ≡ Asks (topic.Channel (channel.Join
    (target (codes "#a") (codes "k1") ∷ target (codes "#b") (codes "k3") ∷ target (codes "#c") [] ∷ [])))
unfolding asked_of reading parameters with_command command_of command_by known_name is_same fold_of
joined = refl

-- names that differ in case alone are one, as are those that RFC 1459 has as the same
joined_once : (of (codes "JOIN #A[1],#a{1},#b ,,k")
    ≡ Asks (topic.Channel (channel.Join (target (codes "#A[1]") [] ∷ target (codes "#b") (codes "k") ∷ []))))
    × (of (codes "JOIN :") ≡ Asks (topic.Channel (channel.Join [])))
unfolding asked_of reading parameters with_command command_of command_by known_name is_same fold_of
joined_once = (refl, refl)

channels : (read_of (codes "PART ,") ≡ Asks (topic.Channel (channel.Part [] [])))
    × (read_of (codes "PART #a,#b :bye")
    ≡ Asks (topic.Channel (channel.Part (codes "#a" ∷ codes "#b" ∷ []) (codes "bye"))))
    × (read_of (codes "KICK #a") ≡ Fails (fault.NeedMoreParams name.Kick))
    × (read_of (codes "KICK #a bo,BO,cy :out")
    ≡ Asks (topic.Channel (channel.Kick (codes "#a") (codes "bo" ∷ codes "cy" ∷ []) (codes "out"))))
    × (read_of (codes "KICK #a :") ≡ Asks (topic.Channel (channel.Kick (codes "#a") [] [])))
unfolding asked_of reading parameters with_command command_of command_by known_name is_same fold_of
channels = (refl, refl, refl, refl, refl)

more_of_channels : (read_of (codes "INVITE bo") ≡ Fails (fault.NeedMoreParams name.Invite))
    × (read_of (codes "INVITE bo #a") ≡ Asks (topic.Channel (channel.Invite (codes "bo") (codes "#a"))))
    × (read_of (codes "TOPIC #a") ≡ Asks (topic.Channel (channel.Topic (codes "#a") None)))
    × (read_of (codes "TOPIC #a :") ≡ Asks (topic.Channel (channel.Topic (codes "#a") (Some []))))
    × (read_of (codes "MODE :") ≡ Asks (topic.Mode (changes [] []))) × (read_of (codes "MODE #a +ov bo cy")
    ≡ Asks (topic.Mode (changes (codes "#a") (codes "+ov" ∷ codes "bo" ∷ codes "cy" ∷ []))))
unfolding asked_of reading parameters with_command command_of command_by known_name
more_of_channels = (refl, refl, refl, refl, refl, refl)

talking : (of (codes "PRIVMSG") ≡ Fails (fault.NoRecipient name.Privmsg)) × (of (codes "PRIVMSG :")
    ≡ Fails (fault.NoRecipient name.Privmsg)) × (of (codes "PRIVMSG bo") ≡ Fails fault.NoTextToSend)
    × (of (codes "PRIVMSG bo :") ≡ Fails fault.NoTextToSend) × (of (codes "PRIVMSG bo,#a :hi")
    ≡ Asks (topic.Talk (talk.Send verb.Privmsg (codes "bo" ∷ codes "#a" ∷ []) (Some (codes "hi")) [])))
    × (of (codes "@+k=v;l;+k PRIVMSG , hi")
    ≡ Asks (topic.Talk (talk.Send verb.Privmsg [] (Some (codes "hi")) (codes "+k"))))
unfolding asked_of reading parameters with_command command_of command_by known_name is_same fold_of counting_tags
    key_shape
    client_only_data is_utf8 chars encode
talking = (refl, refl, refl, refl, refl, refl)

more_talking : (read_of (codes "NOTICE") ≡ Asks (topic.Talk (talk.Send verb.Notice [] (Some []) [])))
    × (read_of (codes "NOTICE bo :") ≡ Asks (topic.Talk (talk.Send verb.Notice [] (Some []) [])))
    × (read_of (codes "NOTICE bo :hi")
    ≡ Asks (topic.Talk (talk.Send verb.Notice (codes "bo" ∷ []) (Some (codes "hi")) [])))
    × (read_of (codes "@+k=v TAGMSG") ≡ Fails (fault.NoRecipient name.Tagmsg))
    × (read_of (codes "@+k=v TAGMSG bo,bo")
    ≡ Asks (topic.Talk (talk.Send verb.Tagmsg (codes "bo" ∷ []) None (codes "+k=v"))))
    × (read_of (codes "AWAY") ≡ Asks (topic.Talk (talk.Away [])))
    × (read_of (codes "AWAY :back soon") ≡ Asks (topic.Talk (talk.Away (codes "back soon"))))
unfolding asked_of reading parameters with_command command_of command_by known_name is_same fold_of counting_tags
    key_shape
    client_only_data is_utf8 chars encode
more_talking = (refl, refl, refl, refl, refl, refl, refl)

queries : (read_of (codes "NAMES") ≡ Asks (topic.Query (query.Names None)))
    × (read_of (codes "NAMES :") ≡ Asks (topic.Query (query.Names (Some []))))
    × (read_of (codes "LIST #b,#a") ≡ Asks (topic.Query (query.List (Some (codes "#b" ∷ codes "#a" ∷ [])))))
    × (read_of (codes "WHO") ≡ Asks (topic.Query (query.Who None))) × (read_of (codes "WHOIS")
    ≡ Fails fault.NoNicknameGiven) × (read_of (codes "WHOIS al :") ≡ Fails fault.NoNicknameGiven)
    × (read_of (codes "WHOIS x al") ≡ Asks (topic.Query (query.Whois (codes "al"))))
    × (of (codes "MOTD :") ≡ Asks (topic.Query (query.Motd (Some []))))
unfolding asked_of reading parameters with_command command_of command_by known_name is_same fold_of
queries = (refl, refl, refl, refl, refl, refl, refl, refl)
