-- What a message asks for, by its topic: RFC 2812, section 3, IRCv3 Capability Negotiation, SASL 3.1 and
-- message-tags. Each command's checks stand in the order in which they are made.
use Rattle.std.specs.Prelude.{Option, Some, None, Result, Ok, Err}
use Rattle.line_grammar.specs.declared.message.Message.{Message}
use Rattle.command_params.specs.declared.name.CommandName.{CommandName}
use Rattle.command_params.specs.declared.name.CommandName.TheVariants as name
use Rattle.command_params.specs.declared.fault.ReadFault.{ReadFault}
use Rattle.command_params.specs.declared.fault.ReadFault.TheVariants.{UnknownCommand}
use Rattle.command_params.specs.Names.{known_name}
use Rattle.commands.specs.declared.command.Command.{Command}
use Rattle.commands.specs.declared.command.Command.TheVariants.{Session, Channel, Mode, Talk, Query}
use Rattle.session_commands.specs.Session.{authenticate_command, cap_command, nick_command, pass_command, ping_command}
use Rattle.session_commands.specs.Session.{pong_command, quit_command, user_command}
use Rattle.channel_commands.specs.Channel.{invite_command, join_command, kick_command, part_command, topic_command}
use Rattle.mode_commands.specs.Modes.{mode_command}
use Rattle.talk_commands.specs.Talk.{away_command, notice_command, privmsg_command, tagmsg_command}
use Rattle.query_commands.specs.Listing.{list_query}
use Rattle.query_commands.specs.Motd.{motd_query}
use Rattle.query_commands.specs.Names.{names_query}
use Rattle.query_commands.specs.Who.{who_query}
use Rattle.query_commands.specs.Whois.{whois_query}

-- a command of a topic, or the fault of its shape
abbrev pub as_topic : {K : Type 0} → (K → Command) → Result K ReadFault → Result Command ReadFault
as_topic topic (Ok command) = Ok (topic command)
as_topic topic (Err fault) = Err fault

-- what a command asks for by its message
unfoldable pub command_by : CommandName → Message → Result Command ReadFault
command_by name.Quit m = as_topic Session (quit_command m.params)
command_by name.Ping m = as_topic Session (ping_command m.params)
command_by name.Pong m = as_topic Session (pong_command m.params)
command_by name.Privmsg m = as_topic Talk (privmsg_command m.tags m.params)
command_by name.Notice m = as_topic Talk (notice_command m.tags m.params)
command_by name.Tagmsg m = as_topic Talk (tagmsg_command m.tags m.params)
command_by name.Away m = as_topic Talk (away_command m.params)
command_by name.Join m = as_topic Channel (join_command m.params)
command_by name.Part m = as_topic Channel (part_command m.params)
command_by name.Kick m = as_topic Channel (kick_command m.params)
command_by name.Invite m = as_topic Channel (invite_command m.params)
command_by name.Topic m = as_topic Channel (topic_command m.params)
command_by name.Mode m = as_topic Mode (mode_command m.params)
command_by name.Names m = as_topic Query (names_query m.params)
command_by name.List m = as_topic Query (list_query m.params)
command_by name.Who m = as_topic Query (who_query m.params)
command_by name.Whois m = as_topic Query (whois_query m.params)
command_by name.Motd m = as_topic Query (motd_query m.params)
command_by name.Cap m = as_topic Session (cap_command m.params)
command_by name.Authenticate m = as_topic Session (authenticate_command m.params)
command_by name.Pass m = as_topic Session (pass_command m.params)
command_by name.Nick m = as_topic Session (nick_command m.params)
command_by name.User m = as_topic Session (user_command m.params)

abbrev pub by_name : Option CommandName → Message → Result Command ReadFault
by_name None m = Err (UnknownCommand m.command)
by_name (Some c) m = command_by c m

unfoldable pub command_of : Message → Result Command ReadFault
command_of m = by_name (known_name m.command) m
