-- The names of what is asked for: RFC 2812, section 3.
use Rattle.std.specs.Prelude.{◌≡◌, Result, Ok, Err}
use Rattle.line_grammar.specs.declared.message.Message.{Message}
use Rattle.command_params.specs.declared.name.CommandName.{CommandName}
use Rattle.command_params.specs.declared.name.CommandName.TheVariants as name
use Rattle.command_params.specs.declared.fault.ReadFault.{ReadFault}
use Rattle.session_commands.specs.declared.session.SessionCommand.{SessionCommand}
use Rattle.session_commands.specs.declared.session.SessionCommand.TheVariants as session
use Rattle.channel_commands.specs.declared.channel.ChannelCommand.{ChannelCommand}
use Rattle.channel_commands.specs.declared.channel.ChannelCommand.TheVariants as channel
use Rattle.talk_commands.specs.declared.talk.TalkCommand.{TalkCommand}
use Rattle.talk_commands.specs.declared.talk.TalkCommand.TheVariants as talk
use Rattle.talk_commands.specs.Lines.{verb_name}
use Rattle.query_commands.specs.declared.query.Query.{Query}
use Rattle.query_commands.specs.declared.query.Query.TheVariants as query
use Rattle.commands.specs.declared.command.Command.{Command}
use Rattle.commands.specs.declared.command.Command.TheVariants.{Session, Channel, Mode, Talk, Query as Queries}
use Rattle.commands.specs.Commands.{command_by}

abbrev pub session_name : SessionCommand → CommandName
session_name (session.Quit text) = name.Quit
session_name (session.Cap subcommand) = name.Cap
session_name (session.Authenticate piece) = name.Authenticate
session_name session.Pass = name.Pass
session_name (session.Nick nick) = name.Nick
session_name (session.User user real) = name.User
session_name (session.Ping token) = name.Ping
session_name session.Pong = name.Pong

abbrev pub channel_name : ChannelCommand → CommandName
channel_name (channel.Join targets) = name.Join
channel_name (channel.Part channels text) = name.Part
channel_name (channel.Kick channel nicks text) = name.Kick
channel_name (channel.Invite nick channel) = name.Invite
channel_name (channel.Topic channel text) = name.Topic

abbrev pub talk_name : TalkCommand → CommandName
talk_name (talk.Send verb targets text tags) = verb_name verb
talk_name (talk.Away text) = name.Away

abbrev pub query_name : Query → CommandName
query_name (query.Names channels) = name.Names
query_name (query.List channels) = name.List
query_name (query.Who asked) = name.Who
query_name (query.Whois nick) = name.Whois
query_name (query.Motd server) = name.Motd

abbrev pub name_of : Command → CommandName
name_of (Session k) = session_name k
name_of (Channel k) = channel_name k
name_of (Mode k) = name.Mode
name_of (Talk k) = talk_name k
name_of (Queries q) = query_name q

-- what was read has this name
abbrev pub HasName : CommandName → Result Command ReadFault → Type 0
HasName c (Ok k) = name_of k ≡ c
HasName c (Err fault) = Unit {0}

-- none is read by another's name
abbrev pub NoneIsMisnamed : Type 0
NoneIsMisnamed = (c : CommandName) (m : Message) → HasName c (command_by c m)
