-- What an accepted piece asks for: RFC 2812, section 2.3.1. A line that is too long is told apart (IRCv3
-- message-tags); what is no message asks for nothing.
use Rattle.std.specs.Prelude.{Bool, true, false, Option, Some, None, Result, Ok, Err}
use Rattle.line_grammar.specs.declared.message.Message.{Message}
use Rattle.line_grammar.specs.declared.splitter.Piece.{Piece}
use Rattle.line_grammar.specs.declared.splitter.Piece.TheVariants as piece
use Rattle.line_grammar.specs.Reading.{reading}
use Rattle.commands.specs.declared.asked.Asked.{Asked}
use Rattle.commands.specs.declared.asked.Asked.TheVariants.{Nothing, TooLong, Command as Asks, Fault as Fails}
use Rattle.commands.specs.declared.command.Command.{Command}
use Rattle.commands.specs.declared.command.Command.TheVariants.{Session, Channel, Mode, Talk, Query}
use Rattle.session_commands.specs.declared.session.SessionCommand.{SessionCommand}
use Rattle.session_commands.specs.declared.session.SessionCommand.TheVariants.{Cap, Authenticate, Pass, Nick, User}
use Rattle.session_commands.specs.declared.session.SessionCommand.TheVariants.{Ping, Pong, Quit}
use Rattle.command_params.specs.declared.fault.ReadFault.{ReadFault}
use Rattle.commands.specs.Commands.{command_of}

abbrev pub read_as : Result Command ReadFault → Asked
read_as (Ok command) = Asks command
read_as (Err fault) = Fails fault

abbrev pub asked_by : Option Message → Asked
asked_by None = Nothing
asked_by (Some m) = read_as (command_of m)

-- the message of a piece, where it is one
abbrev pub message_of : Piece → Option Message
message_of piece.TooLong = None
message_of (piece.Line line) = reading line

unfoldable pub asked_of : Piece → Asked
asked_of piece.TooLong = TooLong
asked_of (piece.Line line) = asked_by (reading line)

-- whether a command is asked for, and no numeric answers in its place
abbrev pub asks_for_command : Asked → Bool
asks_for_command (Asks command) = true
asks_for_command asked = false

-- whether the command is QUIT
abbrev pub is_quit_of_session : SessionCommand → Bool
is_quit_of_session (Cap subcommand) = false
is_quit_of_session (Authenticate piece) = false
is_quit_of_session Pass = false
is_quit_of_session (Nick nick) = false
is_quit_of_session (User user real) = false
is_quit_of_session (Ping token) = false
is_quit_of_session Pong = false
is_quit_of_session (Quit text) = true

abbrev pub is_quit_command : Command → Bool
is_quit_command (Session command) = is_quit_of_session command
is_quit_command (Channel command) = false
is_quit_command (Mode command) = false
is_quit_command (Talk command) = false
is_quit_command (Query command) = false

abbrev pub asks_for_quit : Asked → Bool
asks_for_quit (Asks command) = is_quit_command command
asks_for_quit asked = false
