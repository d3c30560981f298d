-- What a clean message asks for is clean.
use Rattle.std.proofs.Common.{◌≡◌, Option, Some, None, Result, Ok, Err, refl, subst}
use Rattle.line_grammar.specs.declared.message.Message.{Message}
use Rattle.command_params.specs.declared.name.CommandName.{CommandName}
use Rattle.command_params.specs.declared.name.CommandName.TheVariants as name
use Rattle.command_params.specs.declared.fault.ReadFault.{ReadFault}
use Rattle.command_params.specs.Names.{name_text, known_name}
use Rattle.commands.specs.Commands.{as_topic, by_name, command_by, command_of}
use Rattle.commands.specs.declared.command.Command.{Command}
use Rattle.commands.specs.declared.command.Command.TheVariants.{Session, Channel, Mode, Talk, Query}
use Rattle.answer_octets.specs.Clean.{HasText}
use Rattle.clean_records.specs.Clean.{IsText}
use Rattle.clean_records.specs.Laws.{ChannelCommandsAreClean, ModeCommandsAreClean, QueriesAreClean}
use Rattle.clean_records.specs.Laws.{SessionCommandsAreClean, TalkCommandsAreClean}
use Rattle.clean_records.proofs.Asking.{IsCleanRead, command-text, first-if_any, first-text}
use Rattle.clean_records.proofs.Channels.{IsCleanChannel, of_channel, reads_invite, reads_join, reads_kick}
use Rattle.clean_records.proofs.Channels.{reads_part, reads_topic}
use Rattle.clean_records.proofs.Effects.{clean-effects, facts-of}
use Rattle.clean_records.proofs.Modes.{IsCleanModes, of_mode, reads_mode}
use Rattle.clean_records.proofs.Queries.{IsCleanQuery, list-texts, of_query, reads_whois}
use Rattle.clean_records.proofs.Sessions.{IsCleanSession, of_session, reads_authenticate, reads_cap_of, reads_nick}
use Rattle.clean_records.proofs.Sessions.{reads_pass, reads_ping, reads_user_of}
use Rattle.clean_records.proofs.Talks.{IsCleanCommand as IsCleanTalk, of_talk, reads_notice, reads_privmsg}
use Rattle.clean_records.proofs.Talks.{reads_tagmsg}

pub name-is_text : (c : CommandName) → IsText (name_text c)
name-is_text name.Quit = refl
name-is_text _ = refl

abbrev pub IsCleanCommand : Command → Type 0
IsCleanCommand (Session k) = IsCleanSession k
IsCleanCommand (Channel k) = IsCleanChannel k
IsCleanCommand (Mode k) = IsCleanModes k
IsCleanCommand (Talk k) = IsCleanTalk k
IsCleanCommand (Query q) = IsCleanQuery q

abbrev pub IsReadCommand : Result Command ReadFault → Type 0
IsReadCommand read = IsCleanRead IsCleanCommand read

-- ---- each command, by its topic

as-topic : {K : Type 0} (P : K → Type 0) (topic : K → Command) (read : Result K ReadFault)
    → ((k : K) → P k → IsCleanCommand (topic k)) → IsCleanRead P read → IsReadCommand (as_topic topic read)
as-topic P topic (Ok k) f is = f k is
as-topic P topic (Err fault) f is = is

command-by : (c : CommandName) (m : Message) → HasText m → IsReadCommand (command_by c m)
unfolding command_by
command-by name.Quit m text = first-text m.params text.params
command-by name.Ping m text = as-topic IsCleanSession Session _ (λ k is. is) (reads_ping m.params text.params)
command-by name.Pong m text = tt
command-by name.Cap m text = as-topic IsCleanSession Session _ (λ k is. is) (reads_cap_of m.params text.params)
command-by name.Authenticate m text = as-topic IsCleanSession Session _ (λ k is. is) (reads_authenticate m.params)
command-by name.Pass m text = as-topic IsCleanSession Session _ (λ k is. is) (reads_pass m.params)
command-by name.Nick m text = as-topic IsCleanSession Session _ (λ k is. is) (reads_nick m.params text.params)
command-by name.User m text = as-topic IsCleanSession Session _ (λ k is. is) (reads_user_of m.params text.params)
command-by name.Join m text = as-topic IsCleanChannel Channel _ (λ k is. is) (reads_join m.params text.params)
command-by name.Part m text = as-topic IsCleanChannel Channel _ (λ k is. is) (reads_part m.params text.params)
command-by name.Kick m text = as-topic IsCleanChannel Channel _ (λ k is. is) (reads_kick m.params text.params)
command-by name.Invite m text = as-topic IsCleanChannel Channel _ (λ k is. is) (reads_invite m.params text.params)
command-by name.Topic m text = as-topic IsCleanChannel Channel _ (λ k is. is) (reads_topic m.params text.params)
command-by name.Mode m text = as-topic IsCleanModes Mode _ (λ k is. is) (reads_mode m.params text.params)
command-by name.Privmsg m text =
    as-topic IsCleanTalk Talk _ (λ k is. is) (reads_privmsg m.tags m.params text.tags text.params)
command-by name.Notice m text =
    as-topic IsCleanTalk Talk _ (λ k is. is) (reads_notice m.tags m.params text.tags text.params)
command-by name.Tagmsg m text =
    as-topic IsCleanTalk Talk _ (λ k is. is) (reads_tagmsg m.tags m.params text.tags text.params)
command-by name.Away m text = first-text m.params text.params
command-by name.Names m text = list-texts m.params text.params
command-by name.List m text = tt
command-by name.Who m text = first-if_any m.params text.params
command-by name.Whois m text = as-topic IsCleanQuery Query _ (λ k is. is) (reads_whois m.params text.params)
command-by name.Motd m text = first-if_any m.params text.params

by-name : (o : Option CommandName) (m : Message) → HasText m → IsReadCommand (by_name o m)
by-name None m text = command-text m.command text.command
by-name (Some c) m text = command-by c m text

pub command-read : (m : Message) → HasText m → IsReadCommand (command_of m)
unfolding command_of
command-read m text = by-name (known_name m.command) m text

-- ---- the laws of the topics

was-read : (m : Message) (k : Command) → HasText m → command_of m ≡ Ok k → IsCleanCommand k
was-read m k text e = subst IsReadCommand e (command-read m text)

pub session-commands : SessionCommandsAreClean
session-commands g fs s k m serves are text read = clean-effects _
    (of_session g fs s k serves (facts-of fs are) (was-read m (Session k) text read))

pub channel-commands : ChannelCommandsAreClean
channel-commands g fs s k m serves are text read = clean-effects _
    (of_channel g fs s k serves (facts-of fs are) (was-read m (Channel k) text read))

pub mode-commands : ModeCommandsAreClean
mode-commands g fs s k m serves are text read = clean-effects _
    (of_mode g fs s k serves (facts-of fs are) (was-read m (Mode k) text read))

pub talk-commands : TalkCommandsAreClean
talk-commands g fs s k m serves are text read = clean-effects _
    (of_talk g fs s k serves (facts-of fs are) (was-read m (Talk k) text read))

pub query-commands : QueriesAreClean
query-commands g fs s q m serves are text read = clean-effects _
    (of_query g fs s q serves (facts-of fs are) (was-read m (Query q) text read))
