-- Every line that a record makes is clean: this project's own promise.
use Rattle.std.specs.Prelude.{◌≡◌, ℕ, ◌<◌, ◌^◌, ℤ, true, List, map, Some, Ok}
use Rattle.std.specs.List.{list_all}
use Rattle.line_grammar.specs.declared.message.Message.{Message}
use Rattle.line_grammar.specs.Spelling.{is_text_octet}
use Rattle.chronicle.specs.declared.record.Kind.{Kind}
use Rattle.chronicle.specs.History.{Rec, actor}
use Rattle.registration.specs.declared.settings.Settings.{Settings}
use Rattle.roster.specs.declared.deed.Deed.{Deed}
use Rattle.roster.specs.LookBack.{caps}
use Rattle.transactions.specs.Effects.{copies, reply}
use Rattle.session_commands.specs.declared.session.SessionCommand.{SessionCommand}
use Rattle.session_commands.specs.Registration.{if_ready}
use Rattle.session_commands.specs.Session.{serves_session}
use Rattle.channel_commands.specs.declared.channel.ChannelCommand.{ChannelCommand}
use Rattle.channel_commands.specs.Channel.{serves_channel}
use Rattle.mode_commands.specs.declared.modes.ModeCommand.{ModeCommand}
use Rattle.mode_commands.specs.Modes.{serves_mode}
use Rattle.talk_commands.specs.declared.talk.TalkCommand.{TalkCommand}
use Rattle.talk_commands.specs.Talk.{serves_talk}
use Rattle.query_commands.specs.declared.query.Query.{Query}
use Rattle.query_commands.specs.Query.{queries}
use Rattle.commands.specs.Commands.{command_of}
use Rattle.commands.specs.declared.command.Command.TheVariants.{Session, Channel, Mode, Talk, Query as Asks}
use Rattle.deeds.specs.Deeds.{effects, facts, label_in, lines, text}
use Rattle.deeds.specs.Ping.{ping_line}
use Rattle.answer_octets.specs.Clean.{HasText, IsClean, IsCleanAnswer, IsMoment}
use Rattle.answer_octets.specs.Laws.{line_of}
use Rattle.answer_octets.specs.TextLines.{text_lines}
use Rattle.clean_records.specs.Clean.{AreClean, AreCleanEffects, AreCleanLines, IsCleanHistory, IsCleanKind}
use Rattle.clean_records.specs.Clean.{IsServing, is_own}

-- the records that are the program's own
abbrev pub OwnRecordsAreClean : Type 0
OwnRecordsAreClean = (g : Settings) (fs : List Deed) (k : Kind) → AreClean fs → is_own k ≡ true → IsCleanKind k
    → AreCleanEffects (effects g fs k)

-- ---- commands, each read of a clean message

abbrev pub SessionCommandsAreClean : Type 0
SessionCommandsAreClean = (g : Settings) (fs : List Deed) (s : ℕ) (k : SessionCommand) (m : Message) → IsServing g
    → AreClean fs → HasText m → command_of m ≡ Ok (Session k)
    → AreCleanEffects (serves_session g fs s k)

-- and the welcome that follows where a session is complete
abbrev pub WelcomesAreClean : Type 0
WelcomesAreClean = (g : Settings) (fs : List Deed) (s : ℕ) → IsServing g → AreClean fs
    → AreCleanEffects (if_ready g fs s)

abbrev pub TalkCommandsAreClean : Type 0
TalkCommandsAreClean = (g : Settings) (fs : List Deed) (s : ℕ) (k : TalkCommand) (m : Message) → IsServing g
    → AreClean fs → HasText m → command_of m ≡ Ok (Talk k)
    → AreCleanEffects (serves_talk g fs s k)

abbrev pub ChannelCommandsAreClean : Type 0
ChannelCommandsAreClean = (g : Settings) (fs : List Deed) (s : ℕ) (k : ChannelCommand) (m : Message) → IsServing g
    → AreClean fs → HasText m → command_of m ≡ Ok (Channel k)
    → AreCleanEffects (serves_channel g fs s k)

abbrev pub ModeCommandsAreClean : Type 0
ModeCommandsAreClean = (g : Settings) (fs : List Deed) (s : ℕ) (k : ModeCommand) (m : Message) → IsServing g
    → AreClean fs → HasText m → command_of m ≡ Ok (Mode k) → AreCleanEffects (serves_mode g fs s k)

abbrev pub QueriesAreClean : Type 0
QueriesAreClean = (g : Settings) (fs : List Deed) (s : ℕ) (q : Query) (m : Message) → IsServing g → AreClean fs
    → HasText m → command_of m ≡ Ok (Asks q) → AreCleanEffects (queries g fs s q)

-- ---- any record, and any history

-- whoever is refused or turned away is told so in clean lines, too
abbrev pub RecordsAreClean : Type 0
RecordsAreClean = (g : Settings) (fs : List Deed) (k : Kind) → IsServing g → AreClean fs → IsCleanKind k
    → AreCleanEffects (effects g fs k)

abbrev pub FactsAreClean : Type 0
FactsAreClean = (g : Settings) (h : List Rec) → IsServing g → IsCleanHistory h → AreClean (facts g h)

-- the lines of the record that comes next, to its own session and to each other
abbrev pub LinesAreClean : Type 0
LinesAreClean = (g : Settings) (h : List Rec) (k : Kind) → IsServing g → IsCleanHistory h → IsCleanKind k
    → AreCleanLines (effects g (facts g h) k)

-- what a tick asks a session that is idle
abbrev pub PingIsClean : Type 0
PingIsClean = (g : Settings) → IsServing g → IsClean (ping_line g.server)

-- ---- and so, as octets

-- the answer to a line with a label that counts meets what the laws of whole answers ask for
abbrev pub AnswersAreClean : Type 0
AnswersAreClean = (g : Settings) (h : List Rec) (k : Kind) (m : ℤ) (n : ℕ) (label : List ℕ) → IsServing g
    → IsCleanHistory h → IsCleanKind k → IsMoment m → n < 2 ^ 64 → label_in (facts g h) k ≡ Some label
    → IsCleanAnswer m g.server label n (reply (actor k) (effects g (facts g h) k)) (copies (effects g (facts g h) k))

-- the text of a record to a session is cut into its lines again, and none of them has a NUL, a CR or an LF
abbrev pub TextsAreCut : Type 0
TextsAreCut = (g : Settings) (h : List Rec) (k : Kind) (m : ℤ) (n t : ℕ) → IsServing g → IsCleanHistory h
    → IsCleanKind k → IsMoment m → n < 2 ^ 64
    → (text_lines (text g (facts g h) k m n t) ≡ map (line_of (caps (facts g h) t) m)
    (lines g (actor k) (label_in (facts g h) k) (effects g (facts g h) k) n t))
    × (list_all (list_all is_text_octet) (text_lines (text g (facts g h) k m n t)) ≡ true)
