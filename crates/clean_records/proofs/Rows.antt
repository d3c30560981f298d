-- What any record does: a line of a client's is read, and what it asks for is done by its topic.
use Rattle.std.proofs.Common.{◌≡◌, ℕ, true, not, ◌&&◌, List, [], ◌∷◌, ◌++◌, codes, Option, Some, None}
use Rattle.std.proofs.Common.{Result, Ok, Err, refl}
use Rattle.chronicle.specs.declared.record.Kind.{Kind}
use Rattle.chronicle.specs.declared.record.Kind.TheVariants as kind
use Rattle.line_grammar.specs.declared.message.Message.{Message}
use Rattle.line_grammar.specs.declared.splitter.Piece.{Piece}
use Rattle.line_grammar.specs.declared.splitter.Piece.TheVariants as piece
use Rattle.line_grammar.specs.Reading.{reading}
use Rattle.numerics.specs.declared.numeric.Numeric.TheVariants as numeric
use Rattle.registration.specs.declared.settings.Settings.{Settings}
use Rattle.roster.specs.declared.deed.Deed.{Deed}
use Rattle.roster.specs.LookBack.{after, registered}
use Rattle.transactions.specs.Effects.{deeds_of}
use Rattle.transactions.specs.Replies.{tells}
use Rattle.command_params.specs.Names.{name_text}
use Rattle.command_params.specs.declared.fault.ReadFault.{ReadFault}
use Rattle.command_params.specs.declared.fault.ReadFault.TheVariants.{UnknownCommand, NeedMoreParams}
use Rattle.command_params.specs.declared.fault.ReadFault.TheVariants.{NoNicknameGiven, NoRecipient, NoTextToSend}
use Rattle.command_params.specs.declared.fault.ReadFault.TheVariants.{NoOrigin, InvalidCapSubcommand, Memory}
use Rattle.commands.specs.Asked.{asked_by, asked_of, read_as}
use Rattle.commands.specs.Commands.{command_of}
use Rattle.commands.specs.declared.asked.Asked.{Asked}
use Rattle.commands.specs.declared.asked.Asked.TheVariants.{Nothing, TooLong, Command as Asks, Fault as Fails}
use Rattle.commands.specs.declared.command.Command.{Command}
use Rattle.commands.specs.declared.command.Command.TheVariants.{Session, Channel, Mode, Talk, Query}
use Rattle.session_commands.specs.Registration.{if_ready}
use Rattle.deeds.specs.Deeds.{effects}
use Rattle.deeds.specs.Rows.{if_allowed, fault_numeric, is_for_registered, is_silent, of_asked, of_command}
use Rattle.deeds.specs.Rows.{tells_fault, by_itself}
use Rattle.deeds.specs.Rows.{turned_away}
use Rattle.answer_octets.specs.Clean.{is_one_line}
use Rattle.answer_octets.proofs.Pieces.{read-text}
use Rattle.clean_records.specs.Clean.{IsCleanKind, IsServing}
use Rattle.clean_records.specs.Laws.{RecordsAreClean}
use Rattle.clean_records.proofs.Asking.{IsCleanFault}
use Rattle.clean_records.proofs.Channels.{of_channel}
use Rattle.clean_records.proofs.Effects.{Clean, clean-effects, either, facts-of, joined, later, none}
use Rattle.clean_records.proofs.Effects.{told_only}
use Rattle.clean_records.proofs.Lookups.{Facts}
use Rattle.clean_records.proofs.Modes.{of_mode}
use Rattle.clean_records.proofs.Own.{own}
use Rattle.clean_records.proofs.Queries.{of_query}
use Rattle.clean_records.proofs.Reading.{IsCleanCommand, IsReadCommand, command-read, name-is_text}
use Rattle.clean_records.proofs.Sessions.{completing, of_session}
use Rattle.clean_records.proofs.Talks.{of_talk}
use Rattle.clean_records.proofs.Texts.{both, one}

-- ---- what is read

abbrev IsCleanAsked : Asked → Type 0
IsCleanAsked Nothing = Unit {0}
IsCleanAsked TooLong = Unit {0}
IsCleanAsked (Asks k) = IsCleanCommand k
IsCleanAsked (Fails fault) = IsCleanFault fault

read-as : (read : Result Command ReadFault) → IsReadCommand read → IsCleanAsked (read_as read)
read-as (Ok k) is = is
read-as (Err fault) is = is

asked-clean : (line : List ℕ) (o : Option Message) → is_one_line (piece.Line line) ≡ true → reading line ≡ o
    → IsCleanAsked (asked_by o)
asked-clean line None is read = tt
asked-clean line (Some m) is read = read-as (command_of m) (command-read m (read-text line m is read))

piece-clean : (p : Piece) → is_one_line p ≡ true → IsCleanAsked (asked_of p)
unfolding asked_of
piece-clean piece.TooLong is = tt
piece-clean (piece.Line line) is = asked-clean line (reading line) is refl

-- ---- what is done

serving : (g : Settings) (fs : List Deed) (s : ℕ) (k : Command) → IsServing g → Facts fs → IsCleanCommand k
    → Clean (by_itself g fs s k)
serving g fs s (Session k) serves facts is = of_session g fs s k serves facts is
serving g fs s (Channel k) serves facts is = of_channel g fs s k serves facts is
serving g fs s (Mode k) serves facts is = of_mode g fs s k serves facts is
serving g fs s (Talk k) serves facts is = of_talk g fs s k serves facts is
serving g fs s (Query q) serves facts is = of_query g fs s q serves facts is

turning_away : (g : Settings) (fs : List Deed) (s : ℕ) (k : Command) → IsServing g → Facts fs
    → Clean (turned_away g fs s k)
turning_away g fs s k serves facts = either (is_silent k) [] (tells g fs s numeric.NotRegistered ∷ []) none
    (told_only g fs s numeric.NotRegistered serves facts (record { words = refl; text = refl }))

asking : (g : Settings) (fs : List Deed) (s : ℕ) (k : Command) → IsServing g → Facts fs → IsCleanCommand k
    → Clean (if_allowed g fs s k)
asking g fs s k serves facts is = either (is_for_registered k && not (registered fs s)) (turned_away g fs s k)
    (by_itself g fs s k) (turning_away g fs s k serves facts) (serving g fs s k serves facts is)

commanding : (g : Settings) (fs : List Deed) (s : ℕ) (k : Command) → IsServing g → Facts fs → IsCleanCommand k
    → Clean (of_command g fs s k)
commanding g fs s k serves facts is =
    let es = if_allowed g fs s k in let first = asking g fs s k serves facts is in
    joined es (if_ready g (after fs (deeds_of es)) s) first
    (completing g (after fs (deeds_of es)) s serves (later es fs first facts))

refusing : (g : Settings) (fs : List Deed) (s : ℕ) (fault : ReadFault) → IsServing g → Facts fs → IsCleanFault fault
    → Clean (tells_fault g fs s (fault_numeric fault))
refusing g fs s (UnknownCommand name) serves facts is =
    told_only g fs s (numeric.UnknownCommand name) serves facts (record { words = one name is; text = refl })
refusing g fs s (NeedMoreParams command) serves facts is =
    let name = name_text command in
    told_only g fs s (numeric.NeedMoreParams name) serves facts
    (record { words = one name (name-is_text command); text = refl })
refusing g fs s NoNicknameGiven serves facts is =
    told_only g fs s numeric.NoNicknameGiven serves facts (record { words = refl; text = refl })
refusing g fs s (NoRecipient command) serves facts is =
    let name = name_text command in
    told_only g fs s (numeric.NoRecipient name) serves facts
    (record { words = refl; text = both name (codes ")" ++ []) (name-is_text command) refl })
refusing g fs s NoTextToSend serves facts is =
    told_only g fs s numeric.NoTextToSend serves facts (record { words = refl; text = refl })
refusing g fs s NoOrigin serves facts is =
    told_only g fs s numeric.NoOrigin serves facts (record { words = refl; text = refl })
refusing g fs s (InvalidCapSubcommand sub) serves facts is =
    told_only g fs s (numeric.InvalidCapCmd sub) serves facts (record { words = one sub is; text = refl })
refusing g fs s Memory serves facts is = none

of_any : (g : Settings) (fs : List Deed) (s : ℕ) (a : Asked) → IsServing g → Facts fs → IsCleanAsked a
    → Clean (of_asked g fs s a)
of_any g fs s Nothing serves facts is = none
of_any g fs s TooLong serves facts is =
    told_only g fs s numeric.InputTooLong serves facts (record { words = refl; text = refl })
of_any g fs s (Asks k) serves facts is = commanding g fs s k serves facts is
of_any g fs s (Fails fault) serves facts is = refusing g fs s fault serves facts is

-- ---- any record

pub of_record : (g : Settings) (fs : List Deed) (k : Kind) → IsServing g → Facts fs → IsCleanKind k
    → Clean (effects g fs k)
of_record g fs (kind.Opened s host) serves facts is = own g fs (kind.Opened s host) facts refl is
of_record g fs (kind.Said s i p) serves facts is = of_any g fs s (asked_of p) serves facts (piece-clean p is)
of_record g fs (kind.Hung s why) serves facts is = own g fs (kind.Hung s why) facts refl is
of_record g fs (kind.Gone s) serves facts is = own g fs (kind.Gone s) facts refl is
of_record g fs kind.Ticked serves facts is = own g fs kind.Ticked facts refl is

pub records : RecordsAreClean
records g fs k serves are is = clean-effects (effects g fs k) (of_record g fs k serves (facts-of fs are) is)
