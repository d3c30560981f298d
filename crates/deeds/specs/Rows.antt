-- What each command does, by the facts before it: RFC 2812, section 3.
use Rattle.std.specs.Prelude.{ℕ, Bool, true, false, not, ◌&&◌, List, [], ◌∷◌, ◌++◌, Option, Some, None, if◌then◌else◌}
use Rattle.numerics.specs.declared.numeric.Numeric.{Numeric}
use Rattle.numerics.specs.declared.numeric.Numeric.TheVariants as numeric
use Rattle.registration.specs.declared.settings.Settings.{Settings}
use Rattle.roster.specs.declared.deed.Deed.{Deed}
use Rattle.roster.specs.LookBack.{after, registered}
use Rattle.commands.specs.declared.asked.Asked.{Asked}
use Rattle.commands.specs.declared.asked.Asked.TheVariants.{Nothing, TooLong, Command as Asks, Fault as Fails}
use Rattle.commands.specs.declared.command.Command.{Command}
use Rattle.commands.specs.declared.command.Command.TheVariants.{Session, Channel, Mode, Talk, Query}
use Rattle.command_params.specs.Names.{name_text}
use Rattle.command_params.specs.declared.fault.ReadFault.{ReadFault}
use Rattle.command_params.specs.declared.fault.ReadFault.TheVariants.{UnknownCommand, NeedMoreParams}
use Rattle.command_params.specs.declared.fault.ReadFault.TheVariants.{NoNicknameGiven, NoRecipient, NoTextToSend}
use Rattle.command_params.specs.declared.fault.ReadFault.TheVariants.{NoOrigin, InvalidCapSubcommand, Memory}
use Rattle.transactions.specs.declared.effect.Effect.{Effect}
use Rattle.transactions.specs.Effects.{deeds_of}
use Rattle.transactions.specs.Replies.{tells}
use Rattle.commands.specs.Registration.{if_ready}
use Rattle.commands.specs.Session.{serves_session}
use Rattle.commands.specs.Query.{queries}
use Rattle.commands.specs.Channel.{serves_channel}
use Rattle.commands.specs.Modes.{serves_mode}
use Rattle.commands.specs.Talk.{is_unanswered, serves_talk}

-- what a command of a session does by itself
abbrev pub by_itself : Settings → List Deed → ℕ → Command → List Effect
by_itself g fs s (Session k) = serves_session g fs s k
by_itself g fs s (Channel k) = serves_channel g fs s k
by_itself g fs s (Mode k) = serves_mode g fs s k
by_itself g fs s (Talk k) = serves_talk g fs s k
by_itself g fs s (Query k) = queries g fs s k

-- whether a command is for those alone who are registered
abbrev pub is_for_registered : Command → Bool
is_for_registered (Session k) = false
is_for_registered (Channel k) = true
is_for_registered (Mode k) = true
is_for_registered (Talk k) = true
is_for_registered (Query k) = true

abbrev pub is_silent : Command → Bool
is_silent (Session k) = false
is_silent (Channel k) = false
is_silent (Mode k) = false
is_silent (Talk k) = is_unanswered k
is_silent (Query k) = false

-- who isn't registered is told so, but not after NOTICE
abbrev pub turned_away : Settings → List Deed → ℕ → Command → List Effect
turned_away g fs s k = if is_silent k then [] else tells g fs s numeric.NotRegistered ∷ []

abbrev pub if_allowed : Settings → List Deed → ℕ → Command → List Effect
if_allowed g fs s k = if is_for_registered k && not (registered fs s) then turned_away g fs s k else by_itself g fs s k

-- and then the session is registered, if it is complete by it
abbrev pub of_command : Settings → List Deed → ℕ → Command → List Effect
of_command g fs s k = if_allowed g fs s k ++ if_ready g (after fs (deeds_of (if_allowed g fs s k))) s

-- the numeric that answers a message which asks for nothing that can be done
abbrev pub fault_numeric : ReadFault → Option Numeric
fault_numeric (UnknownCommand name) = Some (numeric.UnknownCommand name)
fault_numeric (NeedMoreParams command) = Some (numeric.NeedMoreParams (name_text command))
fault_numeric NoNicknameGiven = Some numeric.NoNicknameGiven
fault_numeric (NoRecipient command) = Some (numeric.NoRecipient (name_text command))
fault_numeric NoTextToSend = Some numeric.NoTextToSend
fault_numeric NoOrigin = Some numeric.NoOrigin
fault_numeric (InvalidCapSubcommand subcommand) = Some (numeric.InvalidCapCmd subcommand)
fault_numeric Memory = None

abbrev pub tells_fault : Settings → List Deed → ℕ → Option Numeric → List Effect
tells_fault g fs s None = []
tells_fault g fs s (Some n) = tells g fs s n ∷ []

-- what a line of a session does
abbrev pub of_asked : Settings → List Deed → ℕ → Asked → List Effect
of_asked g fs s Nothing = []
of_asked g fs s TooLong = tells g fs s numeric.InputTooLong ∷ []
of_asked g fs s (Asks k) = of_command g fs s k
of_asked g fs s (Fails f) = tells_fault g fs s (fault_numeric f)
