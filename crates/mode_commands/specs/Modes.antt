-- MODE: how it is read, and what it does. RFC 2812, sections 3.1.5 and 3.2.3.
use Rattle.std.specs.Prelude.{ℕ, ◌==◌, List, [], ◌∷◌}
use Rattle.std.specs.Prelude.{Result, Ok, Option, Some, None, if◌then◌else◌}
use Rattle.command_params.specs.declared.name.CommandName.TheVariants.{Mode}
use Rattle.command_params.specs.declared.fault.ReadFault.{ReadFault}
use Rattle.command_params.specs.Params.{needs_more}
use Rattle.numerics.specs.declared.numeric.Numeric.TheVariants.{NoSuchNick, NoSuchChannel, UsersDontMatch}
use Rattle.registration.specs.declared.settings.Settings.{Settings}
use Rattle.roster.specs.declared.deed.Deed.{Deed}
use Rattle.roster.specs.LookBack.{user_named}
use Rattle.transactions.specs.declared.effect.Effect.{Effect}
use Rattle.transactions.specs.Replies.{tells}
use Rattle.transactions.specs.Seen.{Seen, seen}
pub use Rattle.transactions.specs.Targets.{names_channel}
use Rattle.mode_commands.specs.declared.modes.ModeCommand.{ModeCommand}
use Rattle.mode_commands.specs.ChannelModes.{channel_modes}
use Rattle.mode_commands.specs.UserModes.{own_modes}

abbrev pub mode_command : List (List ℕ) → Result ModeCommand ReadFault
mode_command [] = needs_more Mode
mode_command (target ∷ ps) = Ok (record { target = target; changes = ps })

abbrev pub of_channel : Settings → List Deed → ℕ → List ℕ → List (List ℕ) → Option Seen → List Effect
of_channel g fs s target changes None = tells g fs s (NoSuchChannel target) ∷ []
of_channel g fs s target changes (Some k) = channel_modes g fs s k changes

-- a session sees and changes no modes of others
abbrev pub of_user : Settings → List Deed → ℕ → List ℕ → List (List ℕ) → Option ℕ → List Effect
of_user g fs s target changes None = tells g fs s (NoSuchNick target) ∷ []
of_user g fs s target changes (Some t) = if t == s then own_modes g fs s changes else tells g fs s UsersDontMatch ∷ []

abbrev pub modes : Settings → List Deed → ℕ → List ℕ → List (List ℕ) → List Effect
modes g fs s target changes = if names_channel target then of_channel g fs s target changes (seen fs target)
    else of_user g fs s target changes (user_named fs target)

-- what a command about modes does
abbrev pub serves_mode : Settings → List Deed → ℕ → ModeCommand → List Effect
serves_mode g fs s k = modes g fs s k.target k.changes
