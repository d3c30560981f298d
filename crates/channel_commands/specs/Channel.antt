-- The commands about channels: how each is read, and what it does. RFC 2812, sections 3.2.1, 3.2.2, 3.2.4,
-- 3.2.7 and 3.2.8.
use Rattle.std.specs.Prelude.{ℕ, List, [], ◌∷◌, Result, Ok}
use Rattle.channel_commands.specs.declared.channel.ChannelCommand.{ChannelCommand}
use Rattle.channel_commands.specs.declared.channel.ChannelCommand.TheVariants.{Join, Part, Kick, Invite, Topic}
use Rattle.command_params.specs.declared.name.CommandName.TheVariants as name
use Rattle.command_params.specs.declared.fault.ReadFault.{ReadFault}
use Rattle.command_params.specs.Lists.{names_of, targets_of}
use Rattle.command_params.specs.Params.{first_or_empty, first_or_none, needs_more}
use Rattle.registration.specs.declared.settings.Settings.{Settings}
use Rattle.roster.specs.declared.deed.Deed.{Deed}
use Rattle.transactions.specs.declared.effect.Effect.{Effect}
use Rattle.channel_commands.specs.Joining.{joins}
use Rattle.channel_commands.specs.Leaving.{parts, kicks}
use Rattle.channel_commands.specs.Inviting.{invites}
use Rattle.channel_commands.specs.Topics.{topics}

abbrev pub join_command : List (List ℕ) → Result ChannelCommand ReadFault
join_command [] = needs_more name.Join
join_command (list ∷ ps) = Ok (Join (targets_of list (first_or_empty ps)))

abbrev pub part_command : List (List ℕ) → Result ChannelCommand ReadFault
part_command [] = needs_more name.Part
part_command (list ∷ ps) = Ok (Part (names_of list) (first_or_empty ps))

abbrev pub kick_command : List (List ℕ) → Result ChannelCommand ReadFault
kick_command (channel ∷ list ∷ ps) = Ok (Kick channel (names_of list) (first_or_empty ps))
kick_command ps = needs_more name.Kick

abbrev pub invite_command : List (List ℕ) → Result ChannelCommand ReadFault
invite_command (nick ∷ channel ∷ ps) = Ok (Invite nick channel)
invite_command ps = needs_more name.Invite

abbrev pub topic_command : List (List ℕ) → Result ChannelCommand ReadFault
topic_command [] = needs_more name.Topic
topic_command (channel ∷ ps) = Ok (Topic channel (first_or_none ps))

-- what a command about channels does
abbrev pub serves_channel : Settings → List Deed → ℕ → ChannelCommand → List Effect
serves_channel g fs s (Join targets) = joins g fs s targets
serves_channel g fs s (Part channels text) = parts g fs s channels text
serves_channel g fs s (Kick channel nicks text) = kicks g fs s channel nicks text
serves_channel g fs s (Invite nick channel) = invites g fs s nick channel
serves_channel g fs s (Topic channel text) = topics g fs s channel text
