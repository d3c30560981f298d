-- The commands that send texts: how each is read, and what it does. RFC 2812, sections 3.3.1, 3.3.2 and
-- 4.1, and IRCv3 message-tags.
use Rattle.std.specs.Prelude.{Bool, false, true, ℕ, ◌||◌, cond, List, [], ◌∷◌, Result, Ok, Err, Some, None}
use Rattle.message_tags.specs.Tags.{counting_tags}
use Rattle.message_tags.specs.ClientOnly.{client_only_data}
use Rattle.talk_commands.specs.declared.talk.TalkCommand.{TalkCommand}
use Rattle.talk_commands.specs.declared.talk.TalkCommand.TheVariants.{Send, Away}
use Rattle.command_params.specs.declared.name.CommandName.TheVariants as name
use Rattle.command_params.specs.declared.fault.ReadFault.{ReadFault}
use Rattle.command_params.specs.declared.fault.ReadFault.TheVariants.{NoRecipient, NoTextToSend}
use Rattle.line_grammar.specs.Parts.{is_empty}
use Rattle.command_params.specs.Lists.{names_of}
use Rattle.command_params.specs.Params.{first_or_empty}
use Rattle.registration.specs.declared.settings.Settings.{Settings}
use Rattle.roster.specs.declared.deed.Deed.{Deed}
use Rattle.transactions.specs.declared.effect.Effect.{Effect}
use Rattle.talk_commands.specs.declared.verb.Verb.TheVariants.{Privmsg, Notice, Tagmsg}
use Rattle.talk_commands.specs.Talking.{sends}
use Rattle.talk_commands.specs.Away.{goes_away}

-- the second parameter, which is empty where there is none
abbrev pub second_or_empty : List (List ℕ) → List ℕ
second_or_empty [] = []
second_or_empty (p ∷ ps) = first_or_empty ps

-- the tags that are passed on, of the tag data of a message
abbrev pub client_tags : List ℕ → List ℕ
client_tags tag_data = client_only_data (counting_tags tag_data)

abbrev pub privmsg_command : List ℕ → List (List ℕ) → Result TalkCommand ReadFault
privmsg_command tag_data ps =
    cond (is_empty (first_or_empty ps)) (Err (NoRecipient name.Privmsg))
    (cond (is_empty (second_or_empty ps)) (Err NoTextToSend)
    (Ok (Send Privmsg (names_of (first_or_empty ps)) (Some (second_or_empty ps)) (client_tags tag_data))))

-- never answered with a numeric: where PRIVMSG would be, it is for nobody
abbrev pub notice_command : List ℕ → List (List ℕ) → Result TalkCommand ReadFault
notice_command tag_data ps =
    cond (is_empty (first_or_empty ps) || is_empty (second_or_empty ps)) (Ok (Send Notice [] (Some []) []))
    (Ok (Send Notice (names_of (first_or_empty ps)) (Some (second_or_empty ps)) (client_tags tag_data)))

abbrev pub tagmsg_command : List ℕ → List (List ℕ) → Result TalkCommand ReadFault
tagmsg_command tag_data ps = cond (is_empty (first_or_empty ps)) (Err (NoRecipient name.Tagmsg))
    (Ok (Send Tagmsg (names_of (first_or_empty ps)) None (client_tags tag_data)))

abbrev pub away_command : List (List ℕ) → Result TalkCommand ReadFault
away_command ps = Ok (Away (first_or_empty ps))

-- what a command does that sends something
abbrev pub serves_talk : Settings → List Deed → ℕ → TalkCommand → List Effect
serves_talk g fs s (Send v targets text tags) = sends g fs s (record { verb = v; text = text; tags = tags }) targets
serves_talk g fs s (Away text) = goes_away g fs s text

-- whether nothing answers a command in any case
abbrev pub is_unanswered : TalkCommand → Bool
is_unanswered (Send Privmsg targets text tags) = false
is_unanswered (Send Notice targets text tags) = true
is_unanswered (Send Tagmsg targets text tags) = false
is_unanswered (Away text) = false
