-- The lines that carry texts and tags: RFC 2812, sections 3.3.1 and 3.3.2, and IRCv3 message-tags (TAGMSG).
use Rattle.std.specs.Prelude.{ℕ, List, ◌∷◌, Option, is_some, option_to_list}
use Rattle.command_params.specs.declared.name.CommandName.{CommandName}
use Rattle.command_params.specs.declared.name.CommandName.TheVariants as name
use Rattle.command_params.specs.Names.{name_text}
use Rattle.numerics.specs.declared.outgoing.Out.{Out}
use Rattle.numerics.specs.Outgoing.{line}
use Rattle.talk_commands.specs.declared.verb.Verb.{Verb}
use Rattle.talk_commands.specs.declared.verb.Verb.TheVariants.{Privmsg, Notice, Tagmsg}

-- what is sent: TAGMSG has no text
pub record Sent : Type 0 where
  pub verb : Verb
  pub text : Option (List ℕ)
  -- those that are passed on, as tag data
  pub tags : List ℕ

abbrev pub verb_name : Verb → CommandName
verb_name Privmsg = name.Privmsg
verb_name Notice = name.Notice
verb_name Tagmsg = name.Tagmsg

abbrev pub verb_text : Verb → List ℕ
verb_text verb = name_text (verb_name verb)

abbrev pub sent_line : Sent → List ℕ → List ℕ → Out
sent_line b from target = record
    (line from (verb_text b.verb) (target ∷ option_to_list b.text) (is_some b.text)) { tags = b.tags }
