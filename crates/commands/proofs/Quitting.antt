-- A command asks to quit exactly where the piece does from which it is read.
use Rattle.std.proofs.Common.{◌≡◌, Bool, true, false, not, ◌&&◌, List, [], ◌∷◌, drop, codes}
use Rattle.std.proofs.Common.{Option, Some, None, Result, Ok, Err, refl, sym, ap, ◌∙◌, inl, inr}
use Rattle.std.specs.List.{find, list_all}
use Rattle.std.specs.Str.{str_eq_ignore_ascii_case}
use Rattle.std.proofs.lemmas.Bool.{cases_Bool}
use Rattle.line_grammar.specs.declared.message.Message.{Message}
use Rattle.line_grammar.specs.declared.splitter.Piece.{Piece}
use Rattle.line_grammar.specs.declared.splitter.Piece.TheVariants.{Line, TooLong}
use Rattle.line_grammar.specs.Reading.{reading}
use Rattle.chronicle.specs.History.{asks_to_quit, is_quit}
use Rattle.command_params.specs.declared.name.CommandName.{CommandName}
use Rattle.command_params.specs.declared.name.CommandName.TheVariants as name
use Rattle.command_params.specs.declared.fault.ReadFault.{ReadFault}
use Rattle.command_params.specs.Names.{all_names, name_text, known_name}
use Rattle.commands.specs.declared.command.Command.{Command}
use Rattle.commands.specs.declared.command.Command.TheVariants as topic
use Rattle.session_commands.specs.declared.session.SessionCommand.{SessionCommand}
use Rattle.session_commands.specs.declared.session.SessionCommand.TheVariants as session
use Rattle.channel_commands.specs.declared.channel.ChannelCommand.{ChannelCommand}
use Rattle.channel_commands.specs.declared.channel.ChannelCommand.TheVariants as channel
use Rattle.talk_commands.specs.declared.talk.TalkCommand.{TalkCommand}
use Rattle.talk_commands.specs.declared.talk.TalkCommand.TheVariants as talk
use Rattle.talk_commands.specs.declared.verb.Verb.{Verb}
use Rattle.talk_commands.specs.declared.verb.Verb.TheVariants as verb
use Rattle.talk_commands.specs.Lines.{verb_name}
use Rattle.query_commands.specs.declared.query.Query.{Query}
use Rattle.query_commands.specs.declared.query.Query.TheVariants as query
use Rattle.commands.specs.Asked.{read_as, asked_by, asked_of, asks_for_quit, is_quit_command, is_quit_of_session}
use Rattle.commands.specs.Commands.{by_name, command_by, command_of}
use Rattle.commands.specs.Named.{HasName, channel_name, name_of, query_name, session_name, talk_name}
use Rattle.commands.proofs.Named.{none-misnamed}

-- whether it was read as QUIT
abbrev is_quit_read : Result Command ReadFault → Bool
is_quit_read r = asks_for_quit (read_as r)

-- ---- only QUIT is named so

abbrev is_quit_name : CommandName → Bool
is_quit_name name.Quit = true
is_quit_name other = false

of_session : (k : SessionCommand) → is_quit_of_session k ≡ is_quit_name (session_name k)
of_session (session.Quit text) = refl
of_session _ = refl

of_channel : (k : ChannelCommand) → false ≡ is_quit_name (channel_name k)
of_channel (channel.Join targets) = refl
of_channel _ = refl

of_verb : (v : Verb) → false ≡ is_quit_name (verb_name v)
of_verb verb.Privmsg = refl
of_verb _ = refl

of_talk : (k : TalkCommand) → false ≡ is_quit_name (talk_name k)
of_talk (talk.Send v targets text tags) = of_verb v
of_talk (talk.Away text) = refl

of_query : (q : Query) → false ≡ is_quit_name (query_name q)
of_query (query.Names channels) = refl
of_query _ = refl

of_command : (k : Command) → is_quit_command k ≡ is_quit_name (name_of k)
of_command (topic.Session k) = of_session k
of_command (topic.Channel k) = of_channel k
of_command (topic.Mode k) = refl
of_command (topic.Talk k) = of_talk k
of_command (topic.Query q) = of_query q

-- what is read by another name doesn't quit
other_read : (c : CommandName) (r : Result Command ReadFault) → HasName c r → is_quit_name c ≡ false
    → is_quit_read r ≡ false
other_read c (Ok k) has e = of_command k ∙ ap is_quit_name has ∙ e
other_read c (Err fault) has e = refl

-- ---- a search among names

abbrev is_other : CommandName → Bool
is_other c = not (is_quit_name c)

not_other : (b : Bool) → not b ≡ true → b ≡ false
not_other true e = sym e
not_other false e = refl

first_true : (a b : Bool) → (a && b) ≡ true → a ≡ true
first_true true b e = refl
first_true false b e = e

second_true : (a b : Bool) → (a && b) ≡ true → b ≡ true
second_true true b e = e
second_true false b e = cc

-- among other names it never finds QUIT
none_found : (p : CommandName → Bool) (m : Message) (names : List CommandName) → list_all is_other names ≡ true
    → is_quit_read (by_name (find p names) m) ≡ false
none_found p m [] e = refl
none_found p m (c ∷ names) e =
    elim (cases_Bool (p c)) [
      | inl is ↦ rw is (other_read c (command_by c m) (none-misnamed c m)
          (not_other (is_quit_name c) (first_true (is_other c) (list_all is_other names) e)))
      | inr isnt ↦ rw isnt (none_found p m names (second_true (is_other c) (list_all is_other names) e))
    ]

found_first : (p : CommandName → Bool) (m : Message) (names : List CommandName) → list_all is_other names ≡ true
    → is_quit_read (by_name (find p (name.Quit ∷ names)) m) ≡ p name.Quit
unfolding command_by
found_first p m names e =
    elim (cases_Bool (p name.Quit)) [ inl is ↦ rw is refl | inr isnt ↦ rw isnt (none_found p m names e) ]

quit_read : (m : Message) → is_quit_read (command_of m) ≡ str_eq_ignore_ascii_case m.command (codes "QUIT")
unfolding command_of known_name
quit_read m = found_first (λ known. str_eq_ignore_ascii_case m.command (name_text known)) m (drop 1 all_names) refl

of_message : (m : Option Message) → asks_for_quit (asked_by m) ≡ asks_to_quit m
of_message None = refl
of_message (Some m) = quit_read m

pub quit_is : (piece : Piece) → asks_for_quit (asked_of piece) ≡ is_quit piece
unfolding asked_of is_quit
quit_is TooLong = refl
quit_is (Line line) = of_message (reading line)
