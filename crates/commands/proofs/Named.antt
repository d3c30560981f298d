-- What is read by a name has it.
use Rattle.std.proofs.Common.{ℕ, Bool, true, false, cond, ◌||◌, List, [], ◌∷◌, codes, Result, refl}
use Rattle.std.specs.Str.{str_eq_ignore_ascii_case}
use Rattle.line_grammar.specs.Parts.{is_empty}
use Rattle.command_params.specs.declared.name.CommandName.{CommandName}
use Rattle.command_params.specs.declared.name.CommandName.TheVariants as name
use Rattle.command_params.specs.declared.fault.ReadFault.{ReadFault}
use Rattle.command_params.specs.Params.{first_or_empty}
use Rattle.commands.specs.declared.command.Command.{Command}
use Rattle.commands.specs.declared.command.Command.TheVariants.{Session, Channel, Mode, Talk, Query}
use Rattle.session_commands.specs.Session.{authenticate_command, cap_command, cap_req, pass_command}
use Rattle.session_commands.specs.Session.{user_command, user_name}
use Rattle.channel_commands.specs.Channel.{invite_command, join_command, kick_command, part_command, topic_command}
use Rattle.mode_commands.specs.Modes.{mode_command}
use Rattle.talk_commands.specs.Talk.{second_or_empty}
use Rattle.query_commands.specs.Whois.{nick_asked}
use Rattle.commands.specs.Commands.{as_topic, command_by}
use Rattle.commands.specs.Named.{HasName, NoneIsMisnamed}

-- a reading that looks at something
either : {K : Type 0} (c : CommandName) (topic : K → Command) (b : Bool) (j k : Result K ReadFault)
    → HasName c (as_topic topic j) → HasName c (as_topic topic k) → HasName c (as_topic topic (cond b j k))
either c topic true j k f g = f
either c topic false j k f g = g

-- ---- the session's own

cap_req-named : (ps : List (List ℕ)) → HasName name.Cap (as_topic Session (cap_req ps))
cap_req-named [] = tt
cap_req-named (list ∷ ps) = refl

cap-named : (ps : List (List ℕ)) → HasName name.Cap (as_topic Session (cap_command ps))
cap-named [] = tt
cap-named (sub ∷ ps) =
    let is : List ℕ → Bool = str_eq_ignore_ascii_case sub in
    either name.Cap Session (is (codes "LS")) _ _ refl
    (either name.Cap Session (is (codes "LIST")) _ _ refl
    (either name.Cap Session (is (codes "REQ")) (cap_req ps) _ (cap_req-named ps)
    (either name.Cap Session (is (codes "END")) _ _ refl tt)))

authenticate-named : (ps : List (List ℕ)) → HasName name.Authenticate (as_topic Session (authenticate_command ps))
authenticate-named [] = tt
authenticate-named (piece ∷ ps) = refl

pass-named : (ps : List (List ℕ)) → HasName name.Pass (as_topic Session (pass_command ps))
pass-named [] = tt
pass-named (password ∷ ps) = refl

user-named : (ps : List (List ℕ)) → HasName name.User (as_topic Session (user_command ps))
user-named [] = tt
user-named (u ∷ []) = tt
user-named (u ∷ m ∷ []) = tt
user-named (u ∷ m ∷ n ∷ []) = tt
user-named (u ∷ m ∷ n ∷ r ∷ ps) = either name.User Session (is_empty (user_name u)) _ _ tt refl

-- ---- channels and their modes

join-named : (ps : List (List ℕ)) → HasName name.Join (as_topic Channel (join_command ps))
join-named [] = tt
join-named (list ∷ ps) = refl

part-named : (ps : List (List ℕ)) → HasName name.Part (as_topic Channel (part_command ps))
part-named [] = tt
part-named (list ∷ ps) = refl

kick-named : (ps : List (List ℕ)) → HasName name.Kick (as_topic Channel (kick_command ps))
kick-named [] = tt
kick-named (channel ∷ []) = tt
kick-named (channel ∷ list ∷ ps) = refl

invite-named : (ps : List (List ℕ)) → HasName name.Invite (as_topic Channel (invite_command ps))
invite-named [] = tt
invite-named (nick ∷ []) = tt
invite-named (nick ∷ channel ∷ ps) = refl

topic-named : (ps : List (List ℕ)) → HasName name.Topic (as_topic Channel (topic_command ps))
topic-named [] = tt
topic-named (channel ∷ ps) = refl

mode-named : (ps : List (List ℕ)) → HasName name.Mode (as_topic Mode (mode_command ps))
mode-named [] = tt
mode-named (target ∷ ps) = refl

-- ---- each

pub none-misnamed : NoneIsMisnamed
unfolding command_by
none-misnamed name.Ping m = either name.Ping Session (is_empty (first_or_empty m.params)) _ _ tt refl
none-misnamed name.Nick m = either name.Nick Session (is_empty (first_or_empty m.params)) _ _ tt refl
none-misnamed name.Cap m = cap-named m.params
none-misnamed name.Authenticate m = authenticate-named m.params
none-misnamed name.Pass m = pass-named m.params
none-misnamed name.User m = user-named m.params
none-misnamed name.Join m = join-named m.params
none-misnamed name.Part m = part-named m.params
none-misnamed name.Kick m = kick-named m.params
none-misnamed name.Invite m = invite-named m.params
none-misnamed name.Topic m = topic-named m.params
none-misnamed name.Mode m = mode-named m.params
none-misnamed name.Privmsg m =
    either name.Privmsg Talk (is_empty (first_or_empty m.params)) _ _ tt
    (either name.Privmsg Talk (is_empty (second_or_empty m.params)) _ _ tt refl)
none-misnamed name.Notice m =
    either name.Notice Talk (is_empty (first_or_empty m.params) || is_empty (second_or_empty m.params)) _ _ refl refl
none-misnamed name.Tagmsg m = either name.Tagmsg Talk (is_empty (first_or_empty m.params)) _ _ tt refl
none-misnamed name.Whois m = either name.Whois Query (is_empty (nick_asked m.params)) _ _ tt refl
none-misnamed _ m = refl
