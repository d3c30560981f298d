-- The commands of a session's own: how each is read, and what it does. RFC 2812, sections 3.1.1 to 3.1.3,
-- 3.1.7, 3.7.2 and 3.7.3, IRCv3 Capability Negotiation and SASL 3.1.
use Rattle.std.specs.Prelude.{ℕ, ◌+◌, ◌-◌, ◌*◌, ◌==◌, nat_le, Bool, not, ◌&&◌, cond, List, [], ◌∷◌}
use Rattle.std.specs.Prelude.{filter, fold, take, codes, Result, Ok, Err}
use Rattle.std.specs.List.{list_all}
use Rattle.std.specs.Str.{str_eq_ignore_ascii_case}
use Rattle.casemapping.specs.Names.{is_digit}
use Rattle.session_commands.specs.declared.session.CapSubcommand.TheVariants as cap
use Rattle.session_commands.specs.declared.session.SessionCommand.{SessionCommand}
use Rattle.session_commands.specs.declared.session.SessionCommand.TheVariants.{Cap, Authenticate, Pass, Nick, User}
use Rattle.session_commands.specs.declared.session.SessionCommand.TheVariants.{Ping, Pong, Quit}
use Rattle.command_params.specs.declared.name.CommandName.TheVariants as name
use Rattle.command_params.specs.declared.fault.ReadFault.{ReadFault}
use Rattle.command_params.specs.declared.fault.ReadFault.TheVariants.{NoNicknameGiven, NoOrigin, InvalidCapSubcommand}
use Rattle.line_grammar.specs.Parts.{is_empty}
use Rattle.command_params.specs.Lists.{words_of}
use Rattle.command_params.specs.Params.{first_or_empty, needs_more}
use Rattle.registration.specs.declared.settings.Settings.{Settings}
use Rattle.roster.specs.declared.deed.Deed.{Deed}
use Rattle.transactions.specs.declared.effect.Effect.{Effect}
use Rattle.transactions.specs.declared.effect.Effect.TheVariants.{Answer}
use Rattle.transactions.specs.Lines.{pong_line}
use Rattle.session_commands.specs.Registration.{takes_nick, introduces, passes, quits}
use Rattle.session_commands.specs.Negotiation.{negotiates, authenticates}

-- the number that decimal digits spell
abbrev pub number_of : List ℕ → ℕ
number_of digits = fold (λ number digit. 10 * number + (digit - 48)) 0 digits

-- a version of 302 or later
abbrev pub shows_values : List ℕ → Bool
shows_values version = list_all is_digit version && nat_le 302 (number_of version)

-- the list is the first parameter after REQ
abbrev pub cap_req : List (List ℕ) → Result SessionCommand ReadFault
cap_req [] = needs_more name.Cap
cap_req (list ∷ ps) = Ok (Cap (cap.Req (words_of list)))

-- subcommands are taken in either case
abbrev pub cap_subcommand : List ℕ → List (List ℕ) → Result SessionCommand ReadFault
cap_subcommand sub ps =
    cond (str_eq_ignore_ascii_case sub (codes "LS")) (Ok (Cap (cap.Ls (shows_values (first_or_empty ps)))))
    (cond (str_eq_ignore_ascii_case sub (codes "LIST")) (Ok (Cap cap.List))
    (cond (str_eq_ignore_ascii_case sub (codes "REQ")) (cap_req ps)
    (cond (str_eq_ignore_ascii_case sub (codes "END")) (Ok (Cap cap.End)) (Err (InvalidCapSubcommand sub)))))

abbrev pub cap_command : List (List ℕ) → Result SessionCommand ReadFault
cap_command [] = needs_more name.Cap
cap_command (sub ∷ ps) = cap_subcommand sub ps

abbrev pub authenticate_command : List (List ℕ) → Result SessionCommand ReadFault
authenticate_command [] = needs_more name.Authenticate
authenticate_command (piece ∷ ps) = Ok (Authenticate piece)

abbrev pub pass_command : List (List ℕ) → Result SessionCommand ReadFault
pass_command [] = needs_more name.Pass
pass_command (password ∷ ps) = Ok Pass

abbrev pub nick_command : List (List ℕ) → Result SessionCommand ReadFault
nick_command ps = cond (is_empty (first_or_empty ps)) (Err NoNicknameGiven) (Ok (Nick (first_or_empty ps)))

-- a user name has no `!`, no `@` and no octet below 33
abbrev pub is_user_octet : ℕ → Bool
is_user_octet b = not (b == 33) && not (b == 64) && nat_le 33 b

-- what is left of it, cut to 16 octets
abbrev pub user_name : List ℕ → List ℕ
user_name u = take 16 (filter is_user_octet u)

-- a real name is cut to 100 octets
abbrev pub user_with : List ℕ → List ℕ → Result SessionCommand ReadFault
user_with u real = cond (is_empty (user_name u)) (needs_more name.User) (Ok (User (user_name u) (take 100 real)))

-- four parameters, the second and third of which are ignored
abbrev pub user_command : List (List ℕ) → Result SessionCommand ReadFault
user_command (u ∷ mode ∷ unused ∷ real ∷ ps) = user_with u real
user_command ps = needs_more name.User

abbrev pub ping_command : List (List ℕ) → Result SessionCommand ReadFault
ping_command ps = cond (is_empty (first_or_empty ps)) (Err NoOrigin) (Ok (Ping (first_or_empty ps)))

abbrev pub pong_command : List (List ℕ) → Result SessionCommand ReadFault
pong_command ps = Ok Pong

abbrev pub quit_command : List (List ℕ) → Result SessionCommand ReadFault
quit_command ps = Ok (Quit (first_or_empty ps))

-- ---- what each does

abbrev pub serves_session : Settings → List Deed → ℕ → SessionCommand → List Effect
serves_session g fs s (Cap subcommand) = negotiates g fs s subcommand
serves_session g fs s (Authenticate piece) = authenticates g fs s piece
serves_session g fs s Pass = passes g fs s
serves_session g fs s (Nick n) = takes_nick g fs s n
serves_session g fs s (User u r) = introduces g fs s u r
serves_session g fs s (Ping token) = Answer (pong_line g.server token) ∷ []
serves_session g fs s Pong = []
serves_session g fs s (Quit text) = quits s text
