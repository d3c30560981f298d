-- What CAP, AUTHENTICATE, NICK, USER, PASS, PING and QUIT do, and the welcome.
use Rattle.std.proofs.Common.{◌≡◌, ℕ, ℤ, pos, ◌≤ℤ◌, ◌≤◌, Bool, true, false, not, ◌==◌, List, []}
use Rattle.std.proofs.Common.{◌∷◌, ◌++◌, map, filter, length, codes, IfSome, Option, Some, None, Result, Err}
use Rattle.std.proofs.Common.{find, is_some, option_and_then, refl, inl, inr, arith}
use Rattle.std.specs.List.{AllByRecursion, list_all}
use Rattle.std.specs.Str.{bytes_eq, str_eq_ignore_ascii_case}
use Rattle.std.proofs.lemmas.Bool.{and_from, and_parts, cond_both, leb-true, not-false}
use Rattle.std.proofs.lemmas.Int.{ints}
use Rattle.std.proofs.lemmas.List.Elements.{recursion_from_All}
use Rattle.chronicle.specs.declared.why.Why.TheVariants.{Quit}
use Rattle.line_grammar.specs.Parts.{is_empty}
use Rattle.line_grammar.specs.Spelling.{is_text_octet, is_word_octet, needs_colon}
use Rattle.casemapping.specs.Fold.{is_same}
use Rattle.casemapping.specs.Names.{nick_shape}
use Rattle.numerics.specs.declared.numeric.Numeric.TheVariants as numeric
use Rattle.numerics.specs.CivilTime.{time_text}
use Rattle.numerics.specs.Cut.{cut_lines, most_tokens}
use Rattle.numerics.specs.Numerics.{names_text}
use Rattle.numerics.specs.Support.{tokens}
use Rattle.registration.specs.declared.accounts.Account.{Account}
use Rattle.registration.specs.declared.caps.Cap.{Cap}
use Rattle.registration.specs.declared.caps.Cap.TheVariants.{Sasl}
use Rattle.registration.specs.declared.settings.Settings.{Settings}
use Rattle.registration.specs.declared.enrol.CapAnswer.{CapAnswer}
use Rattle.registration.specs.declared.enrol.CapAnswer.TheVariants.{Acknowledged, Refused}
use Rattle.registration.specs.declared.enrol.NickAnswer.{NickAnswer}
use Rattle.registration.specs.declared.enrol.NickAnswer.TheVariants.{Erroneous, InUse, Same, Taken}
use Rattle.registration.specs.declared.enrol.SaslAnswer.{SaslAnswer}
use Rattle.registration.specs.declared.enrol.SaslAnswer.TheVariants.{AlreadyLoggedIn, Failed, Opened, UnknownMechanism}
use Rattle.registration.specs.declared.enrol.SaslAnswer.TheVariants.{Aborted, TooLong, Waits, LoggedIn}
use Rattle.registration.specs.declared.enrol.UserAnswer.{UserAnswer}
use Rattle.registration.specs.declared.enrol.UserAnswer.TheVariants.{AlreadyTold, Accepted}
use Rattle.registration.specs.Accounts.{logged_in, name_by}
use Rattle.registration.specs.Caps.{all_caps, is_on, list_of}
use Rattle.registration.specs.Enrol.{Enrolment, account_by, sasl_octets, cap_answer, ended_by, gone_on, holds, is_own}
use Rattle.registration.specs.Enrol.{is_ready, is_too_long, nick_answer, sasl_answer, sasl_step, user_answer}
use Rattle.registration.specs.Plain.{Credentials, credentials_of}
use Rattle.registration.specs.Settings.{IsWellSet, is_motd, is_text}
use Rattle.roster.specs.declared.deed.Deed.{Deed}
use Rattle.roster.specs.declared.deed.Deed.TheVariants as deed
use Rattle.roster.specs.LookBack.{after, caps, enrol, exchange, nick, registered}
use Rattle.transactions.specs.declared.effect.Effect.TheVariants.{Establish, Answer}
use Rattle.transactions.specs.Effects.{deeds_of}
use Rattle.transactions.specs.Lines.{go_on_line, pong_line, prefix, title}
use Rattle.transactions.specs.Replies.{tells, tells_all}
use Rattle.command_params.specs.Lists.{is_space}
use Rattle.command_params.specs.Params.{first_or_empty}
use Rattle.command_params.specs.declared.fault.ReadFault.{ReadFault}
use Rattle.command_params.specs.declared.fault.ReadFault.TheVariants.{NoNicknameGiven, NoOrigin}
use Rattle.query_commands.specs.Motd.{motd_numerics}
use Rattle.session_commands.specs.declared.session.CapSubcommand.{CapSubcommand}
use Rattle.session_commands.specs.declared.session.CapSubcommand.TheVariants.{Ls, List as ListCaps, Req, End}
use Rattle.session_commands.specs.declared.session.SessionCommand.{SessionCommand}
use Rattle.session_commands.specs.declared.session.SessionCommand.TheVariants as session
use Rattle.session_commands.specs.Negotiation.{authenticates, cap_list, cap_text, closes, lists, negotiates}
use Rattle.session_commands.specs.Negotiation.{answers_req, sasl_answered, waits}
use Rattle.session_commands.specs.Registration.{aborts, if_ready, enrolls, is_held, nick_answered, passes}
use Rattle.session_commands.specs.Registration.{registers, renames, shows_nick, takes_nick, user_answered}
use Rattle.session_commands.specs.Session.{authenticate_command, cap_command, cap_req, cap_subcommand, is_user_octet}
use Rattle.session_commands.specs.Session.{nick_command, pass_command, ping_command, serves_session}
use Rattle.session_commands.specs.Session.{user_with, user_command, user_name}
use Rattle.session_commands.specs.Welcome.{support_numerics, welcome_numerics}
use Rattle.answer_octets.specs.Clean.{IsClean, IsMoment, IsWordOf}
use Rattle.answer_octets.proofs.Blocks.{word-text}
use Rattle.answer_octets.proofs.Kept.{spaced-kept, take-kept}
use Rattle.answer_octets.proofs.Lines.{value-word}
use Rattle.answer_octets.proofs.Moments.{moment-value}
use Rattle.answer_octets.proofs.Names.{settings-server}
use Rattle.clean_records.specs.Clean.{IsCleanEffect, IsNick, IsServing, IsText}
use Rattle.clean_records.specs.Laws.{WelcomesAreClean}
use Rattle.clean_records.proofs.Effects.{Clean, IsTextNumeric, clean-effects, either, facts-of, from-server}
use Rattle.clean_records.proofs.Effects.{from-session}
use Rattle.clean_records.proofs.Effects.{joined, later, more, none, only, told as tells-clean, told_all}
use Rattle.clean_records.proofs.Effects.{told_only}
use Rattle.clean_records.proofs.Lists.{all-both, all-texts, cut-texts, find-is}
use Rattle.clean_records.proofs.Lookups.{Facts, nick-shown, prefix-shown}
use Rattle.clean_records.proofs.Asking.{IsCleanRead, first-text, present-parts}
use Rattle.clean_records.proofs.Texts.{AreTexts, both, filter-passes, high-word, nick-text, one, take-short, texts-map}
use Rattle.clean_records.proofs.Texts.{two}

-- ---- CAP

cap-text : (b : Bool) (c : Cap) → IsText (cap_text b c)
cap-text true Sasl = refl
cap-text false Sasl = refl
cap-text b _ = refl

cap_list-text : (b : Bool) (cs : List Cap) → IsText (cap_list b cs)
cap_list-text b cs = spaced-kept (map (cap_text b) cs) (texts-map (cap_text b) (cap-text b) cs)

listing : (g : Settings) (fs : List Deed) (s : ℕ) (sub list : List ℕ) → IsServing g → Facts fs → IsText sub
    → IsText list → IsCleanEffect (lists g fs s sub list)
listing g fs s sub list serves facts a b =
    from-server g (codes "CAP") (title (nick fs s) ∷ sub ∷ list ∷ []) true serves refl (omega arith)
    (and_from _ _ (nick-shown fs s facts) (two sub list a b))

waiting : (fs : List Deed) (s : ℕ) → Clean (waits fs s)
waiting fs s = let d = Establish (deed.HoldSet s true) in either (holds (enrol fs s)) (d ∷ []) [] (only d tt) none

requesting : (g : Settings) (fs : List Deed) (s : ℕ) (words : List (List ℕ)) (a : CapAnswer) → IsServing g → Facts fs
    → AreTexts words → Clean (answers_req g fs s words a)
requesting g fs s words (Acknowledged new) serves facts are = let d = Establish (deed.CapsSet s new) in
    more (lists g fs s (codes "ACK") (names_text words)) (d ∷ [])
    (listing g fs s (codes "ACK") (names_text words) serves facts refl (spaced-kept words are)) (only d tt)
requesting g fs s words Refused serves facts are = only (lists g fs s (codes "NAK") (names_text words))
    (listing g fs s (codes "NAK") (names_text words) serves facts refl (spaced-kept words are))

abbrev pub IsCleanSub : CapSubcommand → Type 0
IsCleanSub (Req words) = AreTexts words
IsCleanSub sub = Unit {0}

negotiating : (g : Settings) (fs : List Deed) (s : ℕ) (sub : CapSubcommand) → IsServing g → Facts fs → IsCleanSub sub
    → Clean (negotiates g fs s sub)
negotiating g fs s (Ls shows) serves facts is = more (lists g fs s (codes "LS") (cap_list shows all_caps)) (waits fs s)
    (listing g fs s (codes "LS") (cap_list shows all_caps) serves facts refl (cap_list-text shows all_caps))
    (waiting fs s)
negotiating g fs s ListCaps serves facts is = let list = cap_list false (list_of (caps fs s)) in
    only (lists g fs s (codes "LIST") list) (listing g fs s (codes "LIST") list serves facts refl
    (cap_list-text false (list_of (caps fs s))))
negotiating g fs s (Req words) serves facts is = let a = cap_answer (enrol fs s) words in
    joined (answers_req g fs s words a) (waits fs s) (requesting g fs s words a serves facts is) (waiting fs s)
negotiating g fs s End serves facts is = only (Establish (deed.HoldSet s false)) tt

-- ---- AUTHENTICATE: who is logged in has an account's name

abbrev IsCleanSasl : SaslAnswer → Type 0
IsCleanSasl (LoggedIn account) = IsNick account
IsCleanSasl answer = Unit {0}

abbrev IfNick : Option (List ℕ) → Type 0
IfNick o = IfSome o IsNick

abbrev IsNamed : Account → Type 0
IsNamed account = IsNick account.name

by-password : (password : List ℕ) (o : Option Account) → IfSome o IsNamed
    → IfNick (option_and_then (name_by password) o)
by-password password None is = tt
by-password password (Some a) is = cond_both _ (Some a.name) None IfNick (λ _. is) (λ _. tt)

logs-in : (accounts : List Account) (user password : List ℕ) → AllByRecursion IsNamed accounts
    → IfNick (logged_in accounts user password)
unfolding logged_in
logs-in accounts user password named = by-password password (find (λ a. is_same a.name user) accounts)
    (find-is IsNamed (λ a. is_same a.name user) accounts named)

account-named : (accounts : List Account) (o : Option Credentials) → AllByRecursion IsNamed accounts
    → IfNick (account_by accounts o)
account-named accounts None named = tt
account-named accounts (Some c) named = logs-in accounts c.user c.password named

ended-clean : (o : Option (List ℕ)) → IfNick o → IsCleanSasl (ended_by o)
ended-clean None is = tt
ended-clean (Some account) is = is

going-on : (accounts : List Account) (so_far octets : List ℕ) → AllByRecursion IsNamed accounts
    → IsCleanSasl (gone_on accounts so_far octets)
going-on accounts so_far octets named =
    let o = account_by accounts (credentials_of (so_far ++ octets)) in
    cond_both (is_too_long so_far octets) TooLong _ IsCleanSasl (λ _. tt)
    (λ _. cond_both (length octets == 400) (Waits (so_far ++ octets)) (ended_by o) IsCleanSasl (λ _. tt)
    (λ _. ended-clean o (account-named accounts (credentials_of (so_far ++ octets)) named)))

stepping : (accounts : List Account) (so_far : Option (List ℕ)) (piece : List ℕ) → AllByRecursion IsNamed accounts
    → IsCleanSasl (sasl_step accounts so_far piece)
stepping accounts None piece named =
    cond_both (is_same piece (codes "PLAIN")) Opened UnknownMechanism IsCleanSasl (λ _. tt) (λ _. tt)
stepping accounts (Some so_far) piece named =
    cond_both (bytes_eq piece (42 ∷ [])) Aborted (gone_on accounts so_far (sasl_octets piece)) IsCleanSasl (λ _. tt)
    (λ _. going-on accounts so_far (sasl_octets piece) named)

sasl-clean : (accounts : List Account) (e : Enrolment) (piece : List ℕ) → AllByRecursion IsNamed accounts
    → IsCleanSasl (sasl_answer accounts e piece)
unfolding sasl_answer
sasl-clean accounts e piece named =
    cond_both (is_some e.account) AlreadyLoggedIn _ IsCleanSasl (λ _. tt)
    (λ _. cond_both (is_on e.caps Sasl) (sasl_step accounts e.exchange piece) Failed IsCleanSasl
    (λ _. stepping accounts e.exchange piece named) (λ _. tt))

answering : (g : Settings) (fs : List Deed) (s : ℕ) (a : SaslAnswer) → IsServing g → Facts fs → IsCleanSasl a
    → Clean (sasl_answered g fs s a)
answering g fs s AlreadyLoggedIn serves facts is = told_only g fs s numeric.SaslAlready serves facts
    (record { words = refl; text = refl })
answering g fs s Failed serves facts is = more (tells g fs s numeric.SaslFail) (closes s ∷ [])
    (tells-clean g fs s numeric.SaslFail serves facts (record { words = refl; text = refl })) (only (closes s) tt)
answering g fs s Opened serves facts is = let d = Establish (deed.ExchangeSet s (Some [])) in
    more (Answer go_on_line) (d ∷ []) (record {
      source = tt;
      command = refl;
      params = refl;
      tags = refl;
      clients = refl;
      fits = omega arith;
    }) (only d tt)
answering g fs s UnknownMechanism serves facts is =
    more (tells g fs s numeric.SaslMechs) (tells g fs s numeric.SaslFail ∷ [])
    (tells-clean g fs s numeric.SaslMechs serves facts (record { words = refl; text = refl }))
    (told_only g fs s numeric.SaslFail serves facts (record { words = refl; text = refl }))
answering g fs s Aborted serves facts is = more (tells g fs s numeric.SaslAborted) (closes s ∷ [])
    (tells-clean g fs s numeric.SaslAborted serves facts (record { words = refl; text = refl })) (only (closes s) tt)
answering g fs s TooLong serves facts is = more (tells g fs s numeric.SaslTooLong) (closes s ∷ [])
    (tells-clean g fs s numeric.SaslTooLong serves facts (record { words = refl; text = refl })) (only (closes s) tt)
answering g fs s (Waits so_far) serves facts is = only (Establish (deed.ExchangeSet s (Some so_far))) tt
answering g fs s (LoggedIn account) serves facts is =
    let n = numeric.LoggedIn (prefix fs s) account in
    let ok = tells g fs s numeric.SaslSuccess in let d = Establish (deed.LoggedIn s account) in
    let named = nick-text account is in
    more (tells g fs s n) (ok ∷ d ∷ closes s ∷ []) (tells-clean g fs s n serves facts
    (record { words = two (prefix fs s) account (prefix-shown fs s facts) named; text = named }))
    (more ok (d ∷ closes s ∷ []) (tells-clean g fs s numeric.SaslSuccess serves facts
    (record { words = refl; text = refl })) (more d (closes s ∷ []) is (only (closes s) tt)))

authenticating : (g : Settings) (fs : List Deed) (s : ℕ) (piece : List ℕ) → IsServing g → Facts fs
    → Clean (authenticates g fs s piece)
authenticating g fs s piece serves facts =
    answering g fs s (sasl_answer g.accounts (enrol fs s) piece) serves facts
    (sasl-clean g.accounts (enrol fs s) piece (recursion_from_All IsNamed g.accounts serves.accounts))

-- ---- NICK, USER, PASS and QUIT

shown_nick : (fs : List Deed) (s : ℕ) (n : List ℕ) → Facts fs → IsNick n → IsCleanEffect (shows_nick fs s n)
shown_nick fs s n facts is = from-session fs s (codes "NICK") (n ∷ []) false facts refl (omega arith)
    (one n (nick-text n is))

renaming : (fs : List Deed) (s : ℕ) (n : List ℕ) → Facts fs → IsNick n → Clean (renames fs s n)
renaming fs s n facts is =
    let d = Establish (deed.NickSet s n) in
    either (registered fs s) (shows_nick fs s n ∷ d ∷ []) (d ∷ [])
    (more (shows_nick fs s n) (d ∷ []) (shown_nick fs s n facts is) (only d is)) (only d is)

abbrev IfTaken : List ℕ → NickAnswer → Type 0
IfTaken n Taken = IsNick n
IfTaken n answer = Unit {0}

taken-nick : (e : Enrolment) (n : List ℕ) (held : Bool) → IfTaken n (nick_answer e n held)
unfolding nick_answer
taken-nick e n held =
    cond_both (not (nick_shape n)) Erroneous _ (IfTaken n) (λ _. tt)
    (λ shaped. cond_both held InUse _ (IfTaken n) (λ _. tt)
    (λ _. cond_both (is_own e.nick n) Same Taken (IfTaken n) (λ _. tt) (λ _. not-false _ shaped)))

naming : (g : Settings) (fs : List Deed) (s : ℕ) (n : List ℕ) (a : NickAnswer) → IsServing g → Facts fs → IsText n
    → IfTaken n a → Clean (nick_answered g fs s n a)
naming g fs s n Erroneous serves facts text is = told_only g fs s (numeric.ErroneousNickname n) serves facts
    (record { words = one n text; text = refl })
naming g fs s n InUse serves facts text is = told_only g fs s (numeric.NicknameInUse n) serves facts
    (record { words = one n text; text = refl })
naming g fs s n Same serves facts text is = none
naming g fs s n Taken serves facts text is = renaming fs s n facts is

taking_nick : (g : Settings) (fs : List Deed) (s : ℕ) (n : List ℕ) → IsServing g → Facts fs → IsText n
    → Clean (takes_nick g fs s n)
taking_nick g fs s n serves facts text =
    naming g fs s n (nick_answer (enrol fs s) n (is_held fs s n)) serves facts text
    (taken-nick (enrol fs s) n (is_held fs s n))

already : (g : Settings) (fs : List Deed) (s : ℕ) → IsServing g → Facts fs
    → Clean (tells g fs s numeric.AlreadyRegistered ∷ [])
already g fs s serves facts = told_only g fs s numeric.AlreadyRegistered serves facts
    (record { words = refl; text = refl })

answering_user : (g : Settings) (fs : List Deed) (s : ℕ) (u r : List ℕ) (a : UserAnswer) → IsServing g → Facts fs
    → IsWordOf 16 u → IsText r → Clean (user_answered g fs s u r a)
answering_user g fs s u r AlreadyTold serves facts word text = already g fs s serves facts
answering_user g fs s u r Accepted serves facts word text = only (Establish (deed.UserSet s u r)) (word, text)

passing : (g : Settings) (fs : List Deed) (s : ℕ) → IsServing g → Facts fs → Clean (passes g fs s)
passing g fs s serves facts = either (registered fs s) (tells g fs s numeric.AlreadyRegistered ∷ []) []
    (already g fs s serves facts) none

ponging : (g : Settings) (token : List ℕ) → IsServing g → IsText token → IsClean (pong_line g.server token)
ponging g token serves is =
    from-server g (codes "PONG") (g.server ∷ token ∷ []) (needs_colon token) serves refl (omega arith)
    (two g.server token (word-text g.server (settings-server g serves.set).word) is)

-- ---- what is read

abbrev pub IsCleanSession : SessionCommand → Type 0
IsCleanSession (session.Cap sub) = IsCleanSub sub
IsCleanSession (session.Nick n) = IsText n
IsCleanSession (session.User u r) = IsWordOf 16 u × IsText r
IsCleanSession (session.Ping token) = IsText token
IsCleanSession (session.Quit text) = IsText text
IsCleanSession k = Unit {0}

abbrev pub IsReadSession : Result SessionCommand ReadFault → Type 0
IsReadSession read = IsCleanRead IsCleanSession read

reads_cap : (sub : List ℕ) (ps : List (List ℕ)) → IsText sub → AreTexts ps → IsReadSession (cap_subcommand sub ps)
reads_cap sub ps is are =
    cond_both (str_eq_ignore_ascii_case sub (codes "LS")) _ _ IsReadSession (λ _. tt)
    (λ _. cond_both (str_eq_ignore_ascii_case sub (codes "LIST")) _ _ IsReadSession (λ _. tt)
    (λ _. cond_both (str_eq_ignore_ascii_case sub (codes "REQ")) _ _ IsReadSession (λ _. reads_req ps are)
    (λ _. cond_both (str_eq_ignore_ascii_case sub (codes "END")) _ _ IsReadSession (λ _. tt) (λ _. is))))
  where
    reads_req : (qs : List (List ℕ)) → AreTexts qs → IsReadSession (cap_req qs)
    reads_req [] all = tt
    reads_req (list ∷ qs) all = present-parts is_space list (and_parts _ _ all).0

user-octet : (b : ℕ) → is_user_octet b ≡ true → is_word_octet b ≡ true
user-octet b is =
    let low : 33 ≤ b = leb-true 33 b (and_parts _ _ is).1 in high-word b low

user-word : (u : List ℕ) → IsWordOf 16 (user_name u)
user-word u = record {
  word = take-kept is_word_octet 16 (filter is_user_octet u)
      (filter-passes is_word_octet is_user_octet user-octet u);
  short = take-short 16 (filter is_user_octet u);
}

reads_user : (u real : List ℕ) → IsText real → IsReadSession (user_with u real)
reads_user u real is =
    cond_both (is_empty (user_name u)) _ _ IsReadSession (λ _. tt)
    (λ _. (user-word u, take-kept is_text_octet 100 real is))

pub reads_user_of : (ps : List (List ℕ)) → AreTexts ps → IsReadSession (user_command ps)
reads_user_of [] are = tt
reads_user_of (u ∷ []) are = tt
reads_user_of (u ∷ m ∷ []) are = tt
reads_user_of (u ∷ m ∷ n ∷ []) are = tt
reads_user_of (u ∷ m ∷ n ∷ real ∷ ps) are =
    reads_user u real (all-texts (u ∷ m ∷ n ∷ real ∷ ps) are).1.1.1.0

pub reads_cap_of : (ps : List (List ℕ)) → AreTexts ps → IsReadSession (cap_command ps)
reads_cap_of [] are = tt
reads_cap_of (sub ∷ ps) are = let parts = and_parts _ _ are in reads_cap sub ps parts.0 parts.1

pub reads_authenticate : (ps : List (List ℕ)) → IsReadSession (authenticate_command ps)
reads_authenticate [] = tt
reads_authenticate (piece ∷ ps) = tt

pub reads_pass : (ps : List (List ℕ)) → IsReadSession (pass_command ps)
reads_pass [] = tt
reads_pass (password ∷ ps) = tt

pub reads_nick : (ps : List (List ℕ)) → AreTexts ps → IsReadSession (nick_command ps)
reads_nick ps are =
    cond_both (is_empty (first_or_empty ps)) (Err NoNicknameGiven) _ IsReadSession (λ _. tt) (λ _. first-text ps are)

pub reads_ping : (ps : List (List ℕ)) → AreTexts ps → IsReadSession (ping_command ps)
reads_ping ps are =
    cond_both (is_empty (first_or_empty ps)) (Err NoOrigin) _ IsReadSession (λ _. tt) (λ _. first-text ps are)

-- ---- what each does

pub of_session : (g : Settings) (fs : List Deed) (s : ℕ) (k : SessionCommand) → IsServing g → Facts fs
    → IsCleanSession k → Clean (serves_session g fs s k)
of_session g fs s (session.Cap sub) serves facts is = negotiating g fs s sub serves facts is
of_session g fs s (session.Authenticate piece) serves facts is = authenticating g fs s piece serves facts
of_session g fs s session.Pass serves facts is = passing g fs s serves facts
of_session g fs s (session.Nick n) serves facts is = taking_nick g fs s n serves facts is
of_session g fs s (session.User u r) serves facts is =
    answering_user g fs s u r (user_answer (enrol fs s)) serves facts is.0 is.1
of_session g fs s (session.Ping token) serves facts is = only (Answer (pong_line g.server token))
    (ponging g token serves is)
of_session g fs s session.Pong serves facts is = none
of_session g fs s (session.Quit text) serves facts is = only (Establish (deed.Ended s Quit text)) is

-- ---- the welcome

motd-texts : (most : ℕ) (lines : List (List ℕ)) → list_all (is_text most) lines ≡ true → AllByRecursion IsText lines
motd-texts most [] are = tt
motd-texts most (l ∷ ls) are =
    let parts = and_parts _ _ are in ((and_parts _ _ parts.0).1, motd-texts most ls parts.1)

pub motd-clean : (g : Settings) (motd : Option (List (List ℕ))) → IsServing g → is_motd motd ≡ true
    → AllByRecursion (IsTextNumeric g) (motd_numerics motd)
motd-clean g None serves is = (record { words = refl; text = refl }, tt)
motd-clean g (Some lines) serves is =
    let server = word-text g.server (settings-server g serves.set).word in (
      record { words = refl; text = both g.server _ server refl },
      all-both (IsTextNumeric g) (map numeric.Motd lines) (numeric.EndOfMotd ∷ []) (motd-lines lines
          (motd-texts 400 lines is)) (record { words = refl; text = refl }, tt),
    )
  where
    motd-lines : (ls : List (List ℕ)) → AllByRecursion IsText ls
        → AllByRecursion (IsTextNumeric g) (map numeric.Motd ls)
    motd-lines [] all = tt
    motd-lines (l ∷ ls) all = (record { words = refl; text = all.0 }, motd-lines ls all.1)

support-lines : (g : Settings) (ls : List (List (List ℕ))) → AllByRecursion AreTexts ls
    → AllByRecursion (IsTextNumeric g) (map numeric.ISupport ls)
support-lines g [] are = tt
support-lines g (l ∷ ls) are = (record { words = are.0; text = refl }, support-lines g ls are.1)

-- a moment from 1970 to the end of the year 9998 has a text
pub moment-inside : (m : ℤ) → pos 0 ≤ℤ m → m ≤ℤ pos 253370764799999 → IsMoment m
moment-inside m from to (inl early) = grind (arith, ints, from, early)
moment-inside m from to (inr late) = grind (arith, ints, to, late)

created-text : (g : Settings) → IsWellSet g → IsText (time_text g.created)
created-text g set =
    word-text (time_text g.created) (value-word (time_text g.created) (moment-value g.created
    (moment-inside g.created set.from_1970 set.to_9998)))

welcome-clean : (g : Settings) (source : List ℕ) → IsServing g → IsText source
    → AllByRecursion (IsTextNumeric g) (welcome_numerics g source)
welcome-clean g source serves is =
    let server = word-text g.server (settings-server g serves.set).word in
    let version : IsText g.version = (and_parts _ _ (and_parts _ _ serves.set.version).1).1 in (
      record { words = refl; text = is },
      (
        record { words = refl; text = both g.server _ server (both g.version [] version refl) },
        (
          record { words = refl; text = created-text g serves.set },
          (
            record { words = and_from _ _ server (and_from _ _ version refl); text = tt },
            all-both (IsTextNumeric g) support_numerics (motd_numerics g.motd)
                (support-lines g (cut_lines 370 most_tokens tokens)
                (cut-texts 370 most_tokens tokens refl)) (motd-clean g g.motd serves serves.set.motd),
          ),
        ),
      ),
    )

aborting : (g : Settings) (fs : List Deed) (s : ℕ) (o : Option (List ℕ)) → IsServing g → Facts fs
    → Clean (aborts g fs s o)
aborting g fs s None serves facts = none
aborting g fs s (Some so_far) serves facts = let d = Establish (deed.ExchangeSet s None) in
    more (tells g fs s numeric.SaslAborted) (d ∷ [])
    (tells-clean g fs s numeric.SaslAborted serves facts (record { words = refl; text = refl })) (only d tt)

enrolling : (g : Settings) (fs : List Deed) (s : ℕ) → IsServing g → Facts fs → Clean (enrolls g fs s)
enrolling g fs s serves facts =
    let ns = welcome_numerics g (prefix fs s) in let d = Establish (deed.Enrolled s) in
    joined (tells_all g fs s ns) (d ∷ []) (told_all g fs s ns serves facts (welcome-clean g (prefix fs s) serves
    (prefix-shown fs s facts))) (only d tt)

registering : (g : Settings) (fs : List Deed) (s : ℕ) → IsServing g → Facts fs → Clean (registers g fs s)
registering g fs s serves facts =
    let es = aborts g fs s (exchange fs s) in
    let stops = aborting g fs s (exchange fs s) serves facts in
    joined es (enrolls g (after fs (deeds_of es)) s) stops
    (enrolling g (after fs (deeds_of es)) s serves (later es fs stops facts))

pub completing : (g : Settings) (fs : List Deed) (s : ℕ) → IsServing g → Facts fs → Clean (if_ready g fs s)
completing g fs s serves facts = either (is_ready (enrol fs s)) (registers g fs s) []
    (registering g fs s serves facts) none

pub welcomes : WelcomesAreClean
welcomes g fs s serves are = clean-effects (if_ready g fs s) (completing g fs s serves (facts-of fs are))
