-- What CAP, AUTHENTICATE, NICK, USER, PASS and QUIT show, and to whom, and the welcome.
use Rattle.std.proofs.Common.{ℕ, true, false, List, []}
use Rattle.std.proofs.Common.{◌∷◌, codes, Option, Some, None, refl}
use Rattle.chronicle.specs.declared.why.Why.TheVariants.{Quit}
use Rattle.numerics.specs.declared.numeric.Numeric.TheVariants as numeric
use Rattle.numerics.specs.Numerics.{names_text}
use Rattle.registration.specs.declared.settings.Settings.{Settings}
use Rattle.registration.specs.declared.enrol.CapAnswer.{CapAnswer}
use Rattle.registration.specs.declared.enrol.CapAnswer.TheVariants.{Acknowledged, Refused}
use Rattle.registration.specs.declared.enrol.NickAnswer.{NickAnswer}
use Rattle.registration.specs.declared.enrol.NickAnswer.TheVariants.{Erroneous, InUse, Same, Taken}
use Rattle.registration.specs.declared.enrol.SaslAnswer.{SaslAnswer}
use Rattle.registration.specs.declared.enrol.SaslAnswer.TheVariants.{AlreadyLoggedIn, Failed, Opened, UnknownMechanism}
use Rattle.registration.specs.declared.enrol.SaslAnswer.TheVariants.{Aborted, TooLong, Waits, LoggedIn}
use Rattle.registration.specs.declared.enrol.UserAnswer.{UserAnswer}
use Rattle.registration.specs.declared.enrol.UserAnswer.TheVariants.{AlreadyTold, Accepted}
use Rattle.registration.specs.Caps.{all_caps, list_of}
use Rattle.registration.specs.Enrol.{cap_answer, holds, is_ready, nick_answer, sasl_answer, user_answer}
use Rattle.session_commands.specs.declared.session.CapSubcommand.{CapSubcommand}
use Rattle.session_commands.specs.declared.session.CapSubcommand.TheVariants.{Ls, List as ListCaps, Req, End}
use Rattle.roster.specs.declared.deed.Deed.{Deed}
use Rattle.roster.specs.declared.deed.Deed.TheVariants as deed
use Rattle.roster.specs.LookBack.{after, caps, enrol, exchange, opened_in, registered}
use Rattle.transactions.specs.declared.effect.Effect.TheVariants.{Establish, Answer}
use Rattle.transactions.specs.Effects.{deeds_of}
use Rattle.transactions.specs.Lines.{go_on_line, prefix}
use Rattle.transactions.specs.Replies.{tells, tells_all}
use Rattle.session_commands.specs.Negotiation.{authenticates, cap_list, closes, lists, negotiates}
use Rattle.session_commands.specs.Negotiation.{answers_req, sasl_answered, waits}
use Rattle.session_commands.specs.Registration.{aborts, if_ready, enrolls, introduces, is_held, nick_answered, passes}
use Rattle.session_commands.specs.Registration.{quits, registers, renames, shows_nick, takes_nick, user_answered}
use Rattle.session_commands.specs.Welcome.{welcome_numerics}
use Rattle.record_laws.specs.Laws.{IsEachOnce}
use Rattle.record_laws.proofs.Once.{once-with_self}
use Rattle.record_laws.proofs.Fits.{Fit, Fits, either, joined, more, none, only, told, told_all, told_only}

-- ---- CAP

waiting : (fs : List Deed) (s : ℕ) → Fit (waits fs s)
waiting fs s = let d = Establish (deed.HoldSet s true) in either (holds (enrol fs s)) (d ∷ []) [] (only d refl) none

requesting : (g : Settings) (fs : List Deed) (s : ℕ) (words : List (List ℕ)) (a : CapAnswer)
    → Fit (answers_req g fs s words a)
requesting g fs s words (Acknowledged new) = let d = Establish (deed.CapsSet s new) in
    more (lists g fs s (codes "ACK") (names_text words)) (d ∷ []) refl (only d refl)
requesting g fs s words Refused = only (lists g fs s (codes "NAK") (names_text words)) refl

pub negotiating : (g : Settings) (fs : List Deed) (s : ℕ) (sub : CapSubcommand) → Fit (negotiates g fs s sub)
negotiating g fs s (Ls shows_values) = more (lists g fs s (codes "LS") (cap_list shows_values all_caps))
    (waits fs s) refl (waiting fs s)
negotiating g fs s ListCaps = only (lists g fs s (codes "LIST") (cap_list false (list_of (caps fs s)))) refl
negotiating g fs s (Req words) = let a = cap_answer (enrol fs s) words in
    joined (answers_req g fs s words a) (waits fs s) (requesting g fs s words a) (waiting fs s)
negotiating g fs s End = only (Establish (deed.HoldSet s false)) refl

-- ---- AUTHENTICATE

answering : (g : Settings) (fs : List Deed) (s : ℕ) (a : SaslAnswer) → Fit (sasl_answered g fs s a)
answering g fs s AlreadyLoggedIn = told_only g fs s numeric.SaslAlready
answering g fs s Failed = more (tells g fs s numeric.SaslFail) (closes s ∷ []) (told g fs s numeric.SaslFail)
    (only (closes s) refl)
answering g fs s Opened = let d = Establish (deed.ExchangeSet s (Some [])) in
    more (Answer go_on_line) (d ∷ []) refl (only d refl)
answering g fs s UnknownMechanism = more (tells g fs s numeric.SaslMechs) (tells g fs s numeric.SaslFail ∷ [])
    (told g fs s numeric.SaslMechs) (told_only g fs s numeric.SaslFail)
answering g fs s Aborted = more (tells g fs s numeric.SaslAborted) (closes s ∷ []) (told g fs s numeric.SaslAborted)
    (only (closes s) refl)
answering g fs s TooLong = more (tells g fs s numeric.SaslTooLong) (closes s ∷ []) (told g fs s numeric.SaslTooLong)
    (only (closes s) refl)
answering g fs s (Waits so_far) = only (Establish (deed.ExchangeSet s (Some so_far))) refl
answering g fs s (LoggedIn account) =
    let n = numeric.LoggedIn (prefix fs s) account in
    let ok = tells g fs s numeric.SaslSuccess in let d = Establish (deed.LoggedIn s account) in
    more (tells g fs s n) (ok ∷ d ∷ closes s ∷ []) (told g fs s n) (more ok (d ∷ closes s ∷ [])
    (told g fs s numeric.SaslSuccess) (more d (closes s ∷ []) refl (only (closes s) refl)))

pub authenticating : (g : Settings) (fs : List Deed) (s : ℕ) (piece : List ℕ) → Fit (authenticates g fs s piece)
authenticating g fs s piece = answering g fs s (sasl_answer g.accounts (enrol fs s) piece)

-- ---- NICK, USER, PASS and QUIT

shown_nick : (fs : List Deed) (s : ℕ) (n : List ℕ) → IsEachOnce (opened_in fs) → Fits (shows_nick fs s n)
shown_nick fs s n once = (once-with_self fs s once, refl)

renaming : (fs : List Deed) (s : ℕ) (n : List ℕ) → IsEachOnce (opened_in fs) → Fit (renames fs s n)
renaming fs s n once =
    let d = Establish (deed.NickSet s n) in
    either (registered fs s) (shows_nick fs s n ∷ d ∷ []) (d ∷ [])
    (more (shows_nick fs s n) (d ∷ []) (shown_nick fs s n once) (only d refl)) (only d refl)

naming : (g : Settings) (fs : List Deed) (s : ℕ) (n : List ℕ) (a : NickAnswer) → IsEachOnce (opened_in fs)
    → Fit (nick_answered g fs s n a)
naming g fs s n Erroneous once = told_only g fs s (numeric.ErroneousNickname n)
naming g fs s n InUse once = told_only g fs s (numeric.NicknameInUse n)
naming g fs s n Same once = none
naming g fs s n Taken once = renaming fs s n once

pub taking_nick : (g : Settings) (fs : List Deed) (s : ℕ) (n : List ℕ) → IsEachOnce (opened_in fs)
    → Fit (takes_nick g fs s n)
taking_nick g fs s n once = naming g fs s n (nick_answer (enrol fs s) n (is_held fs s n)) once

answering_user : (g : Settings) (fs : List Deed) (s : ℕ) (u r : List ℕ) (a : UserAnswer)
    → Fit (user_answered g fs s u r a)
answering_user g fs s u r AlreadyTold = told_only g fs s numeric.AlreadyRegistered
answering_user g fs s u r Accepted = only (Establish (deed.UserSet s u r)) refl

pub introducing : (g : Settings) (fs : List Deed) (s : ℕ) (u r : List ℕ) → Fit (introduces g fs s u r)
introducing g fs s u r = answering_user g fs s u r (user_answer (enrol fs s))

pub passing : (g : Settings) (fs : List Deed) (s : ℕ) → Fit (passes g fs s)
passing g fs s = either (registered fs s) (tells g fs s numeric.AlreadyRegistered ∷ []) []
    (told_only g fs s numeric.AlreadyRegistered) none

pub quitting : (s : ℕ) (text : List ℕ) → Fit (quits s text)
quitting s text = only (Establish (deed.Ended s Quit text)) refl

-- ---- registration

aborting : (g : Settings) (fs : List Deed) (s : ℕ) (o : Option (List ℕ)) → Fit (aborts g fs s o)
aborting g fs s None = none
aborting g fs s (Some so_far) = let d = Establish (deed.ExchangeSet s None) in
    more (tells g fs s numeric.SaslAborted) (d ∷ []) (told g fs s numeric.SaslAborted) (only d refl)

enrolling : (g : Settings) (fs : List Deed) (s : ℕ) → Fit (enrolls g fs s)
enrolling g fs s = let ns = welcome_numerics g (prefix fs s) in let d = Establish (deed.Enrolled s) in
    joined (tells_all g fs s ns) (d ∷ []) (told_all g fs s ns) (only d refl)

registering : (g : Settings) (fs : List Deed) (s : ℕ) → Fit (registers g fs s)
registering g fs s =
    let es = aborts g fs s (exchange fs s) in
    let later = after fs (deeds_of es) in
    joined es (enrolls g later s) (aborting g fs s (exchange fs s)) (enrolling g later s)

pub completing : (g : Settings) (fs : List Deed) (s : ℕ) → Fit (if_ready g fs s)
completing g fs s = either (is_ready (enrol fs s)) (registers g fs s) [] (registering g fs s) none
