-- What NICK, USER, PASS and QUIT do, and when a session is registered: RFC 2812, sections 3.1, 3.1.1 to 3.1.3 and
-- 3.1.7.
use Rattle.std.specs.Prelude.{ℕ, Bool, false, not, ◌==◌, List, [], ◌∷◌, ◌++◌, Option, Some, None, if◌then◌else◌}
use Rattle.chronicle.specs.declared.why.Why.TheVariants.{Quit}
use Rattle.numerics.specs.declared.numeric.Numeric.TheVariants.{ErroneousNickname, NicknameInUse}
use Rattle.numerics.specs.declared.numeric.Numeric.TheVariants.{AlreadyRegistered, SaslAborted}
use Rattle.registration.specs.declared.settings.Settings.{Settings}
use Rattle.registration.specs.declared.enrol.NickAnswer.{NickAnswer}
use Rattle.registration.specs.declared.enrol.NickAnswer.TheVariants.{Erroneous, InUse, Same, Taken}
use Rattle.registration.specs.declared.enrol.UserAnswer.{UserAnswer}
use Rattle.registration.specs.declared.enrol.UserAnswer.TheVariants.{AlreadyTold, Accepted}
use Rattle.registration.specs.Enrol.{nick_answer, user_answer, is_ready}
use Rattle.roster.specs.declared.deed.Deed.{Deed}
use Rattle.roster.specs.declared.deed.Deed.TheVariants.{NickSet, UserSet, ExchangeSet, Enrolled, Ended}
use Rattle.roster.specs.LookBack.{after, registered, exchange, enrol, holder, sharers}
use Rattle.transactions.specs.declared.effect.Effect.{Effect}
use Rattle.transactions.specs.declared.effect.Effect.TheVariants.{Establish, Show}
use Rattle.transactions.specs.Effects.{deeds_of}
use Rattle.transactions.specs.Lines.{prefix, nick_line}
use Rattle.transactions.specs.Replies.{tells, tells_all}
use Rattle.session_commands.specs.Welcome.{welcome_numerics}

-- ---- NICK

abbrev pub is_another : ℕ → Option ℕ → Bool
is_another s None = false
is_another s (Some t) = not (t == s)

-- whether another session holds a nickname
abbrev pub is_held : List Deed → ℕ → List ℕ → Bool
is_held fs s n = is_another s (holder fs n)

-- to the session and to each that shares a channel with it
abbrev pub shows_nick : List Deed → ℕ → List ℕ → Effect
shows_nick fs s n = Show (sharers fs s ++ s ∷ []) (nick_line (prefix fs s) n)

-- a change is shown once the session is registered
abbrev pub renames : List Deed → ℕ → List ℕ → List Effect
renames fs s n = if registered fs s then shows_nick fs s n ∷ Establish (NickSet s n) ∷ []
    else Establish (NickSet s n) ∷ []

abbrev pub nick_answered : Settings → List Deed → ℕ → List ℕ → NickAnswer → List Effect
nick_answered g fs s n Erroneous = tells g fs s (ErroneousNickname n) ∷ []
nick_answered g fs s n InUse = tells g fs s (NicknameInUse n) ∷ []
nick_answered g fs s n Same = []
nick_answered g fs s n Taken = renames fs s n

abbrev pub takes_nick : Settings → List Deed → ℕ → List ℕ → List Effect
takes_nick g fs s n = nick_answered g fs s n (nick_answer (enrol fs s) n (is_held fs s n))

-- ---- USER, PASS and QUIT

abbrev pub user_answered : Settings → List Deed → ℕ → List ℕ → List ℕ → UserAnswer → List Effect
user_answered g fs s u r AlreadyTold = tells g fs s AlreadyRegistered ∷ []
user_answered g fs s u r Accepted = Establish (UserSet s u r) ∷ []

-- a session tells its user name and real name, once
abbrev pub introduces : Settings → List Deed → ℕ → List ℕ → List ℕ → List Effect
introduces g fs s u r = user_answered g fs s u r (user_answer (enrol fs s))

-- the password isn't looked at
abbrev pub passes : Settings → List Deed → ℕ → List Effect
passes g fs s = if registered fs s then tells g fs s AlreadyRegistered ∷ [] else []

abbrev pub quits : ℕ → List ℕ → List Effect
quits s text = Establish (Ended s Quit text) ∷ []

-- ---- registration

-- an exchange of SASL that is open is aborted
abbrev pub aborts : Settings → List Deed → ℕ → Option (List ℕ) → List Effect
aborts g fs s None = []
aborts g fs s (Some so_far) = tells g fs s SaslAborted ∷ Establish (ExchangeSet s None) ∷ []

-- the session is welcomed, and registered from then on
abbrev pub enrolls : Settings → List Deed → ℕ → List Effect
enrolls g fs s = tells_all g fs s (welcome_numerics g (prefix fs s)) ++ Establish (Enrolled s) ∷ []

abbrev pub registers : Settings → List Deed → ℕ → List Effect
registers g fs s = aborts g fs s (exchange fs s) ++ enrolls g (after fs (deeds_of (aborts g fs s (exchange fs s)))) s

-- a session that is ready, and isn't registered yet, is registered
abbrev pub if_ready : Settings → List Deed → ℕ → List Effect
if_ready g fs s = if is_ready (enrol fs s) then registers g fs s else []
