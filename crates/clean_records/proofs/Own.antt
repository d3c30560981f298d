-- What the program itself records: that a session is opened, hung or gone, and a tick.
use Rattle.std.proofs.Common.{◌≡◌, ℕ, true, false, List, [], ◌∷◌, codes, refl, arith}
use Rattle.chronicle.specs.declared.record.Kind.{Kind}
use Rattle.chronicle.specs.declared.record.Kind.TheVariants as kind
use Rattle.chronicle.specs.declared.why.Why.{Why}
use Rattle.chronicle.specs.declared.why.Why.TheVariants.{Quit, SendQ, ReadEnded, ReadFailed, WriteFailed}
use Rattle.chronicle.specs.declared.why.Why.TheVariants.{Memory, Shutdown, PingTimeout}
use Rattle.chronicle.specs.Reasons.{text}
use Rattle.registration.specs.declared.settings.Settings.{Settings}
use Rattle.roster.specs.declared.deed.Deed.{Deed}
use Rattle.roster.specs.declared.deed.Deed.TheVariants as deed
use Rattle.roster.specs.LookBack.{parting_text, sharers, why}
use Rattle.transactions.specs.declared.effect.Effect.TheVariants.{Establish, Show}
use Rattle.transactions.specs.Lines.{prefix, quit_line}
use Rattle.deeds.specs.Departure.{departs, farewell}
use Rattle.deeds.specs.Deeds.{effects}
use Rattle.clean_records.specs.Clean.{IsCleanKind, IsText, is_own}
use Rattle.clean_records.specs.Laws.{OwnRecordsAreClean}
use Rattle.clean_records.proofs.Effects.{Clean, clean-effects, facts-of, from-session, more, none, only}
use Rattle.clean_records.proofs.Lookups.{Facts, parting-is}
use Rattle.clean_records.proofs.Texts.{one}

reason-text : (w : Why) → IsText (text w)
reason-text Quit = refl
reason-text SendQ = refl
reason-text ReadEnded = refl
reason-text ReadFailed = refl
reason-text WriteFailed = refl
reason-text Memory = refl
reason-text Shutdown = refl
reason-text PingTimeout = refl

farewell-text : (w : Why) (t : List ℕ) → IsText t → IsText (farewell w t)
farewell-text w [] is = reason-text w
farewell-text w (x ∷ xs) is = is

pub departing : (fs : List Deed) (s : ℕ) → Facts fs → Clean (departs fs s)
departing fs s facts =
    let words = farewell (why fs s) (parting_text fs s) in let d = Establish (deed.Gone s) in
    more (Show (sharers fs s) (quit_line (prefix fs s) words)) (d ∷ [])
    (from-session fs s (codes "QUIT") (words ∷ []) true facts refl (omega arith)
    (one words (farewell-text (why fs s) (parting_text fs s) (parting-is fs s facts))))
    (only d tt)

pub own : (g : Settings) (fs : List Deed) (k : Kind) → Facts fs → is_own k ≡ true → IsCleanKind k
    → Clean (effects g fs k)
own g fs (kind.Opened s host) facts mine is = only (Establish (deed.Opened s host)) is
own g fs (kind.Said s i piece) facts mine is = absurd (let e : false ≡ true = mine in cc)
own g fs (kind.Hung s w) facts mine is = only (Establish (deed.Ended s w [])) refl
own g fs (kind.Gone s) facts mine is = departing fs s facts
own g fs kind.Ticked facts mine is = none

pub own-records : OwnRecordsAreClean
own-records g fs k are mine is = clean-effects (effects g fs k) (own g fs k (facts-of fs are) mine is)
