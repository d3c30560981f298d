-- What follows from the definitions of what records do, for whoever is told of them: this project's own promise.
use Rattle.std.specs.Prelude.{◌≡◌, ◌≢◌, ℕ, ◌==◌, Bool, true, false, List, codes}
use Rattle.std.specs.List.{All, IsDistinct}
use Rattle.chronicle.specs.declared.record.Kind.{Kind}
use Rattle.chronicle.specs.declared.record.Kind.TheVariants as kind
use Rattle.registration.specs.declared.settings.Settings.{Settings}
use Rattle.roster.specs.declared.deed.Deed.{Deed}
use Rattle.roster.specs.LookBack.{after, opened_in}
use Rattle.commands.specs.declared.asked.Asked.{Asked}
use Rattle.transactions.specs.declared.effect.Effect.{Effect}
use Rattle.transactions.specs.declared.effect.Effect.TheVariants.{Establish, Answer, Show, Copy}
use Rattle.transactions.specs.Effects.{reply}
use Rattle.deeds.specs.Rows.{of_asked}
use Rattle.deeds.specs.Deeds.{deeds, effects}

-- each session of a list stands there once
abbrev pub IsEachOnce : List ℕ → Type 0
IsEachOnce ts = IsDistinct (λ s t. s == t) ts

-- the line of an effect is shown to each of its hearers once
abbrev pub ShowsOnce : Effect → Type 0
ShowsOnce (Establish d) = Unit {0}
ShowsOnce (Answer line) = Unit {0}
ShowsOnce (Show hearers line) = IsEachOnce hearers
ShowsOnce (Copy line) = Unit {0}

abbrev pub AllShowOnce : List Effect → Type 0
AllShowOnce es = All ShowsOnce es

-- of each kind of record, where sessions were opened once each
abbrev pub HearersStandOnce : Type 0
HearersStandOnce = (g : Settings) (fs : List Deed) (k : Kind) → IsEachOnce (opened_in fs)
    → AllShowOnce (effects g fs k)

abbrev pub opens : Kind → Bool
opens (kind.Opened s host) = true
opens k = false

abbrev pub RecordsOpenNoOthers : Type 0
RecordsOpenNoOthers = (g : Settings) (fs : List Deed) (k : Kind) → IsEachOnce (opened_in fs) → opens k ≡ false
    → opened_in (after fs (deeds g fs k)) ≡ opened_in fs

-- the lines that answer a session's line
abbrev pub NoLineOpensABatch : Type 0
NoLineOpensABatch = (g : Settings) (fs : List Deed) (s : ℕ) (asked : Asked) → IsEachOnce (opened_in fs)
    → All (λ l. l.command ≢ codes "BATCH") (reply s (of_asked g fs s asked))
