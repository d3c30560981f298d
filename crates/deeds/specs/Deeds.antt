-- What each kind of record does, and so the facts of a history and the lines of a record: RFC 2812, section 3.1
-- (registration, QUIT).
use Rattle.std.specs.Prelude.{ℕ, ℤ, ◌==◌, cond, List, [], ◌∷◌, map, Option, None}
use Rattle.commands.specs.Asked.{asked_of}
use Rattle.registration.specs.declared.settings.Settings.{Settings}
use Rattle.chronicle.specs.declared.record.Kind.{Kind}
use Rattle.chronicle.specs.declared.record.Kind.TheVariants as kind
use Rattle.chronicle.specs.History.{Rec, actor}
use Rattle.labels_batches.specs.declared.answers.Tagged.{Tagged}
use Rattle.labels_batches.specs.Labels.{label_of}
use Rattle.labels_batches.specs.Answers.{whole_answer, tagged_as}
use Rattle.labels_batches.specs.Rendered.{text_as}
use Rattle.roster.specs.declared.deed.Deed.{Deed}
use Rattle.roster.specs.declared.deed.Deed.TheVariants.{Opened, Ended}
use Rattle.roster.specs.LookBack.{after, caps}
use Rattle.transactions.specs.declared.effect.Effect.{Effect}
use Rattle.transactions.specs.declared.effect.Effect.TheVariants.{Establish}
use Rattle.transactions.specs.Effects.{deeds_of, reply, copies, due}
use Rattle.deeds.specs.Departure.{departs}
use Rattle.deeds.specs.Rows.{of_asked}

-- what a record does, on a server of these settings. What a tick tells goes by moments, which facts don't have:
-- `told` of what a history owes says it
abbrev pub effects : Settings → List Deed → Kind → List Effect
effects g fs (kind.Opened s h) = Establish (Opened s h) ∷ []
effects g fs (kind.Said s i piece) = of_asked g fs s (asked_of piece)
effects g fs (kind.Hung s w) = Establish (Ended s w []) ∷ []
effects g fs (kind.Gone s) = departs fs s
effects g fs kind.Ticked = []

-- the facts that it establishes, in order
abbrev pub deeds : Settings → List Deed → Kind → List Deed
deeds g fs k = deeds_of (effects g fs k)

-- all facts of a history, the newest first
abbrev pub facts : Settings → List Rec → List Deed
facts g [] = []
facts g (r ∷ h) = after (facts g h) (deeds g (facts g h) r.kind)

-- the label of its line, where that counts by the capabilities that the session had before it
abbrev pub label_in : List Deed → Kind → Option (List ℕ)
label_in fs (kind.Said s i piece) = label_of (caps fs s) piece
label_in fs k = None

-- all lines of record n of s to t: to s itself the answer, under this label, and what it sent to itself; to another
-- what it is shown
abbrev pub lines : Settings → ℕ → Option (List ℕ) → List Effect → ℕ → ℕ → List Tagged
lines g s label es n t = cond (s == t) (whole_answer g.server label n (reply s es) (copies es))
    (map (tagged_as None) (due es t))

-- as t takes them at the record's moment, by the capabilities that it had before it
abbrev pub octets_for : Settings → List Deed → ℕ → Option (List ℕ) → List Effect → ℤ → ℕ → ℕ → List ℕ
octets_for g fs s label es moment n t = text_as (caps fs t) moment (lines g s label es n t)

-- the text of record n of this kind and moment to t
abbrev pub text : Settings → List Deed → Kind → ℤ → ℕ → ℕ → List ℕ
text g fs k moment n t = octets_for g fs (actor k) (label_in fs k) (effects g fs k) moment n t
