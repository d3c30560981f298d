-- What hearers hear of a record, and the deliveries that are made of it.
use Rattle.std.specs.Prelude.{ℕ, ℤ, ◌≡◌, ◌<◌, ◌≤◌, ◌+◌, ◌==◌, cond, List, [], ◌∷◌, ◌++◌, filter, map, slice_get}
use Rattle.std.specs.List.{flat_map}
use Rattle.std.specs.Option.{option_map_or}
use Rattle.numerics.specs.declared.outgoing.Out.{Out}
use Rattle.roster.specs.declared.deed.Deed.{Deed}
use Rattle.roster.specs.LookBack.{caps}
use Rattle.labels_batches.specs.Spellings.{Spelled, spelled_for}
use Rattle.transactions.specs.declared.verdict.ShownLine.{ShownLine}
use Rattle.ledger.specs.declared.fan_out.Heard.{Heard}
use Rattle.ledger.specs.declared.fan_out.Hearing.{Hearing}
use Rattle.ledger.specs.declared.line_texts.Whole.{Whole}
use Rattle.ledger.specs.declared.plan.Planned.{Planned}
use Rattle.ledger.specs.declared.seat.Seat.{Seat}
use Rattle.ledger.specs.Ledger.{puts}
use Rattle.ledger.specs.Seats.{told_here}

-- a line as t takes it, by the capabilities that it has
abbrev pub heard_by : List Deed → ℤ → Out → ℕ → Heard
heard_by fs moment line t = record { session = t; text = spelled_for (caps fs t) moment line }

-- lines as each of their hearers takes them
abbrev pub all_heard : List Deed → ℤ → List ShownLine → List Heard
all_heard fs moment xs = flat_map (λ x. map (heard_by fs moment x.line) x.hearers) xs

-- t hears the line of a number, and takes it by the capabilities that it has
abbrev pub hearing_of : List Deed → ℕ → ℕ → Hearing
hearing_of fs line t = record { session = t; caps = caps fs t; line = line }

-- who hears lines that are shown, of which the first has number k
abbrev pub hearings : List Deed → ℕ → List ShownLine → List Hearing
hearings fs k [] = []
hearings fs k (x ∷ xs) = map (hearing_of fs k) x.hearers ++ hearings fs (k + 1) xs

-- a line that is shown, at the moment of its record
abbrev pub spelled_at : ℤ → ShownLine → Spelled
spelled_at moment x = record { line = x.line; moment = moment }

-- what is heard of lines by who hears one of them
abbrev pub text_of : List Spelled → Hearing → List ℕ
text_of ls x = option_map_or (λ l. spelled_for x.caps l.moment l.line) (slice_get ls x.line) []

abbrev pub heard_of : List Spelled → Hearing → Heard
heard_of ls x = record { session = x.session; text = text_of ls x }

-- a text is what some of these lines make
abbrev pub IsWhole : List Spelled → Whole → Type 0
IsWhole ls x = x.text ≡ flat_map (text_of ls) x.parts.items

-- the texts of t, one after another
abbrev pub text_for : List Heard → ℕ → List ℕ
text_for xs t = flat_map (λ x. x.text) (filter (λ x. x.session == t) xs)

-- texts stand by the numbers of their sessions, from number k on
abbrev pub rises : ℕ → List Heard → Type 0
rises k [] = Unit {0}
rises k (x ∷ xs) = (k ≤ x.session) × rises x.session xs

-- sessions stand by their numbers, each once, after number k
abbrev pub ascends : ℕ → List ℕ → Type 0
ascends k [] = Unit {0}
ascends k (t ∷ ts) = (k < t) × ascends t ts

-- a text and those after it, where those of one session that stand side by side are made one
abbrev pub joined_to : Heard → List Heard → List Heard
joined_to x [] = x ∷ []
joined_to x (y ∷ ys) = cond (y.session == x.session)
    (joined_to (record { session = x.session; text = x.text ++ y.text }) ys) (x ∷ joined_to y ys)

abbrev pub one_each : List Heard → List Heard
one_each [] = []
one_each (x ∷ xs) = joined_to x xs

-- the delivery of a text to a session that isn't s
abbrev pub delivery_of : List Seat → ℕ → ℕ → Heard → List Planned
delivery_of seats s number x = cond (x.session == s) [] (puts x.session (told_here seats number x.session x.text))

abbrev pub deliveries_of : List Seat → ℕ → ℕ → List Heard → List Planned
deliveries_of seats s number xs = flat_map (delivery_of seats s number) xs
