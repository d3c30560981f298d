-- What follows from the definitions for a user: this project's own promise.
use Rattle.std.specs.Prelude.{◌≡◌, ℕ, ℤ, ◌+◌, ◌≤◌, true, false, List, [], ◌∷◌, ◌++◌, length, Some}
use Rattle.line_grammar.specs.declared.splitter.Piece.{Piece}
use Rattle.line_grammar.specs.Lines.{lines}
use Rattle.chronicle.specs.declared.record.Kind.{Kind}
use Rattle.chronicle.specs.declared.record.Kind.TheVariants.{Said}
use Rattle.chronicle.specs.History.{Rec, accepted, is_quit, misses, shut}
use Rattle.numerics.specs.declared.outgoing.Out.{Out}
use Rattle.registration.specs.declared.settings.Settings.{Settings}
use Rattle.deliveries.specs.declared.delivery.Delivery.{Delivery}
use Rattle.deliveries.specs.declared.delivery.Delivery.TheVariants.{Lines, Last}
use Rattle.labels_batches.specs.declared.answers.Tagged.{Tagged}
use Rattle.labels_batches.specs.Labels.{label_of}
use Rattle.labels_batches.specs.Rendered.{text_as}
use Rattle.labels_batches.specs.Answers.{whole_answer}
use Rattle.labels_batches.specs.Whole.{HasLabelFirst, IsClosed, IsLone}
use Rattle.roster.specs.LookBack.{caps}
use Rattle.commands.specs.Asked.{asked_of}
use Rattle.transactions.specs.declared.effect.Effect.{Effect}
use Rattle.transactions.specs.Effects.{copies, reply}
use Rattle.deeds.specs.Rows.{of_asked}
use Rattle.deeds.specs.Deeds.{effects, facts}
use Rattle.record_laws.specs.Laws.{AllShowOnce}
use Rattle.deliveries.specs.Owed.{owed}
use Rattle.book.specs.Legal.{IsLegal}
use Rattle.interleave.specs.State.{State, IsSound, ForEach, inbox_at, taken_of}
use Rattle.interleave.specs.Order.{IsPrefix, IsRising}

-- a history owes a session at most one delivery of each record, in the order of the records
abbrev pub OnceInOrder : Type 0
OnceInOrder = (g : Settings) (h : List Rec) (t : ℕ) → IsRising (owed g h t)

-- a session is sent at most one delivery of each record, in the order of the records, with none left out that it is
-- owed before
abbrev pub TakenInOrder : Type 0
TakenInOrder = (m : State) → IsSound m
    → ForEach m (λ t. IsRising (taken_of m t) × IsPrefix (taken_of m t) (owed m.book.settings m.book.history t))

-- the accepted lines of a session are the first of the lines that it sent
abbrev pub AcceptedIsPrefixOfSent : Type 0
AcceptedIsPrefixOfSent = (m : State) → IsSound m
    → ForEach m (λ t. IsPrefix (accepted m.book.history t) (lines (inbox_at m t).fed))

-- the ERROR line, or nothing
abbrev pub IsErrorAtMost : List Delivery → Type 0
IsErrorAtMost [] = Unit {0}
IsErrorAtMost (Last n why ∷ []) = Unit {0}
IsErrorAtMost xs = ⊥

-- the record after which a session is shut owes it the ERROR line at most, beside what it was owed before, and later
-- records nothing
abbrev pub IsQuietAfterTheClose : Settings → List Rec → Type 0
IsQuietAfterTheClose g history = (later : List Rec) (r : Rec) (h : List Rec) (t : ℕ)
    → history ≡ later ++ r ∷ h → shut (r ∷ h) t ≡ true
    → (end : List Delivery) × IsErrorAtMost end × (owed g history t ≡ owed g h t ++ end)

abbrev pub ErrorAtMostAfterTheClose : Type 0
ErrorAtMostAfterTheClose = (g : Settings) (history : List Rec) → IsQuietAfterTheClose g history

-- ---- lines with a label

-- an accepted line with a label, and the records before and after its own
pub record Request : Type 0 where
  pub before : List Rec
  pub later : List Rec
  pub number : ℕ
  pub moment : ℤ
  pub missed : List ℕ
  pub session : ℕ
  pub index : ℕ
  pub piece : Piece
  pub label : List ℕ

abbrev pub record_of : Request → Rec
record_of q = record { number = q.number; moment = q.moment; kind = Said q.session q.index q.piece; missed = q.missed }

-- its label counts by what its session had before it, it isn't QUIT, and its record doesn't miss the session
pub record IsRequest (g : Settings) (history : List Rec) (q : Request) : Type 0 where
  pub split : history ≡ q.later ++ record_of q ∷ q.before
  pub counts : label_of (caps (facts g q.before) q.session) q.piece ≡ Some q.label
  pub no_quit : is_quit q.piece ≡ false
  pub met : misses (record_of q) q.session ≡ false

-- what its record does
abbrev pub effects_of : Settings → Request → List Effect
effects_of g q = of_asked g (facts g q.before) q.session (asked_of q.piece)

-- the lines that answer it, and what its session sent to itself
abbrev pub reply_to : Settings → Request → List Out
reply_to g q = reply q.session (effects_of g q)

abbrev pub copies_of : Settings → Request → List Out
copies_of g q = copies (effects_of g q)

-- the lines of its record to its session
abbrev pub answer_to : Settings → Request → List Tagged
answer_to g q = whole_answer g.server (Some q.label) (length q.before + 1) (reply_to g q) (copies_of g q)

-- it is answered once: one delivery, after what was owed before it and before what is owed later, is those lines and
-- no others as the session takes them
abbrev pub IsAnsweredOnce : Settings → List Rec → Type 0
IsAnsweredOnce g history =
    (q : Request) → IsRequest g history q
    → (rest : List Delivery) × (owed g history q.session ≡ owed g q.before q.session ++ Lines (length q.before + 1)
    (text_as (caps (facts g q.before) q.session) q.moment (answer_to g q)) ∷ rest)

-- the first of those lines has the label, and no other
abbrev pub IsLabelledFirst : Settings → List Rec → Type 0
IsLabelledFirst g history = (q : Request) → IsRequest g history q → HasLabelFirst q.label (answer_to g q)

-- an answer of one line at most is one line with the label, which opens no batch
abbrev pub IsLoneUnbatched : Settings → List Rec → Type 0
IsLoneUnbatched g history = (q : Request) → IsRequest g history q → length (reply_to g q) ≤ 1
    → IsLone q.label (copies_of g q) (answer_to g q)

-- an answer of several lines is a batch that is closed, whose reference is the record's number at both ends
abbrev pub IsBatchClosed : Settings → List Rec → Type 0
IsBatchClosed g history = (q : Request) → IsRequest g history q → 2 ≤ length (reply_to g q)
    → IsClosed g.server q.label (length q.before + 1) (reply_to g q) (copies_of g q) (answer_to g q)

abbrev pub LabelledOnce : Type 0
LabelledOnce = (g : Settings) (history : List Rec) → IsLegal g history → IsAnsweredOnce g history

abbrev pub LabelledFirst : Type 0
LabelledFirst = (g : Settings) (history : List Rec) → IsLabelledFirst g history

abbrev pub LoneUnbatched : Type 0
LoneUnbatched = (g : Settings) (history : List Rec) → IsLegal g history → IsLoneUnbatched g history

abbrev pub BatchClosed : Type 0
BatchClosed = (g : Settings) (history : List Rec) → IsBatchClosed g history

-- ---- hearers

-- each line of any record after a legal history is shown to each of its hearers once
abbrev pub HeardOnce : Type 0
HeardOnce = (g : Settings) (history : List Rec) (k : Kind) → IsLegal g history
    → AllShowOnce (effects g (facts g history) k)
