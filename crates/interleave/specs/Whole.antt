-- An answer to a labelled line is given once, and whole, as whoever receives its octets reads them: IRCv3
-- labeled-response ("Servers") and IRCv3 batch.
use Rattle.std.specs.Prelude.{◌≡◌, ◌⊎◌, ℕ, ◌+◌, ◌<◌, ◌^◌, List, map, length, decimal, None}
use Rattle.std.specs.List.{Contains}
use Rattle.chronicle.specs.History.{Rec}
use Rattle.registration.specs.declared.settings.Settings.{Settings}
use Rattle.labels_batches.specs.Answers.{tagged_as}
use Rattle.labels_batches.specs.Rendered.{text_as}
use Rattle.answer_octets.specs.Laws.{IsBatchText, IsLoneText}
use Rattle.answer_octets.specs.TextLines.{label_answers}
use Rattle.clean_records.specs.Clean.{IsCleanHistory, IsServing}
use Rattle.roster.specs.LookBack.{caps}
use Rattle.deeds.specs.Deeds.{facts}
use Rattle.deliveries.specs.declared.delivery.Delivery.{Delivery}
use Rattle.deliveries.specs.declared.delivery.Delivery.TheVariants.{Lines}
use Rattle.deliveries.specs.Owed.{number_of, owed}
use Rattle.deliveries.specs.Text.{delivery_text}
use Rattle.book.specs.Legal.{IsLegal}
use Rattle.interleave.specs.Laws.{IsRequest, Request, copies_of}

-- a delivery as its number and its octets, on the link from this host
abbrev pub octets_of : List ℕ → Delivery → ℕ × List ℕ
octets_of host d = (number_of d, delivery_text d host)

-- the number of a labelled line's record
abbrev pub number_at : Request → ℕ
number_at q = length q.before + 1

-- the octets of what its session sent to itself
abbrev pub copies_text : Settings → Request → List ℕ
copies_text g q = text_as (caps (facts g q.before) q.session) q.moment (map (tagged_as None) (copies_of g q))

-- among all lines of the deliveries of its record's number one has a label; and the answer is one of these deliveries,
-- and whole: one line that opens no batch, or a batch that is closed
pub record IsAnsweredWhole (g : Settings) (history : List Rec) (q : Request) : Type 0 where
  pub text : List ℕ
  pub owes : Contains (owed g history q.session) (Lines (number_at q) text)
  pub once : (host : List ℕ) → label_answers (map (octets_of host) (owed g history q.session)) (number_at q) ≡ 1
  pub whole : IsLoneText q.label (copies_text g q) text
      ⊎ IsBatchText q.label (decimal (number_at q)) (copies_text g q) text

abbrev pub IsAnsweredOnceAndWhole : Settings → List Rec → Type 0
IsAnsweredOnceAndWhole g history = (q : Request) → IsRequest g history q → IsAnsweredWhole g history q

-- where hosts have their shape, accounts that of nicknames, pieces are one line each, and record numbers have 64 bits
abbrev pub AnsweredOnceAndWhole : Type 0
AnsweredOnceAndWhole = (g : Settings) (history : List Rec) → IsServing g → IsLegal g history → IsCleanHistory history
    → length history < 2 ^ 64 → IsAnsweredOnceAndWhole g history
