-- An answer to a labelled line is given once, and whole: IRCv3 labeled-response ("Servers") and IRCv3 batch.
use Rattle.std.specs.Prelude.{◌≡◌, ◌≢◌, ℕ, ◌≤◌, Bool, true, false, List, ◌∷◌, ◌++◌, filter, map}
use Rattle.std.specs.Prelude.{length, codes, decimal, slice_get, Option, Some, None}
use Rattle.std.specs.List.{All}
use Rattle.numerics.specs.declared.outgoing.Out.{Out}
use Rattle.labels_batches.specs.declared.answers.AnswerTag.{AnswerTag}
use Rattle.labels_batches.specs.declared.answers.AnswerTag.TheVariants.{Label}
use Rattle.labels_batches.specs.declared.answers.Tagged.{Tagged}
use Rattle.labels_batches.specs.Answers.{whole_answer, batch_ends, batch_opens, as_batch, tagged_as}

abbrev pub is_label_tag : Option AnswerTag → Bool
is_label_tag (Some (Label label)) = true
is_label_tag tag = false

-- how many lines have a label
abbrev pub labels : List Tagged → ℕ
labels ls = length (filter (λ l. is_label_tag l.tag) ls)

-- the first line has the label, and no line after it has one
pub record HasLabelFirst (label : List ℕ) (ls : List Tagged) : Type 0 where
  pub first : Out
  pub later : List Tagged
  pub lines : ls ≡ tagged_as (Some (Label label)) first ∷ later
  pub no_other : labels later ≡ 0

-- one line answers, and opens no batch; what the session sent to itself follows
pub record IsLone (label : List ℕ) (copies : List Out) (ls : List Tagged) : Type 0 where
  pub line : Out
  pub lines : ls ≡ tagged_as (Some (Label label)) line ∷ map (tagged_as None) copies
  pub opens_none : line.command ≢ codes "BATCH"

-- the line that opens a batch has the label, two lines or more follow with its reference, and then the line that
-- ends it; what the session sent to itself follows. The reference is the record's number n at both ends
pub record IsClosed (server label : List ℕ) (n : ℕ) (between copies : List Out) (ls : List Tagged) : Type 0 where
  pub several : 2 ≤ length between
  pub lines : ls ≡ as_batch server label n between ++ map (tagged_as None) copies
  pub opens : slice_get (batch_opens server n).params 0 ≡ Some (codes "+" ++ decimal n)
  pub ends : slice_get (batch_ends server n).params 0 ≡ Some (codes "-" ++ decimal n)

-- no line of these is a BATCH
abbrev pub OpensNoBatch : List Out → Type 0
OpensNoBatch ls = All (λ l. l.command ≢ codes "BATCH") ls

-- ---- what holds of every answer to a label

abbrev pub LabelFirst : Type 0
LabelFirst = (server label : List ℕ) (n : ℕ) (reply copies : List Out)
    → HasLabelFirst label (whole_answer server (Some label) n reply copies)

-- of one line at most, which opens no batch by itself
abbrev pub LoneOpensNone : Type 0
LoneOpensNone = (server label : List ℕ) (n : ℕ) (reply copies : List Out) → length reply ≤ 1 → OpensNoBatch reply
    → IsLone label copies (whole_answer server (Some label) n reply copies)

-- of several lines
abbrev pub SeveralAreClosed : Type 0
SeveralAreClosed = (server label : List ℕ) (n : ℕ) (reply copies : List Out) → 2 ≤ length reply
    → IsClosed server label n reply copies (whole_answer server (Some label) n reply copies)
