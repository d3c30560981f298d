-- The answer to a line as its session takes it: IRCv3 labeled-response ("Servers") and IRCv3 batch. That a batch's
-- reference is the record's number is this project's own.
use Rattle.std.specs.Prelude.{ℕ, ◌==◌, false, List, [], ◌∷◌, ◌++◌, map, length, codes}
use Rattle.std.specs.Prelude.{decimal, Option, Some, None, if◌then◌else◌}
use Rattle.numerics.specs.declared.outgoing.Out.{Out}
use Rattle.numerics.specs.Outgoing.{line}
use Rattle.labels_batches.specs.declared.answers.AnswerTag.{AnswerTag}
use Rattle.labels_batches.specs.declared.answers.AnswerTag.TheVariants.{Label, Batch}
use Rattle.labels_batches.specs.declared.answers.Tagged.{Tagged}

abbrev pub tagged_as : Option AnswerTag → Out → Tagged
tagged_as tag l = record { line = l; tag = tag }

-- what answers a line that has no other answer
abbrev pub ack : List ℕ → Out
ack server = line server (codes "ACK") [] false

-- what opens the batch of record n, and what ends it
abbrev pub batch_opens : List ℕ → ℕ → Out
batch_opens server n = line server (codes "BATCH") ((codes "+" ++ decimal n) ∷ codes "labeled-response" ∷ []) false

abbrev pub batch_ends : List ℕ → ℕ → Out
batch_ends server n = line server (codes "BATCH") ((codes "-" ++ decimal n) ∷ []) false

-- the line that opens it has the label, and those between the reference
abbrev pub as_batch : List ℕ → List ℕ → ℕ → List Out → List Tagged
as_batch server label n ls =
    tagged_as (Some (Label label)) (batch_opens server n) ∷ map (tagged_as (Some (Batch n))) ls
    ++ tagged_as None (batch_ends server n) ∷ []

-- no line is acknowledged, one has the label, several stand in a batch
abbrev pub with_label : List ℕ → List ℕ → ℕ → List Out → List Tagged
with_label server label n ls =
    if length ls == 0 then tagged_as (Some (Label label)) (ack server) ∷ []
    else if length ls == 1 then map (tagged_as (Some (Label label))) ls
    else as_batch server label n ls

abbrev pub wrap_of : List ℕ → Option (List ℕ) → ℕ → List Out → List Tagged
wrap_of server None n ls = map (tagged_as None) ls
wrap_of server (Some label) n ls = with_label server label n ls

-- the answer, and then what the session sent to itself
abbrev pub whole_answer : List ℕ → Option (List ℕ) → ℕ → List Out → List Out → List Tagged
whole_answer server label n reply copies = wrap_of server label n reply ++ map (tagged_as None) copies
