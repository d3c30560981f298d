-- Lines that all begin with the same tags, as a receiver takes them: IRCv3 message-tags.
use Rattle.std.specs.Prelude.{ℕ, Bool, List, [], ◌∷◌, ◌++◌, map, not, ◌&&◌, ◌==◌, length, Option, Some, None}
use Rattle.numerics.specs.declared.outgoing.Out.{Out}
use Rattle.numerics.specs.Outgoing.{octets}
use Rattle.registration.specs.declared.caps.Cap.TheVariants.{MessageTags, ServerTime}
use Rattle.registration.specs.declared.caps.Caps.{Caps}
use Rattle.registration.specs.Caps.{is_on}
use Rattle.labels_batches.specs.declared.answers.AnswerTag.{AnswerTag}
use Rattle.labels_batches.specs.declared.answers.AnswerTag.TheVariants.{Label, Batch}
use Rattle.labels_batches.specs.declared.answers.Tagged.{Tagged}
use Rattle.labels_batches.specs.Answers.{batch_ends, batch_opens, tagged_as}
use Rattle.labels_batches.specs.Rendered.{with_end, relayed_tags}

-- a line after these tags and its client's
abbrev pub with_head : Caps → List ℕ → Out → List ℕ
with_head caps head l = with_end (relayed_tags caps l.tags head) ++ octets l

-- a batch whose first line has this tag
abbrev pub batched_as : List ℕ → Option AnswerTag → ℕ → List Out → List Tagged
batched_as server tag n ls =
    tagged_as tag (batch_opens server n) ∷ map (tagged_as (Some (Batch n))) ls
    ++ tagged_as None (batch_ends server n) ∷ []

-- whether a line without a label goes out without tags
abbrev pub is_bare : Caps → Out → Bool
is_bare caps l = not (is_on caps ServerTime) && not (is_on caps MessageTags && not (length l.tags == 0))

-- the tag of an answer of one line
abbrev pub label_mark : Option (List ℕ) → Option AnswerTag
label_mark None = None
label_mark (Some label) = Some (Label label)
