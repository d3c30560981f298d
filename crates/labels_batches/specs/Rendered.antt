-- Lines with their tags, as a receiver takes them: IRCv3 message-tags ("Format"), IRCv3 server-time, IRCv3
-- labeled-response and IRCv3 batch. The order of the tags is this project's own.
use Rattle.std.specs.Prelude.{ℕ, ◌==◌, ℤ, ◌&&◌, not, List, [], ◌++◌, length, codes}
use Rattle.std.specs.Prelude.{decimal, Option, Some, None, if◌then◌else◌}
use Rattle.std.specs.List.{flat_map}
use Rattle.message_tags.specs.Value.{escapes_of}
use Rattle.numerics.specs.CivilTime.{time_text}
use Rattle.numerics.specs.Outgoing.{octets}
use Rattle.registration.specs.declared.caps.Cap.TheVariants.{MessageTags, ServerTime}
use Rattle.registration.specs.declared.caps.Caps.{Caps}
use Rattle.registration.specs.Caps.{is_on}
use Rattle.labels_batches.specs.declared.answers.AnswerTag.{AnswerTag}
use Rattle.labels_batches.specs.declared.answers.AnswerTag.TheVariants.{Label, Batch}
use Rattle.labels_batches.specs.declared.answers.Tagged.{Tagged}

-- the first tag stands after `@`, each other after `;`
abbrev pub with_tag : List ℕ → List ℕ → List ℕ
with_tag block tag = block ++ ((if length block == 0 then codes "@" else codes ";") ++ tag)

abbrev pub tag_text : AnswerTag → List ℕ
tag_text (Label label) = codes "label=" ++ escapes_of label
tag_text (Batch n) = codes "batch=" ++ decimal n

-- first the label, or the batch
abbrev pub answered_tag : Option AnswerTag → List ℕ
answered_tag None = []
answered_tag (Some tag) = with_tag [] (tag_text tag)

-- then the moment of the record, for who takes it
abbrev pub with_time : Caps → ℤ → List ℕ → List ℕ
with_time caps m block = if is_on caps ServerTime then with_tag block (codes "time=" ++ time_text m) else block

-- then the tags of another client, for who takes them
abbrev pub relayed_tags : Caps → List ℕ → List ℕ → List ℕ
relayed_tags caps tags block = if is_on caps MessageTags && not (length tags == 0) then with_tag block tags else block

abbrev pub tag_block : Caps → ℤ → Tagged → List ℕ
tag_block caps m t = relayed_tags caps t.line.tags (with_time caps m (answered_tag t.tag))

-- a space ends them
abbrev pub with_end : List ℕ → List ℕ
with_end block = if length block == 0 then block else block ++ codes " "

unfoldable pub spelled_line : Caps → ℤ → Tagged → List ℕ
spelled_line caps m t = with_end (tag_block caps m t) ++ octets t.line

abbrev pub text_as : Caps → ℤ → List Tagged → List ℕ
text_as caps m ts = flat_map (spelled_line caps m) ts
