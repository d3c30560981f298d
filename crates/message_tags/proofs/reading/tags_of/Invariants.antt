use Rattle.std.proofs.Common.{◌≡◌, length, take}
use Rattle.message_tags.specs.Tags.{parts_of}
use Rattle.message_tags.proofs.TagsLemmas.{tags_in}
use Rattle.message_tags.proofs.reading.tags_of.Given as goal

-- the tags of the parts so far
abbrev pub invariant-loop-part : goal.invariant-loop-part
invariant-loop-part l = l.tags.items ≡ tags_in (take (length l.yielded) (parts_of l.tag_data))
