use Rattle.std.proofs.Common.{◌≡◌, length, take}
use Rattle.std.specs.Option.{option_map}
use Rattle.message_tags.specs.Value.{value}
use Rattle.message_tags.specs.Tags.{last_value, parts_of}
use Rattle.message_tags.proofs.TagsLemmas.{tags_in}
use Rattle.message_tags.proofs.reading.last_raw_value.Given as goal

-- the last tag with the key among the parts so far
abbrev pub invariant-loop-part : goal.invariant-loop-part
invariant-loop-part l = option_map (λ raw. value raw.now) l.found
    ≡ last_value (tags_in (take (length l.yielded) (parts_of l.tag_data))) l.key
