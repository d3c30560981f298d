use Rattle.std.proofs.Common.{◌≡◌, [], vec_len}
use Rattle.message_tags.specs.ClientOnly.{spellings}
use Rattle.message_tags.proofs.ClientLemmas.{joined_onto}
use Rattle.message_tags.proofs.LastLemmas.{left_spellings}
use Rattle.message_tags.proofs.client.data_of_many.Given as goal

-- what is left, added to the tag data so far, gives the whole
abbrev pub invariant-loop-tag : goal.invariant-loop-tag
invariant-loop-tag l = joined_onto l.tag_data.items (left_spellings l.left.items) ≡ joined_onto [] (spellings l.tags)

abbrev pub decreases-loop-tag : goal.decreases-loop-tag
decreases-loop-tag l = vec_len l.left
