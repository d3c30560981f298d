use Rattle.std.proofs.Common.{◌≡◌, map, length, take, reverse}
use Rattle.message_tags.proofs.LastLemmas.{last_found, HasKeys}
use Rattle.message_tags.proofs.client.last_of_keys.Given as goal

-- the tags so far, the last first
abbrev pub invariant-loop-tag : goal.invariant-loop-tag
invariant-loop-tag l = record {
  found : map (λ tag. tag.now) l.found.items ≡ last_found (take (length l.yielded) (reverse l.tags));
  keys : HasKeys l.keys (take (length l.yielded) (reverse l.tags));
}
