use Rattle.std.proofs.Common.{◌≡◌, ◌+◌, ◌≤◌, drop, length}
use Rattle.message_tags.specs.Value.{value, left_of}
use Rattle.message_tags.proofs.escaping.unescaped_len.Given as goal

-- the octets so far, and what is left means
abbrev pub invariant-loop-octet : goal.invariant-loop-octet
invariant-loop-octet l = record {
  so_far : l.len + length (value (left_of l.after_backslash (drop l.octet-index l.escaped)))
      ≡ length (value l.escaped);
  few : l.len ≤ l.octet-index;
}
