use Rattle.std.proofs.Common.{◌≡◌, ◌++◌, drop}
use Rattle.message_tags.specs.Value.{value, left_of}
use Rattle.message_tags.proofs.escaping.unescape.Given as goal

-- the octets so far, and what is left means
abbrev pub invariant-loop-octet : goal.invariant-loop-octet
invariant-loop-octet l = l.octets.items ++ value (left_of l.after_backslash (drop l.octet-index l.escaped))
    ≡ value l.escaped
