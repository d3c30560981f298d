use Rattle.std.proofs.Common.{◌≡◌, ◌++◌, take}
use Rattle.message_tags.specs.Value.{escapes_of}
use Rattle.message_tags.proofs.escaping.push_escaped.Given as goal

abbrev pub invariant-loop-octet : goal.invariant-loop-octet
invariant-loop-octet l = l.line.items ≡ l.fn.line.items ++ escapes_of (take l.octet-index l.value)
