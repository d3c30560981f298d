use Rattle.std.proofs.Common.{◌≡◌, ◌++◌, drop}
use Rattle.scripts.specs.Escapes.{printed_text}
use Rattle.scripts.proofs.notes.print_all.Given as goal

abbrev pub invariant-loop-octet : goal.invariant-loop-octet
invariant-loop-octet l = l.out.items ++ printed_text (drop l.octet-index l.octets) ≡ l.fn.out.items
    ++ printed_text l.octets
