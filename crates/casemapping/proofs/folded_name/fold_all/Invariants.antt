use Rattle.std.proofs.Common.{◌≡◌, ◌++◌, take, drop}
use Rattle.casemapping.specs.Fold.{name_fold}
use Rattle.casemapping.proofs.folded_name.fold_all.Given as goal

abbrev pub invariant-loop-octet : goal.invariant-loop-octet
invariant-loop-octet l = l.octet-items ≡ name_fold (take l.octet-index l.fn.octets.items)
    ++ drop l.octet-index l.fn.octets.items
