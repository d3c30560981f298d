use Rattle.std.proofs.Common.{◌≡◌, ◌++◌, map}
use Rattle.std.specs.Vec.Iter.{into_iter_items}
use Rattle.ledger.specs.FanOut.{spelled_at}
use Rattle.ledger.proofs.line_texts.LineTexts.new.Given as goal

-- the lines so far, with those that are left
abbrev pub invariant-loop-one : goal.invariant-loop-one
invariant-loop-one l = l.lines.items ++ map (spelled_at l.moment) (into_iter_items l.one-iterator)
    ≡ map (spelled_at l.moment) l.fn.shown.items
