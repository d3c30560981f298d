use Rattle.std.proofs.Common.{◌≡◌, List, length, take}
use Rattle.std.specs.List.{flat_map}
use Rattle.labels_batches.specs.Spellings.{Spelled}
use Rattle.ledger.specs.FanOut.{text_of}
use Rattle.ledger.proofs.line_texts.hear_alike.Given as goal

-- what was compared so far makes the same text
abbrev pub invariant-loop-place : goal.invariant-loop-place
invariant-loop-place l = record {
  long : length l.some ≡ length l.others;
  alike : (ls : List Spelled) → flat_map (text_of ls) (take l.place l.some)
      ≡ flat_map (text_of ls) (take l.place l.others);
}
