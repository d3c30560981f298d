use Rattle.std.proofs.Common.{◌≡◌, take}
use Rattle.std.specs.List.{flat_map}
use Rattle.ledger.specs.FanOut.{text_of}
use Rattle.ledger.proofs.line_texts.LineTexts.whole_of.Given as goal

-- what was heard so far
abbrev pub invariant-loop-hearing : goal.invariant-loop-hearing
invariant-loop-hearing l = record {
  same : l.self ≡ l.fn.self;
  octets : l.octets ≡ flat_map (text_of l.fn.self) (take l.hearing-index l.run);
}
