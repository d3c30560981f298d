use Rattle.std.proofs.Common.{◌≡◌, drop}
use Rattle.std.specs.Io.KnownBytes.{prepend_known}
use Rattle.scripts.specs.Escapes.{octets_from, text_octets, HasDigit}
use Rattle.scripts.proofs.escape.unescape.Given as goal

-- the octets so far and those that the rest spells are those of the text
abbrev pub invariant-loop-octet : goal.invariant-loop-octet
invariant-loop-octet l =
    record {
      digit : HasDigit l.place;
      told : prepend_known l.octets.items (octets_from l.place (drop l.octet-index l.text)) ≡ text_octets l.text;
    }
