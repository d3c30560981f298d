use Rattle.std.proofs.Common.{◌≡◌, map, take}
use Rattle.session_commands.specs.Negotiation.{cap_text}
use Rattle.session_commands.proofs.negotiation.cap_texts.Given as goal

abbrev pub invariant-loop-cap : goal.invariant-loop-cap
invariant-loop-cap l = l.texts.items ≡ map (cap_text l.shows_values) (take l.cap-index l.caps)
