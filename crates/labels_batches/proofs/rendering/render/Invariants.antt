use Rattle.std.proofs.Common.{◌≡◌, take}
use Rattle.labels_batches.specs.Rendered.{text_as}
use Rattle.labels_batches.proofs.rendering.render.Given as goal

abbrev pub invariant-loop-line : goal.invariant-loop-line
invariant-loop-line l = l.text ≡ text_as l.caps l.moment (take l.line-index l.lines)
