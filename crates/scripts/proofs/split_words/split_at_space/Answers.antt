use Rattle.std.proofs.lemmas.Grind.{common_steps}
use Rattle.std.proofs.Common.{◌≡◌, ◌<◌, length, get_or, ◌+◌, arith, sym, ◌∙◌}
use Rattle.scripts.proofs.Spaces.{after_at, whole}
use Rattle.scripts.proofs.split_words.split_at_space.Goals as goal

pub returns-then-text-i-eq32-clause-after : goal.returns-then-text-i-eq32-clause-after
returns-then-text-i-eq32-clause-after c =
    let at : c.loop-i.i < length c.args.text.now = grind (arith, common_steps) in
    let space : get_or c.args.text.now c.loop-i.i 0 ≡ 32 = grind (arith, common_steps) in
    let found = after_at c.args.text.now c.loop-i.i at c.loop-i.invariant space in
    whole c.args.text.now (c.loop-i.i + 1) ∙ sym found
