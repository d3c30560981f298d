use Rattle.std.proofs.Common.{◌≡◌, arith, true, false, ◌∙◌}
use Rattle.std.proofs.lemmas.Grind.{common_steps}
use Rattle.scripts.proofs.Late.{one_more, last_one}
use Rattle.scripts.proofs.player.Player.hang_all.Goals as goal

pub loop-preserved : goal.loop-preserved
loop-preserved g c =
    let is : c.in_ok-hang_next.field-0 ≡ true = grind (arith, common_steps) in
    record {
      hung = one_more c.loop.counter c.args.moment c.args.self.now.play c.loop.self.play c.hang_next.new.self.play
          c.in_ok-hang_next.field-0 _ _ _ c.loop.invariant.hung c.in_ok-hang_next.ensures.step is;
      hosts = c.hang_next.ensures.hosts ∙ c.loop.invariant.hosts;
      same = c.in_ok-hang_next.ensures.same ∙ c.loop.invariant.same;
    }

pub returns-then-not-branch-clause-step : goal.returns-then-not-branch-clause-step
returns-then-not-branch-clause-step g c =
    let is : c.in_ok-hang_next.field-0 ≡ false = grind (arith, common_steps) in
    last_one c.loop.counter c.args.moment c.args.self.now.play c.loop.self.play c.hang_next.new.self.play
    c.in_ok-hang_next.field-0 _ _ _ c.loop.invariant.hung c.in_ok-hang_next.ensures.step is
