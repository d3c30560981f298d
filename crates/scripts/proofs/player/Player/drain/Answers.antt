use Rattle.std.proofs.lemmas.Grind.{common_steps}
use Rattle.std.proofs.Common.{◌≡◌, arith, true, false, append-nil, ◌∙◌}
use Rattle.scripts.specs.Steps.{is_item}
use Rattle.scripts.proofs.Taken.{item_taken, last_taken}
use Rattle.scripts.proofs.player.Player.drain.Goals as goal

pub loop-preserved : goal.loop-preserved
loop-preserved g c =
    let is : is_item c.in_ok-answer.answer ≡ true = grind (arith, common_steps) in
    let same : c.one.new.self.hosts.items ≡ c.loop.self.hosts.items = c.in_ok-answer.ensures.hosts
    ∙ append-nil c.loop.self.hosts.items in
    record {
      taken = item_taken c.loop.counter c.args.session c.args.self.now.hosts.items c.loop.self.hosts.items
          c.args.self.now.play c.loop.self.play c.one.new.self.play c.in_ok-answer.answer _ _ _
          c.loop.invariant.taken is c.in_ok-answer.ensures.step c.in_ok-answer.ensures.written
          c.loop.invariant.hosts;
      hosts = same ∙ c.loop.invariant.hosts;
      same = c.in_ok-answer.ensures.same ∙ c.loop.invariant.same;
    }

pub returns-then-not-is_item-clause-step : goal.returns-then-not-is_item-clause-step
returns-then-not-is_item-clause-step g c =
    let is : is_item c.in_ok-answer.answer ≡ false = grind (arith, common_steps) in
    let same : c.one.new.self.hosts.items ≡ c.loop.self.hosts.items = c.in_ok-answer.ensures.hosts
    ∙ append-nil c.loop.self.hosts.items in
    let last = last_taken c.loop.counter c.args.session c.args.self.now.hosts.items c.loop.self.hosts.items
    c.args.self.now.play c.loop.self.play c.one.new.self.play c.in_ok-answer.answer _ _ _ c.loop.invariant.taken
    is c.in_ok-answer.ensures.step c.in_ok-answer.ensures.written c.loop.invariant.hosts in
    (last.0, last.1, same ∙ c.loop.invariant.hosts, last.2)
