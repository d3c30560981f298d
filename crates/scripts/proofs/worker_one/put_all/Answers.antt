use Rattle.std.proofs.Common.{arith, ◌≡◌, true, false}
use Rattle.std.specs.Prelude.{is_err}
use Rattle.std.proofs.lemmas.Grind.{common_steps}
use Rattle.scripts.proofs.Puts.{put_last, put_more, not_err}
use Rattle.scripts.proofs.worker_one.put_all.Goals as goal

pub loop-preserved : goal.loop-preserved
loop-preserved g c =
    let went : is_err c.step.result ≡ false = grind (arith, common_steps) in
    let note = not_err c.step.result went in
    put_more c.loop.counter c.args.play.now c.loop.play c.step.new.self c.new-worker.result note.0 c.step.result
    c.loop.invariant c.new-worker.ensures note.1 c.step.ensures.step

pub returns-then-is_err : goal.returns-then-is_err
returns-then-is_err g c =
    let refused : is_err c.step.result ≡ true = grind (arith, common_steps) in
    put_last c.loop.counter c.args.play.now c.loop.play c.step.new.self c.new-worker.result c.step.result
    c.loop.invariant c.new-worker.ensures refused c.step.ensures.step
