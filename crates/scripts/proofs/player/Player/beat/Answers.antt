use Rattle.scripts.proofs.Late.{beat_done}
use Rattle.scripts.proofs.player.Player.beat.Goals as goal

pub returns-in-Ok-clause-step : goal.returns-in-Ok-clause-step
returns-in-Ok-clause-step g c =
    beat_done c.hang_all.result c.args.moment c.args.self.now.play c.tick-answer.new.play c.hang_all.new.self.play
    c.tick-answer.result c.in-Ok.field-0 _ _ _ c.tick-answer.ensures c.in-Ok.is c.in_ok-tell.ensures.written
    c.hang_all.ensures.step
