use Rattle.std.proofs.Common.{ℤ, ap, sym, ◌∙◌, subst}
use Rattle.std.proofs.lemmas.Result.{on_ok_weaker}
use Rattle.chronicle.specs.History.{last_moment}
use Rattle.session_ends.specs.Timing.{IsLater}
use Rattle.session_io.proofs.Moments.{at_later, line_said}
use Rattle.session_io.proofs.doing_lines.line_at.Goals as goal

pub returns : goal.returns
returns g c =
    let m = c.make_room.new.hall in
    let o = c.line_read.ensures.outcome in
    let said = line_said m c.line_read.new.self c.args.baton.now c.line_read.new.baton c.args.line.now
    c.later-moment.result c.line_read.result o.ok o.baton o.number o.missed o.shut o.err in
    let last = c.last_moment.ensures ∙ ap last_moment (sym c.make_room.ensures) in
    let later = subst (λ (m : ℤ). IsLater c.args.moment m c.later-moment.result) last c.later-moment.ensures in
    record {
      done = said.done;
      refused = said.refused;
      left = c.line_read.ensures.left;
      session = said.session;
      told = said.told;
      moment = on_ok_weaker c.line_read.result (at_later c.args.moment c.later-moment.result m.history
          c.line_read.new.baton.front later) said.next;
    }
