use Rattle.std.proofs.Common.{sym, ◌∙◌}
use Rattle.session_io.proofs.Moments.{seen_to}
use Rattle.session_io.proofs.doing_lines.HallGuard.line.Goals as goal

pub returns-after-shuts-clause-seen_to : goal.returns-after-shuts-clause-seen_to
returns-after-shuts-clause-seen_to g c = λ all.
    let shows = g.H.Clock.shows c.args.server.now.host.now in
    let shuts = g.H.Sockets.shuts c.args.server.now.host.now in
    seen_to shows shuts c.line_at-outcome.new.baton c.take-hall.new.self.moment c.in-Ok.done c.session-session.result
    (c.line_at-outcome.ensures.session ∙ sym c.session-session.ensures) c.take-hall.ensures c.in-Ok.ensures.moment
    c.in-Ok.ensures.told c.shut_after.ensures.missed c.shut_after.ensures.own
