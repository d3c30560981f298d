use Rattle.std.proofs.Common.{◌≡◌, ◌++◌, take, drop}
use Rattle.session_io.specs.Doing.{IsNewestSeenTo}
use Rattle.session_io.specs.Filling.{IsFront}
use Rattle.session_io.proofs.doing_lines.do_lines.Given as goal

-- so many lines were done, in order, and the newest was seen to; the others are left, of which the next are read
abbrev pub invariant-loop-done : goal.invariant-loop-done
invariant-loop-done g l = record {
  left : l.lines ≡ drop l.done l.fn.lines;
  ahead : IsFront l.ahead l.lines;
  front : l.baton.pieces ≡ l.fn.baton.pieces ++ take l.done l.fn.lines;
  session : l.baton.session ≡ l.fn.baton.session;
  newest : IsNewestSeenTo (g.H.Clock.shows l.server.host.now)
      (g.H.Sockets.shuts l.server.host.now) l.fn.baton l.baton;
  shown : g.H.Clock.shows l.server.host.now l.held.moment;
}
