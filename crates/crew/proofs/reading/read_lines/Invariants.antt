use Rattle.std.proofs.Common.{◌≡◌, []}
use Rattle.crew.specs.Taking.{HasDone}
use Rattle.crew.proofs.reading.read_lines.Given as goal

-- all lines of what was read are done
abbrev pub invariant-loop : goal.invariant-loop
invariant-loop g l = record {
  done : HasDone (g.I.Read.remaining l.fn.input)
      (g.I.Read.remaining l.input) l.fn.baton.pieces l.baton.pieces l.intake.kept;
  none : l.intake.pieces ≡ [];
  session : l.baton.session ≡ l.fn.baton.session;
}
