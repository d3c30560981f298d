use Rattle.std.proofs.Common.{◌≡◌, Some}
use Rattle.session_ends.proofs.closing.close_up.Given as goal

-- the tokens are of the session, and the writer is of the stub's outbox
abbrev pub invariant-loop : goal.invariant-loop
invariant-loop g l = record {
  session : l.tokens.0.session ≡ l.fn.baton.session;
  one : l.tokens.1.session ≡ l.fn.baton.session;
  own : l.tokens.1.outbox ≡ Some l.tokens.2.channel;
}
