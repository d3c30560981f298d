use Rattle.std.proofs.Common.{Ok, Err, inr, sym, ◌∙◌}
use Rattle.websocket_front.proofs.Roles.{message_role, waiting_role}
use Rattle.websocket_front.proofs.front.Front.read_open.Goals as goal

pub invariant_of-self : goal.invariant_of-self
invariant_of-self g c = (
  λ opened. message_role g.S.Read.remaining c.self.inside.socket.inner c.read.new.self.inner c.in-Ok-Text.field-0
      c.in-Ok-Text.ensures.reads ∙ c.self.invariant.0 opened,
  c.self.invariant.1,
)

pub invariant_of-self-in-Ok-Binary : goal.invariant_of-self-in-Ok-Binary
invariant_of-self-in-Ok-Binary g c = (
  λ opened. message_role g.S.Read.remaining c.self.inside.socket.inner c.read.new.self.inner c.in-Ok-Binary.field-0
      c.in-Ok-Binary.ensures.reads ∙ c.self.invariant.0 opened,
  c.self.invariant.1,
)

pub invariant_of-self-in-Ok-Ping : goal.invariant_of-self-in-Ok-Ping
invariant_of-self-in-Ok-Ping g c = (
  λ opened. message_role g.S.Read.remaining c.self.inside.socket.inner c.read.new.self.inner c.in-Ok-Ping.field-0
      c.in-Ok-Ping.ensures.reads ∙ c.self.invariant.0 opened,
  c.self.invariant.1,
)

pub invariant_of-self-in-Ok-Pong : goal.invariant_of-self-in-Ok-Pong
invariant_of-self-in-Ok-Pong g c = (
  λ opened. message_role g.S.Read.remaining c.self.inside.socket.inner c.read.new.self.inner c.in-Ok-Pong.field-0
      c.in-Ok-Pong.ensures.reads ∙ c.self.invariant.0 opened,
  c.self.invariant.1,
)

pub invariant_of-self-in-Later : goal.invariant_of-self-in-Later
invariant_of-self-in-Later g c = (
  λ opened. waiting_role g.S.Read.remaining c.self.inside.socket.inner c.read.new.self.inner c.in-Err.error
      c.in-Err.ensures.reads c.in-Later.ensures.io ∙ c.self.invariant.0 opened,
  c.self.invariant.1,
)

pub returns-in-Ok-Close-clause-gives : goal.returns-in-Ok-Close-clause-gives
returns-in-Ok-Close-clause-gives g c =
    rw (← c.self.view_is) (
      Ok c.in-Ok-Close.field-0,
      c.read.new.self.inner,
      rw c.in-Ok-Close.field-0-is tt,
      c.in-Ok-Close.ensures.reads,
    )

pub returns-in-Closed-clause-gives : goal.returns-in-Closed-clause-gives
returns-in-Closed-clause-gives g c =
    rw (← c.self.view_is) (
      Err c.in-Err.error,
      c.read.new.self.inner,
      sym c.in-Closed.ensures.meaning,
      c.in-Err.ensures.reads,
    )

pub returns-clause-fails : goal.returns-clause-fails
returns-clause-fails g c =
    rw (← c.self.view_is) (inr (
      c.in-Err.error,
      c.read.new.self.inner,
      c.in-Err.ensures.reads,
      sym c.in-Fault.ensures.meaning,
    ))
