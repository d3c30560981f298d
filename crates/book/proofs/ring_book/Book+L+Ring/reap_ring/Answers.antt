use Rattle.std.proofs.Common.{length, sym, ap, ◌∙◌}
use Rattle.std.proofs.lemmas.List.{append_cancel_left}
use Rattle.ledger.specs.Ledger.{box_of}
use Rattle.book.proofs.ring_book.Book+L+Ring.reap_ring.Goals as goal

pub returns-in-Ok-clause-left : goal.returns-in-Ok-clause-left
returns-in-Ok-clause-left g c =
    let l = c.in-Ok.ensures.outcome.left in (
      c.in-Ok.ensures.outcome.session,
      l.count_is ∙ ap length (sym
          (append_cancel_left l.outbox.taken l.outbox.queue l.left l.rest) ∙ sym (ap (λ o. (box_of o).queue) l.here)),
    )
