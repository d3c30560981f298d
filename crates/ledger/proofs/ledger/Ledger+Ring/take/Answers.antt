use Rattle.outbox.specs.Ring.{with_taken}
use Rattle.ledger.specs.Ledger.{outbox_at}
use Rattle.std.proofs.Common.{refl, ◌-◌, slice_set, Some}
use Rattle.ledger.proofs.KeptSteps.{taken_kept}
use Rattle.ledger.proofs.LastActivity.{since_as, since_put}
use Rattle.ledger.proofs.Based.{based_as, based_boxes, set_many, put_still}
use Rattle.ledger.proofs.ledger.Ledger+Ring.take.Goals as goal

pub invariant_of-self : goal.invariant_of-self
invariant_of-self c =
    let a = c.self.inside in let s = c.args.session in let k = c.is_here.ensures.yes c.if-not-is_here.false in
    record {
      kept = taken_kept a.journal a.roster.settings a.roster.facts a.seats a.outboxes.boxes c.take.new.self.boxes
          a.plan a.busy s c.self.invariant.kept k.from_1 k.opened k.here c.take.ensures.taken;
      based = (let was = a.outboxes.boxes in let h = a.journal.history in let n = a.journal.limit.dropped in let g =
          a.roster.settings in let v = with_taken (outbox_at was s) in let new = slice_set was (s - 1) (Some v) in
          based_as a.base h h n n g g new c.take.new.self.boxes
          (based_boxes a.base h n g was new c.self.invariant.based (set_many was (s - 1) (Some v))
          (put_still was s v k.here k.from_1 k.opened)) refl refl refl c.take.ensures.taken);
      cut = c.self.invariant.cut;
      since = (let was = a.outboxes.boxes in let h = a.journal.history in let v = with_taken (outbox_at was s) in
          let new = slice_set was (s - 1) (Some v) in
          since_as a.last_heard a.last_heard h h new c.take.new.self.boxes (since_put a.last_heard h was s v
          c.self.invariant.since k.here k.from_1 k.opened) refl refl c.take.ensures.taken);
    }
