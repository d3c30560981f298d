use Rattle.std.proofs.Common.{arith, ◌≡◌, ◌≤◌, false, true, length, Some, is_some, refl, ap, ◌∙◌, sym, subst}
use Rattle.ledger.specs.Ledger.{sent_by, box_at}
use Rattle.ledger.specs.Seats.{stands, seat_at, boxes_of, IsThere}
use Rattle.ledger.specs.LastHeard.{since_at}
use Rattle.ledger.specs.Noted.{AreCountsOf}
use Rattle.ledger.proofs.Mapped.{box_there, box_found}
use Rattle.ledger.proofs.Noting.{counted_more, counted_all}
use Rattle.ledger.proofs.outboxes.Outboxes.counts.Goals as goal

pub unreachable-requires-in_default-seat : goal.unreachable-requires-in_default-seat
unreachable-requires-in_default-seat over c =
    let a = c.self.inside in let k = c.in-Some.number.now in
    let there = box_there a.outboxes.entries a.opened c.args.self.now.boxes
    (ap (λ m. m.boxes) c.self.view_is) k c.new-session.result
    (sym c.new-session.ensures) c.self.invariant.opened (ap (λ o. is_some o) c.in-Some.ensures.value) in
    let seated = c.requires.seated c.new-session.result there in
    let f : false ≡ true = ap stands (sym (c.in_default-seat.ensures.none refl seated.0)) ∙ seated.1 in cc

pub unreachable-requires-in_default-since : goal.unreachable-requires-in_default-since
unreachable-requires-in_default-since over c =
    let a = c.self.inside in let k = c.in-Some.number.now in
    let there = box_there a.outboxes.entries a.opened c.args.self.now.boxes
    (ap (λ m. m.boxes) c.self.view_is) k c.new-session.result
    (sym c.new-session.ensures) c.self.invariant.opened (ap (λ o. is_some o) c.in-Some.ensures.value) in
    let f : false ≡ true = ap is_some c.in_default-since.ensures ∙ c.requires.heard c.new-session.result there in cc

pub loop-place-preserved : goal.loop-place-preserved
loop-place-preserved over c =
    let a = c.self.inside in
    let k = c.in-Some.number.now in
    let o = c.in-Some.outbox.now in
    let kept = a.outboxes.entries in
    let boxes = boxes_of kept a.opened in let seats = c.args.seats.now in let heard = c.args.last_heard.now in
    let there : IsThere boxes k = box_there kept a.opened boxes refl k k refl c.self.invariant.opened
    (ap (λ o. is_some o) c.in-Some.ensures.value) in
    let accepted : c.in-Some-seat.seat.accepted ≡ (seat_at seats k).accepted = ap (λ s. s.accepted)
    c.in-Some-seat.ensures.some.1 ∙ ap (λ q. (seat_at seats q).accepted) c.new-session.ensures in
    let owed : c.count.result ≡ length (sent_by over.O.Outbox.sent (box_at boxes k)) = c.count.ensures
    ∙ sym (ap (λ b. length (sent_by over.O.Outbox.sent b))
    (box_found kept a.opened boxes refl k k o refl there (sym c.in-Some.ensures.value))) in
    let since : since_at heard k ≡ Some c.in-Some-since.since = ap (since_at heard) (sym c.new-session.ensures)
    ∙ sym c.in-Some-since.ensures in
    counted_more over.O.Outbox.sent seats boxes heard kept c.loop-place.place c.loop-place.counts.entries
    c.insert.new.self.entries k o (record {
      accepted = c.in-Some-seat.seat.accepted;
      owed = c.count.result;
      since = c.in-Some-since.since;
    }) c.loop-place.invariant
    (sym c.in-Some.ensures.entry) there (record { accepted = accepted; owed = owed; since = since })
    c.in_ok-insert.ensures.updates.0

pub returns : goal.returns
returns over c =
    let a = c.self.inside in
    let kept = a.outboxes.entries in
    let boxes = boxes_of kept a.opened in let cs = c.loop-place.counts.entries in let heard = c.args.last_heard.now in
    let last = c.loop-place-test.false in
    let len = c.len-place-end.ensures.len in let all : length kept ≤ c.loop-place.place = omega arith in
    subst (λ r. AreCountsOf over.O.Outbox.sent c.args.seats.now r heard cs) (ap (λ m. m.boxes) c.self.view_is)
    (counted_all over.O.Outbox.sent c.args.seats.now boxes heard kept a.opened c.loop-place.place cs refl all
    c.loop-place.invariant)
