use Rattle.std.proofs.Common.{arith, ◌≡◌, ◌+◌, ◌-◌, length, sym, ◌∙◌, subst}
use Rattle.chronicle.specs.Journal.{most}
use Rattle.ledger.specs.Ledger.{kept_total}
use Rattle.ledger.proofs.Opened.{seats_held}
use Rattle.ledger.proofs.ledger.Ledger.free.Given as given
use Rattle.ledger.proofs.ledger.Ledger.free.Goals as goal

-- what is kept free, counted over the seats
counted : (over : given.Over) (c : goal.After-reserve_count over)
    → c.reserve_count.result ≡ kept_total c.self.inside.journal.history
counted over c =
    let a = c.self.inside in let i = c.self.invariant.kept in
    c.reserve_count.ensures ∙ seats_held a.journal.history a.seats a.outboxes.boxes i.each_seat
    (i.sound.sessions ∙ sym i.places)

pub overflow_sub-result-2 : goal.overflow_sub-result-2
overflow_sub-result-2 over c = let room = c.self.invariant.kept.sound.room in let e = counted over c in omega arith

pub returns-clause-room : goal.returns-clause-room
returns-clause-room over c =
    let room = c.self.invariant.kept.sound.room in let e = counted over c in let h = c.self.inside.journal.history in
    let now : c.most.result - c.newest.result - c.reserve_count.result + length h + kept_total h
    ≡ most c.self.inside.journal.limit = omega arith in
    subst (λ m. c.most.result - c.newest.result - c.reserve_count.result + length m.history + kept_total m.history
    ≡ most m.limit) c.self.view_is now
