use Rattle.std.proofs.Common.{◌≡◌, ℕ, sym, ap, ◌∙◌, subst}
use Rattle.chronicle.specs.History.{accepted}
use Rattle.register.specs.Rows.{pieces_at}
use Rattle.book.specs.Turn.{BatonView}
use Rattle.ledger.specs.Ledger.{box_at, IsLeft}
use Rattle.book.specs.Reaping.{MayReap, IsAllOwed}
use Rattle.book.proofs.Ties.{row_accepts}
use Rattle.book.proofs.Since.{all_owed, all_accepted}
use Rattle.book.proofs.book.Book.give_up.Goals as goal

pub returns-clause-pieces : goal.returns-clause-pieces
returns-clause-pieces g c =
    let a = c.self.inside in
    let b = c.args.baton in
    let mark = c.baton.inside.mark in
    let may : MayReap a.ledger b.session c.args.stub.session = subst
    (λ m. MayReap m b.session c.args.stub.session) (sym c.self.view_is) c.requires.may in
    let whose : mark.session ≡ b.session = c.baton.invariant.0 ∙ ap (λ (t : BatonView). t.session) c.baton.view_is in
    let has = ap (pieces_at a.register.rows) (sym whose) ∙ c.retire.ensures.pieces in
    all_accepted c.args.self.now b.session b.pieces
    (sym (ap (λ (t : BatonView). t.pieces) c.baton.view_is)
    ∙ row_accepts g.O.Outbox.name a.ledger b.session mark.pieces a.register.rows may.idle c.self.invariant.1
    may.known.from_1 may.known.opened has
    ∙ ap (λ m. accepted m.history b.session) c.self.view_is)

pub returns-clause-left : goal.returns-clause-left
returns-clause-left g c =
    let a = c.self.inside in
    let b = c.args.baton in
    let may : MayReap a.ledger b.session c.args.stub.session = subst
    (λ m. MayReap m b.session c.args.stub.session) (sym c.self.view_is) c.requires.may in
    let whose : c.baton.inside.turn.session ≡ b.session = ap (λ (t : BatonView). t.session) c.baton.view_is in
    let left = subst (λ (s : ℕ). IsLeft g.O.Outbox.sent g.O.Outbox.taken
    (box_at a.ledger.outboxes s) c.args.taker c.in-Ok.left.count) whose c.in-Ok.ensures.left in
    subst (λ m. IsAllOwed g.O.Outbox.sent g.O.Outbox.taken m b.session c.args.taker c.in-Ok.left.count) c.self.view_is
    (all_owed g.O.Outbox.sent g.O.Outbox.taken a.ledger b.session c.args.taker c.in-Ok.left.count c.sound.ensures
    may.idle may.known left)
