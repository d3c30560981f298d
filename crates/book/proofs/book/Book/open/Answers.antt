use Rattle.std.proofs.Common.{◌≡◌, ◌+◌, ◌<◌, ℕ, List, [], ◌∷◌, length, sym, ap, ◌∙◌, subst, append-nil, arith}
use Rattle.chronicle.specs.History.{sessions, accepted}
use Rattle.register.specs.declared.claims.Row.{Row}
use Rattle.register.specs.Rows.{new_row}
use Rattle.ledger.specs.Ledger.{Shown, after_open}
use Rattle.book.specs.Tied.{IsTied}
use Rattle.book.proofs.Unopened.{silent}
use Rattle.book.proofs.Ties.{opened_ties}
use Rattle.book.proofs.book.Book.open.Goals as goal

pub invariant_of-result : goal.invariant_of-result
invariant_of-result g c =
    let m = c.self.inside.ledger in
    let n = sessions m.history + 1 in
    let ok = c.in_ok-session.ensures.ok in
    let session = c.in_ok-session.ensures.session in
    let mark = c.admit-mark.ensures.mark in
    let turn = c.in_ok-session.turn in
    let late : sessions m.history < n = omega arith in
    let none : accepted m.history n ≡ [] = silent m.settings m.history n c.sound.ensures.legal late in
    let whose : turn.session ≡ n = ap (λ b. b.session) session.1 in
    let front : accepted c.of-front.result.value.history turn.session ≡ [] =
    ap (λ (b : Shown g.row.O.Denot). accepted b.history turn.session) (c.of-front.ensures ∙ ok)
    ∙ ap (accepted (after_open m c.args.host c.args.moment c.args.outbox).history) whose
    ∙ append-nil (accepted m.history n) ∙ none in (
      ap (λ b. b.session) mark ∙ session.0 ∙ sym whose,
      record {
        next = ap (λ b. b.next) session.1 ∙ sym (ap (λ b. length b.pieces) mark);
        pieces = ap (λ b. b.pieces) mark ∙ sym front;
      },
    )

pub invariant_of-self-2 : goal.invariant_of-self-2
invariant_of-self-2 g c =
    let a = c.self.inside in
    let i = c.self.invariant in
    let m = a.ledger in
    let k = c.open.new.self in
    let n = sessions m.history + 1 in
    let name = g.O.Outbox.name in
    let ok = c.in_ok-session.ensures.ok in
    let session = c.in_ok-session.ensures.session.0 in
    let may = c.in_ok-session.ensures.may in
    let late : sessions m.history < n = omega arith in
    let none : accepted m.history n ≡ [] = silent m.settings m.history n c.sound.ensures.legal late in
    let rows : c.admit-mark.new.self.rows ≡ new_row n (name c.args.outbox) ∷ a.register.rows =
    ap (λ r. r.rows) c.admit-mark.ensures.register ∙ ap
    (λ (s : ℕ). new_row s (name c.of-namesake.result.of.value) ∷ a.register.rows) session
    ∙ ap (λ (o : g.row.O.Denot). new_row n (name o) ∷ a.register.rows) c.of-namesake.ensures in
    let tied = opened_ties name m c.args.host c.args.moment c.args.outbox a.register.rows may.idle
    c.sound.ensures.sessions none i.1 in (
      ap (λ r. r.table) c.admit-mark.ensures.register ∙ i.0,
      subst (λ b. IsTied name b c.admit-mark.new.self.rows) (sym ok) (subst (λ (xs : List (Row g.row.O-Name.Denot)).
          IsTied name (after_open m c.args.host c.args.moment c.args.outbox) xs) (sym rows) tied),
    )
