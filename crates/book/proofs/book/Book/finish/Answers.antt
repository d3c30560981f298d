use Rattle.std.proofs.Common.{◌≡◌, ◌<◌, ◌≤◌, ◌+◌, ℕ, Bool, cond, List, [], ◌∷◌, ◌++◌, length, Some, None}
use Rattle.std.proofs.Common.{length-append, refl, sym, ap, ◌∙◌, subst, arith}
use Rattle.line_grammar.specs.declared.splitter.Piece.{Piece}
use Rattle.chronicle.specs.History.{sessions, accepted, shut}
use Rattle.register.specs.declared.claims.Row.{Row}
use Rattle.register.specs.Rows.{with_piece, pieces_at}
use Rattle.register.specs.Shown.{with_done, longer_mark}
use Rattle.book.specs.Turn.{BatonView}
use Rattle.ledger.specs.Ledger.{IsOut, after_end, newest_line}
use Rattle.book.specs.Reaping.{newest_said}
use Rattle.book.specs.Tied.{begun_of, IsTied}
use Rattle.book.proofs.Ties.{newest_adds, newest_from_1, line_ties, done_accepts}
use Rattle.book.proofs.book.Book.finish.Given as given
use Rattle.book.proofs.book.Book.finish.Goals as goal

-- the plan is the one that is out
out : (g : given.Over) (c : goal.After-drop-baton-inside g) → IsOut c.self.inside.ledger c.args.plan
out g c = subst (λ m. IsOut m c.args.plan) (sym c.self.view_is) c.requires.out

-- what the line that is done said, and what that makes of the register and of the mark
record Turned (g : given.Over) (c : goal.After-drop-baton-inside g) : Type 0 where
  said : Piece
  newest : newest_line c.self.inside.ledger.history ≡ Some (c.baton.inside.turn.session, said)
  line : begun_of c.self.inside.ledger ≡ Some (c.baton.inside.turn.session, said)
  register : c.advance.new.self ≡ with_done c.self.inside.register c.baton.inside.mark.session said
  mark : c.advance.new.mark ≡ longer_mark c.baton.inside.mark said

turned : (g : given.Over) (c : goal.After-drop-baton-inside g) → Turned g c
turned g c =
    let h = c.self.inside.ledger.history in
    let said = c.line_of-line.result.now in
    let whose = c.requires.line.0 ∙ sym (ap (λ (t : BatonView). t.session) c.baton.view_is) in
    let newest : newest_line h ≡ Some (c.baton.inside.turn.session, said) = c.line_of-line.ensures
    ∙ ap (λ (s : ℕ). Some (s, said)) whose in
    record {
      said = said;
      newest = newest;
      line = ap (λ (b : Bool). cond b (newest_line h) None) (out g c).busy ∙ newest;
      register = c.advance.ensures.register;
      mark = c.advance.ensures.mark;
    }

tied : (g : given.Over) (c : goal.After-drop-baton-inside g) → IsTied g.O.Outbox.name (after_end c.self.inside.ledger)
    (with_piece c.self.inside.register.rows c.baton.inside.turn.session (turned g c).said)
tied g c = line_ties g.O.Outbox.name c.self.inside.ledger c.baton.inside.turn.session
    (turned g c).said c.self.inside.register.rows (turned g c).line c.self.invariant.1

-- the pieces done, with this one, are those that the history accepts then
pieces : (g : given.Over) (c : goal.After-drop-baton-inside g) → c.advance.new.mark.pieces
    ≡ accepted c.self.inside.ledger.history c.baton.inside.turn.session
pieces g c =
    let a = c.self.inside in
    let turn = c.baton.inside.turn in
    let mark = c.baton.inside.mark in
    let whose : c.args.plan.session ≡ turn.session = c.requires.line.0
    ∙ sym (ap (λ (t : BatonView). t.session) c.baton.view_is) in
    let o = out g c in
    let next = sym o.next ∙ c.requires.line.1 in
    let from = subst (λ (s : ℕ). 0 < s) (sym o.session ∙ whose)
    (newest_from_1 a.ledger.settings a.ledger.history (c.args.baton.now.next + 1) c.sound.ensures.legal next) in
    let to = subst (λ (s : ℕ). s ≤ sessions a.ledger.history) whose o.opened in
    let knew = ap (pieces_at a.register.rows) (sym c.baton.invariant.0) ∙ c.advance.ensures.knew in
    ap (λ m. m.pieces) (turned g c).mark ∙ done_accepts g.O.Outbox.name (after_end a.ledger) turn.session
    (turned g c).said mark.pieces a.register.rows refl (tied g c) from to knew

pub invariant_of-self : goal.invariant_of-self
invariant_of-self g c =
    let a = c.self.inside in
    let i = c.self.invariant in
    let t = turned g c in
    let is = c.finish-done.ensures.book in
    let rows = ap (λ r. r.rows) t.register
    ∙ ap (λ (s : ℕ). with_piece a.register.rows s t.said) c.baton.invariant.0 in (
      ap (λ r. r.table) t.register ∙ i.0,
      subst (λ m. IsTied g.O.Outbox.name m c.advance.new.self.rows) (sym is)
          (subst (λ (xs : List (Row g.row.O-Name.Denot)). IsTied g.O.Outbox.name (after_end a.ledger) xs) (sym rows)
          (tied g c)),
    )

pub invariant_of-baton : goal.invariant_of-baton
invariant_of-baton g c =
    let turn = c.baton.inside.turn in
    let mark = c.baton.inside.mark in
    let now = c.go_on.new.self in
    let goes_on = c.go_on.ensures in
    let t = turned g c in
    let whose : now.session ≡ turn.session = ap (λ b. b.session) goes_on in
    let longer : length c.advance.new.mark.pieces ≡ length mark.pieces + 1 = ap
    (λ m. length m.pieces) t.mark ∙ length-append mark.pieces (t.said ∷ []) in
    let more : now.next ≡ turn.next + 1 = ap (λ b. b.next) goes_on in
    let counted = c.baton.invariant.1.next in (
      ap (λ m. m.session) t.mark ∙ c.baton.invariant.0 ∙ sym whose,
      record {
        next = omega arith;
        pieces = pieces g c ∙ ap (accepted c.self.inside.ledger.history) (sym whose) ∙ ap
            (λ b. accepted b.history now.session) (sym (c.of.ensures ∙ c.finish-done.ensures.book));
      },
    )

pub returns-clause-shut : goal.returns-clause-shut
returns-clause-shut g c =
    let a = c.self.inside in
    let o = out g c in
    let next = sym o.next ∙ c.requires.line.1 in
    let from = subst (λ (s : ℕ). 0 < s) (sym o.session)
    (newest_from_1 a.ledger.settings a.ledger.history (c.args.baton.now.next + 1) c.sound.ensures.legal next) in
    c.finish-done.ensures.shut from ∙ ap (λ m. shut m.history c.args.plan.session) c.self.view_is
    ∙ ap (shut c.args.self.now.history) c.requires.line.0

pub returns-clause-grown : goal.returns-clause-grown
returns-clause-grown g c =
    let t = turned g c in let h = c.self.inside.ledger.history in let mark = c.baton.inside.mark in
    ap (λ m. m.pieces) t.mark
    ∙ ap (λ (ps : List Piece). mark.pieces ++ ps)
    (sym (newest_adds h c.baton.inside.turn.session t.said t.newest))
    ∙ ap (λ (b : BatonView). b.pieces ++ newest_said h b.session) c.baton.view_is
    ∙ ap (λ m. c.args.baton.now.pieces ++ newest_said m.history c.args.baton.now.session) c.self.view_is

pub returns-clause-accepted : goal.returns-clause-accepted
returns-clause-accepted g c = pieces g c ∙ ap (accepted c.self.inside.ledger.history)
    (ap (λ (t : BatonView). t.session) c.baton.view_is) ∙ ap (λ b. accepted b.history c.args.baton.now.session)
    (sym c.finish-done.ensures.book)
