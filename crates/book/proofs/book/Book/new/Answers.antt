use Rattle.std.proofs.Common.{List, sym, subst}
use Rattle.register.specs.declared.claims.Row.{Row}
use Rattle.ledger.specs.Ledger.{empty_ledger}
use Rattle.book.specs.Tied.{IsTied}
use Rattle.book.proofs.Ties.{empty_ties}
use Rattle.book.proofs.book.Book.new.Goals as goal

pub invariant_of-result : goal.invariant_of-result
invariant_of-result g c =
    let is = c.in_ok-ledger.ensures.ok.0 in
    let name = g.O.Outbox.name in
    let tied = subst (λ (xs : List (Row g.row.O-Name.Denot)). IsTied name (empty_ledger c.args.limit c.args.settings)
    xs) (sym c.requires.empty) (empty_ties name c.args.limit c.args.settings) in
    (c.requires.named, subst (λ m. IsTied name m c.args.register.rows) (sym is) tied)
