use Rattle.std.proofs.Common.{◌≡◌, subst}
use Rattle.std.specs.Prelude.{OnOk}
use Rattle.ledger.specs.Ledger.{after_take}
use Rattle.book.proofs.book.Book+L+Ring.take.Goals as goal

pub returns-clause-taken : goal.returns-clause-taken
returns-clause-taken g c =
    subst (λ m. OnOk c.take.result (c.take.new.self ≡ after_take m c.args.session)) c.self.view_is c.take.ensures.taken
