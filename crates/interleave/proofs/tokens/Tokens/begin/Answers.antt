use Rattle.std.proofs.Common.{◌≡◌, subst}
use Rattle.std.specs.Prelude.{OnOk}
use Rattle.chronicle.specs.declared.record.Kind.TheVariants.{Said}
use Rattle.book.specs.Ledger.{Turn, after_begin}
use Rattle.interleave.proofs.tokens.Tokens.begin.Goals as goal

pub returns-clause-ok : goal.returns-clause-ok
returns-clause-ok g c = subst (λ (t : Turn). OnOk c.begin.result (c.begin.new.self ≡ after_begin c.args.book.now
    (Said t.session t.next c.args.piece.now) c.args.moment)) c.self.view_is c.begin.ensures.begun.ok
