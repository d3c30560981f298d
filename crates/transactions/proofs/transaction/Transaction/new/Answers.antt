use Rattle.std.proofs.Common.{List, [], refl, sym, ap, ◌∙◌, subst}
use Rattle.roster.specs.declared.deed.Deed.{Deed}
use Rattle.roster.specs.LookBack.{after}
use Rattle.transactions.specs.declared.effect.Effect.{Effect}
use Rattle.transactions.specs.TransactionView.{TransactionView, IsTransaction, IsKept}
use Rattle.transactions.specs.Verdicts.{IsVerdict}
use Rattle.transactions.proofs.transaction.Transaction.new.Goals as goal

pub invariant_of-result : goal.invariant_of-result
invariant_of-result c =
    let fs = c.args.roster.now.facts in let s = c.args.session in let is = c.nothing.ensures s in
    record {
      tx = subst (IsTransaction fs) (sym is.deeds) (record { next = tt; opened = refl });
      verdict = subst (IsVerdict c.nothing.result s) (sym c.blank.ensures) is;
    }

pub returns : goal.returns
returns c =
    let g = c.args.roster.now.settings in let fs = c.args.roster.now.facts in let s = c.args.session in
    ap (λ (ds : List Deed). record {
      settings = g;
      base = fs;
      facts = after fs ds;
      effects = c.blank.result.value;
      session = s;
    }) (c.nothing.ensures s).deeds
    ∙ ap (λ (es : List Effect). record { settings = g; base = fs; facts = fs; effects = es; session = s })
    c.blank.ensures
