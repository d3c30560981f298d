use Rattle.std.proofs.Common.{◌++◌, ◌∷◌, [], List, refl, sym, ap, ◌∙◌, subst}
use Rattle.roster.specs.declared.deed.Deed.{Deed}
use Rattle.roster.specs.LookBack.{after}
use Rattle.transactions.specs.declared.effect.Effect.{Effect}
use Rattle.transactions.specs.TransactionView.{TransactionView, IsTransaction, grown}
use Rattle.transactions.specs.Effects.{deeds_of}
use Rattle.transactions.specs.Verdicts.{IsVerdict}
use Rattle.transactions.proofs.Replay.{after-append, tx-append}
use Rattle.transactions.proofs.Sorted.{one_more}
use Rattle.transactions.proofs.transaction.Transaction.add.Goals as goal

pub invariant_of-self : goal.invariant_of-self
invariant_of-self c =
    let fs = c.self.inside.roster.now.facts in
    let v = c.self.inside.verdict in
    let s = c.self.inside.session in let es = c.self.inside.effects.value in let e = c.args.effect in
    let may : IsTransaction (after fs v.deeds.items) (deeds_of (e ∷ [])) = subst
    (λ (d : TransactionView). IsTransaction d.facts (deeds_of (e ∷ []))) (sym c.self.view_is) c.requires in
    let more = c.in-Ok.ensures in
    record {
      tx = subst (IsTransaction fs) (sym more.deeds)
          (tx-append fs v.deeds.items (deeds_of (e ∷ [])) c.self.invariant.tx may);
      verdict = subst (IsVerdict c.add.new.self s) (sym c.append.ensures)
          (one_more v c.add.new.self s es e c.self.invariant.verdict more.deeds more.reply more.copies more.others);
    }

pub invariant_of-self-in-Err : goal.invariant_of-self-in-Err
invariant_of-self-in-Err c =
    let fs = c.self.inside.roster.now.facts in let s = c.self.inside.session in let is = c.nothing.ensures s in
    record {
      tx = subst (IsTransaction fs) (sym is.deeds) (record { next = tt; opened = refl });
      verdict = subst (IsVerdict c.nothing.result s) (sym c.blank.ensures) is;
    }

pub returns-in-Ok : goal.returns-in-Ok
returns-in-Ok c =
    let g = c.self.inside.roster.now.settings in
    let fs = c.self.inside.roster.now.facts in let s = c.self.inside.session in
    let before : List Deed = c.self.inside.verdict.deeds.items in
    let es = c.self.inside.effects.value in let e = c.args.effect in
    ap (λ (ds : List Deed). record {
      settings = g;
      base = fs;
      facts = after fs ds;
      effects = c.append.new.list.value;
      session = s;
    }) c.in-Ok.ensures.deeds
    ∙ ap (λ (xs : List Effect). record {
      settings = g;
      base = fs;
      facts = after fs (before ++ deeds_of (e ∷ []));
      effects = xs;
      session = s;
    }) c.append.ensures
    ∙ ap (λ (gs : List Deed). record { settings = g; base = fs; facts = gs; effects = es ++ e ∷ []; session = s })
    (after-append fs before (deeds_of (e ∷ [])))
    ∙ ap (λ (d : TransactionView). grown d (e ∷ [])) c.self.view_is
