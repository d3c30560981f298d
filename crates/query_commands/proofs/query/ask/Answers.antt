use Rattle.std.proofs.Common.{◌≡◌, List, OnOk, sym, ap, subst, ◌∙◌}
use Rattle.roster.specs.declared.deed.Deed.{Deed}
use Rattle.transactions.specs.TransactionView.{grown}
use Rattle.query_commands.specs.Query.{told}
use Rattle.query_commands.specs.Telling.{Telling, answers, nothing_told, telling_more}
use Rattle.query_commands.proofs.query.ask.Goals as goal

pub returns : goal.returns
returns c =
    let d = c.args.tx.now in
    let s = c.args.session in let q = c.args.query.now in let none = nothing_told d.settings d.facts s in
    let all : c.answer.new.telling ≡ telling_more none (told d.settings d.facts s q) =
    c.in_ok-answer.ensures ∙ ap
    (λ (t : Telling). telling_more t (told d.settings d.base s q)) c.in_ok-telling.ensures ∙ ap
    (λ (fs : List Deed). telling_more none (told d.settings fs s q)) (sym c.requires) in
    subst (λ (t : Telling). OnOk c.finish.result (c.finish.new.tx ≡ grown d (answers t))) all c.finish.ensures
