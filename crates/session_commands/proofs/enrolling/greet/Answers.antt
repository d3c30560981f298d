use Rattle.std.proofs.Common.{◌≡◌, List, ℕ, OnOk, ap, subst, ◌∙◌}
use Rattle.registration.specs.declared.settings.Settings.{Settings}
use Rattle.transactions.specs.TransactionView.{grown}
use Rattle.transactions.specs.Lines.{prefix}
use Rattle.query_commands.specs.Telling.{Telling, answers, nothing_told, telling_more}
use Rattle.session_commands.specs.Welcome.{welcome_numerics}
use Rattle.session_commands.proofs.enrolling.greet.Goals as goal

pub returns : goal.returns
returns c =
    let d = c.args.tx.now in
    let s = c.args.session in let source = c.in_ok-source.source in let none = nothing_told d.settings d.facts s in
    let settings : c.settings-settings.result.now ≡ d.settings = c.settings-settings.ensures.value
    ∙ c.before-2.ensures.settings in
    let all : c.welcome.new.telling ≡ telling_more none (welcome_numerics d.settings (prefix d.facts s)) =
    c.in_ok-welcome.ensures ∙ ap (λ (t : Telling). telling_more t
    (welcome_numerics c.settings-settings.result.now source)) c.in_ok-telling.ensures
    ∙ ap (λ (g : Settings). telling_more none (welcome_numerics g source)) settings
    ∙ ap (λ (n : List ℕ). telling_more none (welcome_numerics d.settings n)) c.in_ok-source.ensures in
    subst (λ (t : Telling). OnOk c.finish.result (c.finish.new.tx ≡ grown d (answers t))) all c.finish.ensures
