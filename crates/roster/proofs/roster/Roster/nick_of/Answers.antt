use Rattle.std.proofs.Common.{◌≡◌, Bor, Option, Some, None, refl, ap, ◌∙◌, subst}
use Rattle.std.specs.Option.{option_copied}
use Rattle.roster.specs.declared.tables.Person.{Person}
use Rattle.roster.specs.Known.{Known}
use Rattle.roster.specs.Legal.{IsOpened}
use Rattle.roster.proofs.Persons.{unopened_nick}
use Rattle.roster.proofs.roster.Roster.nick_of.Goals as goal

nothing_copied : {A : Type 0} (o : Option (Bor A)) → option_copied o ≡ None → o ≡ None
nothing_copied None e = refl
nothing_copied {A} (Some x) e = absurd (let f : Some x.now ≡ None = e in cc)

pub returns-in-Some-clause-unknown : goal.returns-in-Some-clause-unknown
returns-in-Some-clause-unknown c = λ unopened.
    let r = c.self.inside in let s = c.args.session in let fs = r.facts.value in let i = c.self.invariant.0.people in
    let out : IsOpened fs s → ⊥ = λ o. unopened (subst (λ (k : Known). IsOpened k.facts s) c.self.view_is o) in
    nothing_copied c.as_ref.result (c.as_ref.ensures.value ∙ ap
    (λ (p : Person). p.nick) (c.in-Some.ensures ∙ i.people s) ∙ unopened_nick r.nicks.list fs i.holders s out)
