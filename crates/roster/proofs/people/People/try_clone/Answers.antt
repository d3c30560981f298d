use Rattle.std.proofs.Common.{ℕ, ap, ◌∙◌}
use Rattle.roster.specs.Table.{Table}
use Rattle.roster.specs.declared.tables.Card.{Card}
use Rattle.roster.specs.Tables.{person_at}
use Rattle.roster.specs.Lists.{row_of}
use Rattle.roster.proofs.Copies.{people_copied, lists_copied, notes_copied}
use Rattle.roster.proofs.people.People.try_clone.Goals as goal

pub returns-clause-people : goal.returns-clause-people
returns-clause-people c = λ t. people_copied c.self.inside.cards.entries c.in_ok-clone.field-0.entries t
    c.in_ok-clone.ensures.cases ∙ ap (λ (es : Table (ℕ × Card)). person_at es.list t) c.self.view_is

pub returns-clause-lists : goal.returns-clause-lists
returns-clause-lists c = λ t. lists_copied c.self.inside.cards.entries c.in_ok-clone.field-0.entries t
    c.in_ok-clone.ensures.cases ∙ ap (λ (es : Table (ℕ × Card)). (row_of es.list t).list) c.self.view_is

pub returns-clause-notes : goal.returns-clause-notes
returns-clause-notes c = λ t. notes_copied c.self.inside.cards.entries c.in_ok-clone.field-0.entries t
    c.in_ok-clone.ensures.cases ∙ ap (λ (es : Table (ℕ × Card)). (row_of es.list t).notes) c.self.view_is
