-- The names of a list without a comma: it is the one name.
use Rattle.std.proofs.Common.{◌≡◌, ℕ, true, List, [], ◌∷◌, refl, ap, sym, ◌∙◌}
use Rattle.std.specs.Prelude.{None, Option}
use Rattle.std.specs.Borrow.{Bor}
use Rattle.std.specs.List.{join_with_byte}
use Rattle.std.proofs.lemmas.List.Splits.{join_with_byte-slice_split}
use Rattle.line_grammar.specs.Parts.{is_present, parts, parts_left}
use Rattle.command_params.specs.Lists.{names_of}

pub one_name : (list first : List ℕ) (rest : Option (Bor (List ℕ))) → parts 44 list ≡ first ∷ parts_left 44 rest
    → rest ≡ None → is_present list ≡ true → names_of list ≡ list ∷ []
one_name list first rest cut none present =
    let alone : parts 44 list ≡ first ∷ [] = cut ∙ ap (λ (r : Option (Bor (List ℕ))). first ∷ parts_left 44 r) none in
    let whole : first ≡ list = sym (ap (join_with_byte 44) alone) ∙ join_with_byte-slice_split 44 list in
    let one : parts 44 list ≡ list ∷ [] = alone ∙ ap (λ (name : List ℕ). name ∷ []) whole in
    rw (one, present) refl
