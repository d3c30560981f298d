-- Something is left of a user name exactly where it has an octet that may stand there.
use Rattle.std.proofs.Common.{◌≡◌, ℕ, suc, true, not, eqb, List, [], ◌∷◌, length, take, refl, sym, ap, inl, inr, arith}
use Rattle.std.specs.List.{filter, list_any}
use Rattle.std.proofs.lemmas.Bool.{cases_Bool, ne_eqb}
use Rattle.line_grammar.specs.Parts.{is_present}
use Rattle.session_commands.specs.Session.{is_user_octet, user_name}

more_than_none : (n : ℕ) → true ≡ not (eqb (suc n) 0)
more_than_none n = sym (ap not (ne_eqb (suc n) 0 (λ e. omega (arith, e))))

pub name_present : (xs : List ℕ) → list_any is_user_octet xs ≡ is_present (user_name xs)
name_present [] = refl
name_present (x ∷ xs) =
    elim (cases_Bool (is_user_octet x)) [
      | inl is ↦ rw is (more_than_none (length (take 15 (filter is_user_octet xs))))
      | inr isnt ↦ rw isnt (name_present xs)
    ]
