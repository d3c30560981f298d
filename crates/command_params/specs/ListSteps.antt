-- The words of the private steps that read a list, part by part: this project's own choice.
use Rattle.std.specs.Prelude.{ℕ, ◌||◌, cond, List, [], ◌∷◌, ◌++◌}
use Rattle.std.specs.List.{list_any}
use Rattle.command_params.specs.declared.join_targets.JoinTarget.{JoinTarget}
use Rattle.casemapping.specs.Fold.{is_same}
use Rattle.line_grammar.specs.Parts.{is_empty}

-- the first text, and the others; the empty text where there is none
abbrev pub first_of : List (List ℕ) → List ℕ
first_of [] = []
first_of (text ∷ texts) = text

abbrev pub others_of : List (List ℕ) → List (List ℕ)
others_of [] = []
others_of (text ∷ texts) = texts

-- one more, unless its name is empty or there already
abbrev pub with_one : {X : Type 0} → (X → List ℕ) → List X → X → List X
with_one name found x = cond (is_empty (name x) || list_any (λ y. is_same (name y) (name x)) found) found
    (found ++ x ∷ [])

abbrev pub with_name : List (List ℕ) → List ℕ → List (List ℕ)
with_name = with_one (λ name. name)

abbrev pub with_target : List JoinTarget → JoinTarget → List JoinTarget
with_target = with_one (λ target. target.channel)

-- one more word, unless it is empty
abbrev pub with_word : List (List ℕ) → List ℕ → List (List ℕ)
with_word words word = cond (is_empty word) words (words ++ word ∷ [])
