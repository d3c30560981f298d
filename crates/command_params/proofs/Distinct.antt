-- A list read part by part holds each name once, where it comes first.
use Rattle.std.proofs.Common.{◌≡◌, ℕ, Bool, true, not, cond, List, [], ◌∷◌, ◌++◌, Option, Some}
use Rattle.std.proofs.Common.{None, Bor, refl, sym, ap, ◌∙◌, inl, inr, append_assoc}
use Rattle.std.specs.List.{filter, fold, list_any}
use Rattle.std.proofs.lemmas.Bool.{cases_Bool}
use Rattle.std.proofs.lemmas.List.{append-nil}
use Rattle.std.proofs.lemmas.List.Folds.{list_any-append}
use Rattle.line_grammar.specs.Parts.{is_empty, is_present, parts, parts_left}
use Rattle.casemapping.specs.Fold.{is_same}
use Rattle.casemapping.proofs.SameNames.{is_same-left}
use Rattle.command_params.specs.Lists.{distinct, with_keys, names_of, words_of, targets_of}
use Rattle.command_params.specs.ListSteps.{with_one, with_name, with_word, with_target}
use Rattle.command_params.specs.declared.join_targets.JoinTarget.{JoinTarget}

-- whether a name is among those of a list
abbrev among : {X : Type 0} → (X → List ℕ) → List X → X → Bool
among name found x = list_any (λ y. is_same (name y) (name x)) found

among-same : {X : Type 0} (name : X → List ℕ) (found : List X) (x y : X) → among name found x ≡ true
    → is_same (name x) (name y) ≡ true → among name found y ≡ true
among-same name [] x y e f = e
among-same name (z ∷ found) x y e f =
    elim (cases_Bool (is_same (name z) (name x))) [
      | inl is ↦ rw (is_same-left (name z) (name x) (name y) is ∙ f) refl
      | inr isnt ↦
          let rest : among name found x ≡ true = rw isnt at e in
          elim (cases_Bool (is_same (name z) (name y))) [
            | inl same ↦ rw same refl
            | inr other ↦ rw other (among-same name found x y rest f)
          ]
    ]

abbrev new_to : {X : Type 0} → (X → List ℕ) → List X → X → Bool
new_to name found x = not (among name found x)

abbrev other_than : {X : Type 0} → (X → List ℕ) → X → X → Bool
other_than name x y = not (is_same (name x) (name y))

-- what repeats a name that is there is left out anyhow
drops_repeated : {X : Type 0} (name : X → List ℕ) (found : List X) (x : X) → among name found x ≡ true
    → (ys : List X) → filter (new_to name found) (filter (other_than name x) ys) ≡ filter (new_to name found) ys
drops_repeated name found x e [] = refl
drops_repeated name found x e (y ∷ ys) =
    elim (cases_Bool (is_same (name x) (name y))) [
      | inl is ↦ rw (is, among-same name found x y e is) (drops_repeated name found x e ys)
      | inr isnt ↦ rw isnt (ap (λ t. cond (new_to name found y) (y ∷ t) t) (drops_repeated name found x e ys))
    ]

-- what is new to a list with one more is new to the list and other than that one
new_to_more : {X : Type 0} (name : X → List ℕ) (found : List X) (x : X) (ys : List X)
    → filter (new_to name found) (filter (other_than name x) ys) ≡ filter (new_to name (found ++ x ∷ [])) ys
new_to_more name found x [] = refl
new_to_more name found x (y ∷ ys) =
    rw (list_any-append (λ z. is_same (name z) (name y)) found (x ∷ []))
    (elim (cases_Bool (is_same (name x) (name y))) [
      | inl is ↦ elim (cases_Bool (among name found y)) [
        | inl there ↦ rw (is, there) (new_to_more name found x ys)
        | inr absent ↦ rw (is, absent) (new_to_more name found x ys)
      ]
      | inr isnt ↦ elim
          (cases_Bool (among name found y)) [
            | inl there ↦ rw (isnt, there) (new_to_more name found x ys)
            | inr absent ↦ rw (isnt, absent) (ap (λ t. y ∷ t) (new_to_more name found x ys))
          ]
    ])

pub read_so_far : {X : Type 0} (name : X → List ℕ) (found xs : List X) → fold (with_one name) found xs
    ≡ found ++ filter (new_to name found) (distinct name (filter (λ x. is_present (name x)) xs))
read_so_far name found [] = sym (append-nil found)
read_so_far name found (x ∷ xs) =
    let later = distinct name (filter (λ y. is_present (name y)) xs) in
    elim (cases_Bool (is_empty (name x))) [
      | inl empty ↦ rw empty (read_so_far name found xs)
      | inr present ↦
          elim (cases_Bool (among name found x)) [
            | inl there ↦ rw (present, there)
                (read_so_far name found xs ∙ ap (λ t. found ++ t) (sym (drops_repeated name found x there later)))
            | inr absent ↦
                rw (present, absent)
                (read_so_far name (found ++ x ∷ []) xs ∙ append_assoc found (x ∷ [])
                (filter (new_to name (found ++ x ∷ [])) later)
                ∙ ap (λ t. found ++ x ∷ t) (sym (new_to_more name found x later)))
          ]
    ]

all_new : {X : Type 0} (name : X → List ℕ) (xs : List X) → filter (new_to name []) xs ≡ xs
all_new name [] = refl
all_new name (x ∷ xs) = ap (λ t. x ∷ t) (all_new name xs)

-- a list that was read part by part, from the first on
pub read_whole : {X : Type 0} (name : X → List ℕ) (xs : List X) → fold (with_one name) [] xs
    ≡ distinct name (filter (λ x. is_present (name x)) xs)
read_whole name xs = read_so_far name [] xs ∙ all_new name (distinct name (filter (λ x. is_present (name x)) xs))

pub read_words_whole : (words xs : List (List ℕ)) → fold with_word words xs ≡ words ++ filter is_present xs
read_words_whole words [] = sym (append-nil words)
read_words_whole words (x ∷ xs) =
    elim (cases_Bool (is_empty x)) [
      | inl empty ↦ rw empty (read_words_whole words xs)
      | inr present ↦ rw present
          (read_words_whole (words ++ x ∷ []) xs ∙ append_assoc words (x ∷ []) (filter is_present xs))
    ]

-- ---- nothing of the list is left

pub names_end : (list : List ℕ) (names : List (List ℕ)) (rest : Option (Bor (List ℕ))) → rest ≡ None
    → fold with_name names (parts_left 44 rest) ≡ fold with_name [] (parts 44 list) → names ≡ names_of list
names_end list names None is e = e ∙ read_whole (λ name. name) (parts 44 list)
names_end list names (Some rest) is e = cc

pub words_end : (list : List ℕ) (words : List (List ℕ)) (rest : Option (Bor (List ℕ))) → rest ≡ None
    → fold with_word words (parts_left 32 rest) ≡ fold with_word [] (parts 32 list) → words ≡ words_of list
words_end list words None is e = e ∙ read_words_whole [] (parts 32 list)
words_end list words (Some rest) is e = cc

pub targets_end : (channels keys : List ℕ) (targets : List JoinTarget) (rest keys_left : Option (Bor (List ℕ)))
    → rest ≡ None → fold with_target targets (with_keys (parts_left 44 rest) (parts_left 44 keys_left))
    ≡ fold with_target [] (with_keys (parts 44 channels) (parts 44 keys)) → targets ≡ targets_of channels keys
targets_end channels keys targets None keys_left is e = e ∙ read_whole
    (λ target. target.channel) (with_keys (parts 44 channels) (parts 44 keys))
targets_end channels keys targets (Some rest) keys_left is e = cc
