-- Records as the history has them: how many, the newest, and one that `get` of a slice finds.
use Rattle.std.proofs.Common.{arith, ◌≡◌, ℕ, ◌+◌, ◌<◌, ◌≤◌, List, [], ◌∷◌, ◌++◌, length, length-append, map}
use Rattle.std.proofs.Common.{reverse, slice_get, Option, inl, inr, Bor, refl, sym, ap, ◌∙◌}
use mathlib.Core.List.{reverse_aux}
use Rattle.std.specs.Option.{option_map}
use Rattle.std.proofs.lemmas.Option.{slice_get-map, slice_get_past, slice_get_read, slice_get_cases}
use Rattle.std.proofs.lemmas.List.{get_or-append-add, length-map, length-reverse, reverse-reverse, reverse-append}
use Rattle.chronicle.specs.declared.record.Record.{Record}
use Rattle.chronicle.specs.History.{Rec, rec_of}
use Rattle.chronicle.specs.Journal.{record_at, history_of}

map-reverse_aux : (xs ys : List Record) → map rec_of (reverse_aux xs ys) ≡ reverse_aux (map rec_of xs) (map rec_of ys)
map-reverse_aux [] ys = refl
map-reverse_aux (x ∷ xs) ys = map-reverse_aux xs (x ∷ ys)

-- reverse of a history made of records is those records, as a history has them
map-reverse : (xs : List Record) → map rec_of xs ≡ reverse (map rec_of (reverse xs))
map-reverse xs = sym (reverse-reverse (map rec_of xs)) ∙ ap reverse (sym (map-reverse_aux xs []))

-- a record at the end of the list is the history's newest
pub newest : (xs : List Record) (r : Record) (past : List Rec) → history_of (xs ++ r ∷ []) past
    ≡ rec_of r ∷ history_of xs past
newest xs r past = ap (λ rs. map rec_of rs ++ past) (reverse-append xs (r ∷ []))

-- each record counts, those that were dropped too
pub history_length : (xs : List Record) (past : List Rec) → length (history_of xs past) ≡ length xs + length past
history_length xs past = length-append (map rec_of (reverse xs)) past ∙ ap
    (λ n. n + length past) (length-map (reverse xs) rec_of ∙ length-reverse xs)

behind : {X : Type 0} (xs ys : List X) (i : ℕ) → slice_get (xs ++ ys) (length xs + i) ≡ slice_get ys i
behind xs ys i =
    let past : length ys ≤ i → length (xs ++ ys) ≤ length xs + i = λ n. omega (arith, length-append xs ys) in
    let within : i < length ys → length xs + i < length (xs ++ ys) = λ n. omega (arith, length-append xs ys) in
    elim ((slice_get_cases ys i).1) [
      | inl y ↦ slice_get_read (xs ++ ys) (length (xs ++ ys)) (length xs + i) y.0 refl (within y.1)
          (sym (get_or-append-add xs ys i y.0 ∙ y.3)) ∙ sym y.2
      | inr n ↦ slice_get_past (xs ++ ys) (length xs + i) (past n.0) ∙ sym n.1
    ]

-- a record that was found among those that are kept is the history's, behind those that were dropped
pub looked : (xs : List Record) (past h : List Rec) (i : ℕ) (r : Option (Bor Record)) → history_of xs past ≡ h
    → record_at r ≡ option_map rec_of (slice_get xs i) → record_at r ≡ slice_get (reverse h) (length past + i)
looked xs past h i r eh e =
    let kept : record_at r ≡ slice_get (reverse (map rec_of (reverse xs))) i = e ∙ sym (slice_get-map rec_of xs i)
    ∙ ap (λ ys. slice_get ys i) (map-reverse xs) in
    let all : slice_get (reverse (map rec_of (reverse xs))) i
    ≡ slice_get (reverse (history_of xs past)) (length past + i) =
    sym (behind (reverse past) (reverse (map rec_of (reverse xs))) i)
    ∙ ap (λ n. slice_get (reverse past ++ reverse (map rec_of (reverse xs))) (n + i)) (length-reverse past)
    ∙ ap (λ ys. slice_get ys (length past + i)) (sym (reverse-append (map rec_of (reverse xs)) past)) in
    kept ∙ all ∙ ap (λ k. slice_get (reverse k) (length past + i)) eh
