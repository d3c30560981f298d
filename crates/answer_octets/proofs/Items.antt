-- One item of a number.
use Rattle.std.proofs.Common.{◌≡◌, ◌≢◌, ℕ, Bool, eqb, List, [], ◌∷◌, ◌++◌, filter, refl, ap, ◌∙◌}
use Rattle.std.proofs.Common.{append-nil, length}
use Rattle.std.specs.List.{All, flat_map}
use Rattle.std.proofs.lemmas.Bool.{cond-false, cond-true, eq-eqb, ne_eqb}
use Rattle.std.proofs.lemmas.List.Elements.{All-head, All-tail, filter-append}
use Rattle.answer_octets.specs.Laws.{OneItemCounts}
use Rattle.answer_octets.specs.TextLines.{has_label, text_lines}

abbrev Item : Type 0
Item = ℕ × List ℕ

abbrev IsOther : ℕ → Item → Type 0
IsOther n i = i.0 ≢ n

none-numbered : (n : ℕ) (is : List Item) → All (IsOther n) is → filter (λ (i : Item). eqb i.0 n) is ≡ []
none-numbered n [] others = refl
none-numbered n (i ∷ is) others =
    cond-false (eqb i.0 n) _ _ (ne_eqb i.0 n (All-head (IsOther n) i is others))
    ∙ none-numbered n is (All-tail (IsOther n) i is others)

pub one-item : OneItemCounts
one-item before later n text others after =
    let numbered : Item → Bool = λ i. eqb i.0 n in
    let first : filter numbered ((n, text) ∷ later) ≡ (n, text) ∷ [] = cond-true (eqb n n) _ _ (eq-eqb n n refl) ∙ ap
    (λ is. (n, text) ∷ is) (none-numbered n later after) in
    let all : filter numbered (before ++ (n, text) ∷ later) ≡ (n, text) ∷ [] = filter-append numbered before
    ((n, text) ∷ later) ∙ ap (λ is. is ++ filter numbered ((n, text) ∷ later)) (none-numbered n before others)
    ∙ first in
    ap (λ is. length (filter has_label (flat_map (λ (i : Item). text_lines i.1) is))) all
    ∙ ap (λ ls. length (filter has_label ls)) (append-nil (text_lines text))
