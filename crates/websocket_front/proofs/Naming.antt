-- The values of a list, one octet after another.
use Rattle.std.proofs.Common.{◌≡◌, ◌<◌, ◌≤◌, ◌+◌, ◌-◌, ℕ, Bool, true, false, cond, List, [], ◌∷◌, ◌++◌, length, take}
use Rattle.std.proofs.Common.{drop, get_or, Option, None, Some, refl, sym, ap, ◌∙◌, arith, length-drop}
use Rattle.std.specs.Prelude.{is_some}
use Rattle.std.proofs.lemmas.List.{drop_more, take_more, get_or-drop}
use Rattle.websocket_front.specs.declared.subprotocol.Subprotocol.{Subprotocol}
use Rattle.websocket_front.specs.Offers.{protocol_of, named_from, first_some, is_separator, first_named}

abbrev pub piece : List ℕ → ℕ → ℕ → List ℕ
piece value start place = take (place - start) (drop start value)

pub piece_more : (value : List ℕ) (start place : ℕ) → start ≤ place → place < length value
    → piece value start place ++ get_or value place 0 ∷ [] ≡ piece value start (place + 1)
piece_more value start place le inside =
    let left = drop start value in
    let n = place - start in
    let some : n < length left = omega (arith, length-drop start value) in
    let there : start + n ≡ place = omega arith in
    let at : get_or left n 0 ≡ get_or value place 0 = get_or-drop start value n 0 ∙ ap (λ i. get_or value i 0) there in
    let one : n + 1 ≡ place + 1 - start = omega arith in
    ap (λ x. take n left ++ x ∷ []) (sym at) ∙ (sym (take_more left n 0 some) ∙ ap (λ m. take m left) one)

-- an octet on, by whether it parts
named_on : (value : List ℕ) (start place : ℕ) (b : Bool) → place < length value
    → is_separator (get_or value place 0) ≡ b
    → named_from (piece value start place) (drop place value)
    ≡ cond b (first_some (protocol_of (piece value start place)) (named_from [] (drop (place + 1) value)))
    (named_from (piece value start place ++ get_or value place 0 ∷ []) (drop (place + 1) value))
named_on value start place b inside is =
    let p = piece value start place in
    let rest = drop (place + 1) value in
    let more = named_from (p ++ get_or value place 0 ∷ []) rest in
    ap (named_from p) (drop_more value place 0 inside) ∙ ap
    (λ t. cond t (first_some (protocol_of p) (named_from [] rest)) more) is

-- a value goes on
pub named_within : (value : List ℕ) (start place : ℕ) → start ≤ place → place < length value
    → is_separator (get_or value place 0) ≡ false
    → named_from (piece value start (place + 1)) (drop (place + 1) value)
    ≡ named_from (piece value start place) (drop place value)
named_within value start place le inside is =
    ap (λ p. named_from p (drop (place + 1) value)) (sym (piece_more value start place le inside))
    ∙ sym (named_on value start place false inside is)

none_of : (n : ℕ) (xs : List ℕ) → n ≡ 0 → take n xs ≡ []
none_of n xs is = ap (λ m. take m xs) is

-- a value ends that names none
pub named_past : (value : List ℕ) (start place begun : ℕ) → place < length value
    → is_separator (get_or value place 0) ≡ true → protocol_of (piece value start place) ≡ None → begun ≡ place + 1
    → named_from (piece value begun (place + 1)) (drop (place + 1) value)
    ≡ named_from (piece value start place) (drop place value)
named_past value start place begun inside is none there =
    let rest = drop (place + 1) value in
    ap (λ p. named_from p rest) (none_of (place + 1 - begun) (drop begun value) (omega arith))
    ∙ (ap (λ o. first_some o (named_from [] rest)) (sym none) ∙ sym (named_on value start place true inside is))

pub none_is : (o : Option Subprotocol) → is_some o ≡ false → o ≡ None
none_is None is = refl
none_is (Some p) is = absurd (let f : true ≡ false = is in cc)

-- the first value begins the whole
pub named_first : (value : List ℕ) → named_from [] value ≡ first_named value
unfolding first_named
named_first value = refl
