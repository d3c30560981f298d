-- Names that are spelled into one text.
use Rattle.std.proofs.Common.{◌≡◌, ℕ, suc, ◌+◌, ◌<◌, Bool, ◌&&◌, nat_le, true, false, List, [], ◌∷◌, ◌++◌, length, map}
use Rattle.std.proofs.Common.{codes, refl, ap, sym, ◌∙◌, arith, append_assoc, append-nil, length-append}
use Rattle.std.specs.List.{flat_map}
use Rattle.std.proofs.lemmas.Bool.{lt-ltb}
use Rattle.std.proofs.lemmas.List.{length-map}
use Rattle.std.proofs.lemmas.Grind.{flat_map-append}
use Rattle.numerics.specs.declared.numeric.Numeric.{Numeric}
use Rattle.numerics.specs.declared.numeric.Numeric.TheVariants.{NamReply}
use Rattle.numerics.specs.Numerics.{numeric, row_line, says, sign, names_text}
use Rattle.numerics.specs.Cut.{cut_lines, lines_with, takes}
use Rattle.query_commands.specs.Telling.{Telling, telling_more}
use Rattle.query_commands.proofs.Told.{more_more}

-- ---- the text of names

pub one_spaced : (name : List ℕ) → names_text (name ∷ []) ≡ name
one_spaced name = append-nil name

spaced_after : (first : List ℕ) (names : List (List ℕ)) (name : List ℕ)
    → names_text (first ∷ (names ++ name ∷ [])) ≡ names_text (first ∷ names) ++ 32 ∷ name
spaced_after first names name =
    let after = λ (ns : List (List ℕ)). flat_map (λ n. 32 ∷ n) ns in
    ap (λ t. first ++ t) (flat_map-append (λ n. 32 ∷ n) names (name ∷ []) ∙ ap (λ t. after names ++ 32 ∷ t)
    (append-nil name)) ∙ sym (append_assoc first (after names) (32 ∷ name))

pub more_spaced : (names : List (List ℕ)) (name : List ℕ) → 0 < length names
    → names_text (names ++ name ∷ []) ≡ names_text names ++ 32 ∷ name
more_spaced [] name some = absurd (omega (arith, some))
more_spaced (first ∷ names) name some = spaced_after first names name

pub more_octets : (names : List (List ℕ)) (name : List ℕ) → 0 < length names
    → length (names_text (names ++ name ∷ [])) ≡ length (names_text names) + suc (length name)
more_octets names name some = ap length (more_spaced names name some) ∙ length-append (names_text names) (32 ∷ name)

-- ---- a step of cutting them into lines

takes_by : (room most : ℕ) (line : List (List ℕ)) (name : List ℕ) (b : Bool) → length line < most
    → nat_le (length (names_text (line ++ name ∷ []))) room ≡ b → takes room most line name ≡ b
takes_by room most line name b short e =
    ap (λ (c : Bool). c && nat_le (length (names_text (line ++ name ∷ []))) room) (lt-ltb (length line) most short) ∙ e

pub filled_more : (room most : ℕ) (line : List (List ℕ)) (name : List ℕ) (names : List (List ℕ))
    → length line < most → nat_le (length (names_text (line ++ name ∷ []))) room ≡ true
    → lines_with room most line (name ∷ names) ≡ lines_with room most (line ++ name ∷ []) names
filled_more room most line name names short more =
    let e = takes_by room most line name true short more in rw (e, lines_with) refl

pub filled_full : (room most : ℕ) (line : List (List ℕ)) (name : List ℕ) (names : List (List ℕ))
    → length line < most → nat_le (length (names_text (line ++ name ∷ []))) room ≡ false
    → lines_with room most line (name ∷ names) ≡ line ∷ lines_with room most (name ∷ []) names
filled_full room most line name names short full =
    let e = takes_by room most line name false short full in rw (e, lines_with) refl

-- ---- what is told with it

-- a name that the line takes
pub told_more : (t : Telling) (told : List (List ℕ) → Numeric) (room most : ℕ) (line : List (List ℕ)) (name : List ℕ)
    (names left : List (List ℕ)) → left ≡ name ∷ names → length line < most
    → nat_le (length (names_text (line ++ name ∷ []))) room ≡ true
    → telling_more t (map told (lines_with room most (line ++ name ∷ []) names))
    ≡ telling_more t (map told (lines_with room most line left))
told_more t told room most line name names left next short more =
    ap (λ ls. telling_more t (map told ls)) (sym (ap (lines_with room most line) next
    ∙ filled_more room most line name names short more))

-- a name that stands in the next line
pub told_full : (t : Telling) (told : List (List ℕ) → Numeric) (room most : ℕ) (line : List (List ℕ)) (name : List ℕ)
    (names left : List (List ℕ)) → left ≡ name ∷ names → length line < most
    → nat_le (length (names_text (line ++ name ∷ []))) room ≡ false
    → telling_more (telling_more t (told line ∷ [])) (map told (lines_with room most (name ∷ []) names))
    ≡ telling_more t (map told (lines_with room most line left))
told_full t told room most line name names left next short full =
    more_more t (told line ∷ []) (map told (lines_with room most (name ∷ []) names))
    ∙ ap (λ ls. telling_more t (map told ls)) (sym (ap (lines_with room most line) next
    ∙ filled_full room most line name names short full))

-- ---- the first of them, and none

pub nothing_told : (t : Telling) (told : List (List ℕ) → Numeric) (room : ℕ) (f : ℕ → List ℕ) (members : List ℕ)
    → members ≡ [] → t ≡ telling_more t (map told (cut_lines room (length (map f members)) (map f members)))
unfolding cut_lines
nothing_told t told room f members none = rw none
    (ap (λ (ns : List Numeric). record { server = t.server; to = t.to; items = ns }) (sym (append-nil t.items)))

pub first_told : (t : Telling) (told : List (List ℕ) → Numeric) (room : ℕ) (f : ℕ → List ℕ) (first : ℕ)
    (members rest : List ℕ) (line : List (List ℕ)) → members ≡ first ∷ rest → line ≡ f first ∷ []
    → telling_more t (map told (lines_with room (length members) line (map f rest)))
    ≡ telling_more t (map told (cut_lines room (length (map f members)) (map f members)))
unfolding cut_lines
first_told t told room f first members rest line is one = rw (is, one, length-map (first ∷ rest) f) refl

-- ---- the line that tells them

-- names are told as one name that is their text
pub told_as_one : (server to : List ℕ) (secret : Bool) (channel text : List ℕ) (names : List (List ℕ))
    → text ≡ names_text names → numeric server to (NamReply secret channel (text ∷ []))
    ≡ numeric server to (NamReply secret channel names)
unfolding numeric
told_as_one server to secret channel text names e =
    ap (λ t. row_line server to (says (codes "353") (sign secret ∷ channel ∷ []) t)) (one_spaced text ∙ e)
