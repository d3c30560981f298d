-- Reading tag data, a part at a time.
use Rattle.std.proofs.Common.{◌≡◌, ℕ, ◌+◌, ◌<◌, Result, Ok, Err, List, [], ◌∷◌, ◌++◌, map, filter, length, get_or}
use Rattle.std.proofs.Common.{take, Option, Some, None, Bor, reverse, refl, arith, sym, ap, ◌∙◌}
use Rattle.std.specs.Result.{MatchResult, is_ok}
use Rattle.std.specs.List.{find}
use Rattle.std.specs.Option.{option_map, option_or}
use Rattle.std.specs.Str.{IsUtf8, is_utf8}
use Rattle.std.proofs.lemmas.Str.{IsUtf8-from_is_utf8, is_utf8-from_IsUtf8}
use Rattle.std.proofs.lemmas.Bool.{false_from_ne_true}
use Rattle.std.proofs.lemmas.List.{take_more, take_all, map-append, reverse-append}
use Rattle.std.proofs.lemmas.List.Elements.{filter-append}
use Rattle.std.proofs.lemmas.List.Folds.{find-append}
use Rattle.message_tags.specs.declared.tag.Tag.{Tag}
use Rattle.message_tags.specs.Value.{value}
use Rattle.message_tags.specs.Tags.{tag_of, counts, has_key, last_value}

pub is_ok-is_utf8 : {X E : Type 0} (r : Result X E) (P : X → Type 0) (Q : E → Type 0) (octets : List ℕ)
    → MatchResult r (λ x. P x × IsUtf8 octets) (λ e. (IsUtf8 octets → ⊥) × Q e) → is_ok r ≡ is_utf8 octets
is_ok-is_utf8 (Ok x) P Q octets h = sym (is_utf8-from_IsUtf8 octets h.1)
is_ok-is_utf8 (Err e) P Q octets h = sym
    (false_from_ne_true (is_utf8 octets) (λ t. h.0 (IsUtf8-from_is_utf8 octets t)))

-- the tags of the parts that count
abbrev pub tags_in : List (List ℕ) → List Tag
tags_in parts = map tag_of (filter counts parts)

pub tags_in_more : (parts : List (List ℕ)) (i : ℕ) (part : List ℕ) → i < length parts → part ≡ get_or parts i part
    → tags_in (take (i + 1) parts) ≡ tags_in (take i parts) ++ tags_in (part ∷ [])
tags_in_more parts i part inside is =
    ap tags_in (take_more parts i part inside ∙ ap (λ p. take i parts ++ p ∷ []) (sym is))
    ∙ ap (map tag_of) (filter-append counts (take i parts) (part ∷ []))
    ∙ map-append tag_of (filter counts (take i parts)) (filter counts (part ∷ []))

pub tags_in_all : (parts : List (List ℕ)) (n : ℕ) → n ≡ length parts → tags_in (take n parts) ≡ tags_in parts
tags_in_all parts n all = ap tags_in (take_all n parts (omega arith))

option_map-or : {X Y : Type 0} (f : X → Y) (a b : Option X) → option_map f (option_or a b)
    ≡ option_or (option_map f a) (option_map f b)
option_map-or f None b = refl
option_map-or f (Some x) b = refl

-- the last tag with a key among two lists is that of the second, or else that of the first
pub last_value-append : (key : List ℕ) (xs ys : List Tag) → last_value (xs ++ ys) key
    ≡ option_or (last_value ys key) (last_value xs key)
unfolding last_value
last_value-append key xs ys =
    ap (λ tags. option_map (λ t. t.value) (find (has_key key) tags)) (reverse-append xs ys)
    ∙ ap (option_map (λ t. t.value)) (find-append (has_key key) (reverse ys) (reverse xs))
    ∙ option_map-or (λ t. t.value) (find (has_key key) (reverse ys)) (find (has_key key) (reverse xs))

-- one part more, whose own value comes first
pub last_value-more : (key : List ℕ) (parts : List (List ℕ)) (i : ℕ) (part : List ℕ)
    (own found : Option (Bor (List ℕ))) →
    i < length parts → part ≡ get_or parts i part →
    option_map (λ raw. value raw.now) own ≡ last_value (tags_in (part ∷ [])) key →
    option_map (λ raw. value raw.now) found ≡ last_value (tags_in (take i parts)) key →
    option_map (λ raw. value raw.now) (option_or own found) ≡ last_value (tags_in (take (i + 1) parts)) key
last_value-more key parts i part own found inside is e f =
    let g : Bor (List ℕ) → List ℕ = λ raw. value raw.now in
    option_map-or g own found
    ∙ ap (λ o. option_or o (option_map g found)) e
    ∙ ap (option_or (last_value (tags_in (part ∷ [])) key)) f
    ∙ sym (last_value-append key (tags_in (take i parts)) (tags_in (part ∷ [])))
    ∙ ap (λ tags. last_value tags key) (sym (tags_in_more parts i part inside is))
