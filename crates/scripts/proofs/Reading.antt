-- A text is read octet by octet.
use Rattle.std.proofs.Common.{◌≡◌, ◌≢◌, ℕ, ◌+◌, ◌*◌, List, [], ◌∷◌, ◌++◌, Option, Some, None, ◌<◌}
use Rattle.std.proofs.Common.{length, drop, get_or, refl, sym, ap, ◌∙◌, append_assoc}
use Rattle.std.specs.Io.KnownBytes.{prepend_known}
use Rattle.std.proofs.lemmas.Bool.{ne_eqb, cond-false}
use Rattle.std.proofs.lemmas.List.{at_drop_more}
use Rattle.scripts.specs.declared.escape.EscapePlace.{EscapePlace}
use Rattle.scripts.specs.declared.escape.EscapePlace.TheVariants.{Between, Escape, SecondDigit}
use Rattle.scripts.specs.Escapes.{octets_from, then_octet, escaped_octet, hexadecimal, text_octets}

told : (old : List ℕ) (b : ℕ) (more : Option (List ℕ)) → prepend_known (old ++ b ∷ []) more
    ≡ prepend_known old (then_octet b more)
told old b None = refl
told old b (Some bs) = ap Some (append_assoc old (b ∷ []) bs)

pub plain : (old : List ℕ) (b : ℕ) (rest : List ℕ) → b ≢ 92 → b ≢ 34
    → prepend_known (old ++ b ∷ []) (octets_from Between rest) ≡ prepend_known old (octets_from Between (b ∷ rest))
plain old b rest no_escape no_quote =
    told old b (octets_from Between rest) ∙ ap (prepend_known old)
    (sym (cond-false _ _ _ (ne_eqb b 92 no_escape) ∙ cond-false _ _ _ (ne_eqb b 34 no_quote)))

letter : (b : ℕ) (rest : List ℕ) (o : Option ℕ) → b ≢ 120 → escaped_octet b ≡ o → octets_from Escape (b ∷ rest)
    ≡ elim o as (λ x. Option (List ℕ)) [ None ↦ None | Some e ↦ then_octet e (octets_from Between rest) ]
letter b rest o no_x e =
    cond-false _ _ _ (ne_eqb b 120 no_x) ∙ ap
    (λ o. elim o as (λ x. Option (List ℕ)) [ None ↦ None | Some e ↦ then_octet e (octets_from Between rest) ]) e

pub some_letter : (old : List ℕ) (b e : ℕ) (rest : List ℕ) → b ≢ 120 → escaped_octet b ≡ Some e
    → prepend_known (old ++ e ∷ []) (octets_from Between rest) ≡ prepend_known old (octets_from Escape (b ∷ rest))
some_letter old b e rest no_x is = told old e (octets_from Between rest) ∙ ap (prepend_known old)
    (sym (letter b rest (Some e) no_x is))

pub second_digit : (old : List ℕ) (b h l : ℕ) (rest : List ℕ) → hexadecimal b ≡ Some l → prepend_known
    (old ++ (16 * h + l) ∷ []) (octets_from Between rest) ≡ prepend_known old (octets_from (SecondDigit h) (b ∷ rest))
second_digit old b h l rest is =
    told old (16 * h + l) (octets_from Between rest) ∙ ap (prepend_known old) (sym (ap (λ o. elim o as
    (λ x. Option (List ℕ)) [ None ↦ None | Some low ↦ then_octet (16 * h + low) (octets_from Between rest) ]) is))

-- a text with an octet that spells nothing spells nothing
pub bad_octet : (octets text : List ℕ) (place : EscapePlace) (i : ℕ) → i < length text
    → prepend_known octets (octets_from place (drop i text)) ≡ text_octets text
    → ((rest : List ℕ) → octets_from place (get_or text i 0 ∷ rest) ≡ None) → text_octets text ≡ None
bad_octet octets text place i lt so_far bad =
    sym so_far ∙ ap (prepend_known octets) (at_drop_more (octets_from place) text i 0 lt ∙ bad (drop (i + 1) text))
