-- What a tag's value means as it stands in a line, and how a value is written there (IRCv3 message-tags, "Escaping
-- values").
use Rattle.std.specs.Prelude.{ℕ, ◌==◌, Bool, true, false, List, [], ◌∷◌, if◌then◌else◌}
use Rattle.std.specs.List.{flat_map}

-- What an octet after a backslash stands for: `:` for `;`, `s` for a space, `r` for CR, `n` for LF, and
-- another octet for itself.
abbrev pub meaning_of : ℕ → ℕ
meaning_of octet =
    if octet == 58 then 59
    else if octet == 115 then 32
    else if octet == 114 then 13
    else if octet == 110 then 10
    else octet

-- A backslash, 92, and the octet after it stand for one octet, and a lone backslash at the end for none.
abbrev pub value : List ℕ → List ℕ
value [] = []
value (octet ∷ []) = if octet == 92 then [] else octet ∷ []
value (octet ∷ next ∷ rest) = if octet == 92 then meaning_of next ∷ value rest else octet ∷ value (next ∷ rest)

-- what is left of a value where its reading has come behind a backslash, or not
abbrev pub left_of : Bool → List ℕ → List ℕ
left_of true rest = 92 ∷ rest
left_of false rest = rest

-- `;`, a space, a backslash, CR and LF are escaped.
abbrev pub escape_of : ℕ → List ℕ
escape_of octet =
    if octet == 59 then 92 ∷ 58 ∷ []
    else if octet == 32 then 92 ∷ 115 ∷ []
    else if octet == 92 then 92 ∷ 92 ∷ []
    else if octet == 13 then 92 ∷ 114 ∷ []
    else if octet == 10 then 92 ∷ 110 ∷ []
    else octet ∷ []

abbrev pub escapes_of : List ℕ → List ℕ
escapes_of octets = flat_map escape_of octets
