-- The lower case of octets and of names (RFC 2812, section 2.2; the case mapping `rfc1459`).
use Rattle.std.specs.Prelude.{ℕ, Bool, ◌+◌, ◌==◌, nat_le, ◌&&◌, List, map, if◌then◌else◌}
use Rattle.std.specs.Str.{bytes_eq}

-- `A` to `Z` become `a` to `z`, and `[`, `]`, `\` and `~` become `{`, `}`, `|` and `^`.
unfoldable pub fold_of : ℕ → ℕ
fold_of octet =
    if nat_le 65 octet && nat_le octet 90 then octet + 32
    else if octet == 91 then 123
    else if octet == 93 then 125
    else if octet == 92 then 124
    else if octet == 126 then 94
    else octet

-- A name octet by octet.
abbrev pub name_fold : List ℕ → List ℕ
name_fold name = map fold_of name

-- Whether two names differ in case at most.
unfoldable pub is_same : List ℕ → List ℕ → Bool
is_same a b = bytes_eq (name_fold a) (name_fold b)
