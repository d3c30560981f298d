-- The shapes of names (RFC 2812, sections 1.3 and 2.3.1; the 30 octets of a nickname and the colon in a channel name
-- are this project's own choice).
use Rattle.std.specs.Prelude.{ℕ, ◌==◌, nat_le, Bool, false, not, ◌&&◌, ◌||◌, List, [], ◌∷◌, length}
use Rattle.std.specs.List.{list_all}

abbrev pub lies_between : ℕ → ℕ → ℕ → Bool
lies_between low high octet = nat_le low octet && nat_le octet high

-- `A` to `Z` and `a` to `z`
abbrev pub is_letter : ℕ → Bool
is_letter octet = lies_between 65 90 octet || lies_between 97 122 octet

-- `0` to `9`
abbrev pub is_digit : ℕ → Bool
is_digit octet = lies_between 48 57 octet

-- ``[ \ ] ^ _ ` `` and `{ | }`
abbrev pub is_special : ℕ → Bool
is_special octet = lies_between 91 96 octet || lies_between 123 125 octet

-- what a nickname may begin with
abbrev pub nick_start : ℕ → Bool
nick_start octet = is_letter octet || is_special octet

-- what may follow in it: these, a digit or `-`
abbrev pub nick_octet : ℕ → Bool
nick_octet octet = nick_start octet || is_digit octet || octet == 45

-- any octet but NUL, BEL, CR, LF, space and comma
abbrev pub channel_octet : ℕ → Bool
channel_octet octet =
    not (octet == 0 || octet == 7 || octet == 13 || octet == 10 || octet == 32 || octet == 44)

-- a letter, a digit, `.`, `-` or `:`
abbrev pub host_octet : ℕ → Bool
host_octet octet = is_letter octet || is_digit octet || octet == 46 || octet == 45 || octet == 58

-- 1 to 30 octets
unfoldable pub nick_shape : List ℕ → Bool
nick_shape [] = false
nick_shape (first ∷ rest) = nat_le (length (first ∷ rest)) 30 && nick_start first && list_all nick_octet rest

-- `#` or `&`, and at most 50 octets in all
unfoldable pub channel_shape : List ℕ → Bool
channel_shape [] = false
channel_shape (first ∷ rest) =
    nat_le (length (first ∷ rest)) 50 && (first == 35 || first == 38) && list_all channel_octet rest

-- 1 to 63 octets, the first no `:`
unfoldable pub host_shape : List ℕ → Bool
host_shape [] = false
host_shape (first ∷ rest) =
    nat_le (length (first ∷ rest)) 63 && not (first == 58) && list_all host_octet (first ∷ rest)
