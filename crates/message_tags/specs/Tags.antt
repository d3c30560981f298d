-- The tags of tag data (IRCv3 message-tags, "Format" and "Rules for naming message tags").
use Rattle.std.specs.Prelude.{ℕ, ◌+◌, take, drop, position, None, Some, ◌==◌, nat_le, Bool, ◌&&◌, ◌||◌, not}
use Rattle.std.specs.Prelude.{List, [], ◌∷◌, map, filter, reverse, length, Option, if◌then◌else◌}
use Rattle.std.specs.Option.{option_map}
use Rattle.std.specs.List.{list_all, find, slice_split, before_first, after_first}
use Rattle.std.specs.Str.{is_utf8, bytes_eq}
use Rattle.message_tags.specs.declared.tag.Tag.{Tag}
use Rattle.message_tags.specs.Value.{value}

abbrev pub lies_between : ℕ → ℕ → ℕ → Bool
lies_between low high octet = nat_le low octet && nat_le octet high

-- a letter, a digit or `-`
abbrev pub name_octet : ℕ → Bool
name_octet octet = lies_between 65 90 octet || lies_between 97 122 octet || lies_between 48 57 octet || octet == 45

-- these or `.`
abbrev pub vendor_octet : ℕ → Bool
vendor_octet octet = name_octet octet || octet == 46

-- one or more octets that pass
abbrev pub some_of : (ℕ → Bool) → List ℕ → Bool
some_of passes octets = not (length octets == 0) && list_all passes octets

-- a name, or a vendor, a `/` and a name
abbrev pub parts_shape : List ℕ → Option ℕ → Bool
parts_shape path None = some_of name_octet path
parts_shape path (Some slash) = some_of vendor_octet (take slash path) && some_of name_octet (drop (slash + 1) path)

abbrev pub path_shape : List ℕ → Bool
path_shape path = parts_shape path (position (λ octet. octet == 47) path)

-- a key without the `+` that marks it as the client's
abbrev pub without_plus : List ℕ → List ℕ
without_plus [] = []
without_plus (first ∷ rest) = if first == 43 then rest else first ∷ rest

unfoldable pub key_shape : List ℕ → Bool
key_shape key = path_shape (without_plus key)

-- a tag is a key, or a key and a value parted by the first `=`; a missing value is an empty one
abbrev pub key_of : List ℕ → List ℕ
key_of part = before_first (λ octet. octet == 61) part

abbrev pub raw_value_of : List ℕ → List ℕ
raw_value_of part = after_first (λ octet. octet == 61) part

abbrev pub tag_of : List ℕ → Tag
tag_of part = record { key = key_of part; value = value (raw_value_of part) }

-- the tags that aren't dropped: the key has its shape, and the value as it stands is UTF-8
abbrev pub counts : List ℕ → Bool
counts part = key_shape (key_of part) && is_utf8 (raw_value_of part)

-- tags are parted by `;`
abbrev pub parts_of : List ℕ → List (List ℕ)
parts_of tag_data = slice_split (λ octet. octet == 59) tag_data

-- the tags that count, in order
unfoldable pub counting_tags : List ℕ → List Tag
counting_tags tag_data = map tag_of (filter counts (parts_of tag_data))

-- of a repeated key the last counts
abbrev pub has_key : List ℕ → Tag → Bool
has_key key tag = bytes_eq tag.key key

unfoldable pub last_value : List Tag → List ℕ → Option (List ℕ)
last_value tags key = option_map (λ t. t.value) (find (has_key key) (reverse tags))

-- the meaning of the last tag with a key in tag data
abbrev pub tag : List ℕ → List ℕ → Option (List ℕ)
tag tag_data key = last_value (counting_tags tag_data) key
