-- The tags that a client sends to other clients, as tag data (IRCv3 message-tags, "Client-only tags").
use Rattle.std.specs.Prelude.{ℕ, ◌==◌, nat_eq, Bool, not, List, [], ◌∷◌, ◌++◌, map, filter, length, if◌then◌else◌}
use Rattle.std.specs.List.{list_any, starts_with, join_with_byte}
use Rattle.message_tags.specs.declared.tag.Tag.{Tag}
use Rattle.message_tags.specs.Value.{escapes_of}
use Rattle.message_tags.specs.Tags.{has_key}

-- no later tag has its key
abbrev pub is_last : Tag → List Tag → Bool
is_last tag later = not (list_any (has_key tag.key) later)

-- the last tag of each key, in the order of these
abbrev pub last_of_each : List Tag → List Tag
last_of_each [] = []
last_of_each (tag ∷ later) = if is_last tag later then tag ∷ last_of_each later else last_of_each later

-- the key begins with `+`
abbrev pub is_client_only : Tag → Bool
is_client_only tag = starts_with nat_eq tag.key (43 ∷ [])

-- `key=value`, or the key alone where the value is empty
abbrev pub spelling_of : Tag → List ℕ
spelling_of tag = if length tag.value == 0 then tag.key else tag.key ++ 61 ∷ escapes_of tag.value

abbrev pub spellings : List Tag → List (List ℕ)
spellings tags = map spelling_of (filter is_client_only (last_of_each tags))

-- parted by `;`
unfoldable pub client_only_data : List Tag → List ℕ
client_only_data tags = join_with_byte 59 (spellings tags)

-- what comes of tag data where one more tag is added to it: a word of the private steps
abbrev pub plus_tag : List ℕ → List ℕ → List ℕ
plus_tag tag_data spelling = if length tag_data == 0 then spelling else tag_data ++ 59 ∷ spelling
