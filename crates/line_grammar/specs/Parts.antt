-- Parts of a text between separators, as lists in parameters have them (RFC 2812, section 2.3.1), and what is left
-- of them.
use Rattle.std.specs.Prelude.{ℕ, Bool, not, ◌+◌, ◌==◌, List, [], length, Option, Some, None}
use Rattle.std.specs.Borrow.{Bor}
use Rattle.std.specs.List.{slice_split}

abbrev pub is_empty : List ℕ → Bool
is_empty text = length text == 0

abbrev pub is_present : List ℕ → Bool
is_present text = not (is_empty text)

-- what stands between separators: one part more than there are separators
abbrev pub parts : ℕ → List ℕ → List (List ℕ)
parts separator text = slice_split (λ b. b == separator) text

-- the parts of what is left of a text: none where nothing is left
abbrev pub parts_left : ℕ → Option (Bor (List ℕ)) → List (List ℕ)
parts_left separator None = []
parts_left separator (Some rest) = parts separator rest.now

-- how much is left: more than nothing, also where no octet is
abbrev pub octets_left : Option (Bor (List ℕ)) → ℕ
octets_left None = 0
octets_left (Some rest) = length rest.now + 1
