-- Files that a server is started with: this project's own choice.
use Rattle.std.specs.Prelude.{ℕ, ◌-◌, Bool, ◌==◌, if◌then◌else◌, List, [], ◌∷◌, take, length, slice_index_or}
use Rattle.std.specs.List.{slice_split}

-- whether a text's last octet is a line feed
abbrev pub ends_line : List ℕ → Bool
ends_line text = slice_index_or text (length text - 1) 0 == 10

-- a text without the line feed at its end
abbrev pub body_of : List ℕ → List ℕ
body_of text = if ends_line text then take (length text - 1) text else text

-- line feeds part the lines of the message of the day; an empty last one counts for nothing
abbrev pub motd_in : List ℕ → List (List ℕ)
motd_in [] = []
motd_in (x ∷ xs) = slice_split (λ b. b == 10) (body_of (x ∷ xs))
