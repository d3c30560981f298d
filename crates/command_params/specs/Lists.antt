-- Lists in one parameter: RFC 2812, section 2.3.1 (names are parted by commas), and IRCv3 Capability Negotiation
-- (words are parted by spaces). Empty names, and what repeats a name in either case, are left out (this project's
-- own choice).
use Rattle.std.specs.Prelude.{ℕ, Bool, not, ◌==◌, List, [], ◌∷◌, filter, Option, Some, None}
use Rattle.std.specs.List.{slice_split}
use Rattle.casemapping.specs.Fold.{is_same}
use Rattle.line_grammar.specs.Parts.{is_present}
use Rattle.command_params.specs.declared.join_targets.JoinTarget.{JoinTarget}

abbrev pub is_comma : ℕ → Bool
is_comma b = b == 44

abbrev pub is_space : ℕ → Bool
is_space b = b == 32

-- each name once, where it comes first
abbrev pub distinct : {X : Type 0} → (X → List ℕ) → List X → List X
distinct name [] = []
distinct name (x ∷ xs) = x ∷ filter (λ y. not (is_same (name x) (name y))) (distinct name xs)

-- the names between commas
abbrev pub names_of : List ℕ → List (List ℕ)
names_of list = distinct (λ name. name) (filter is_present (slice_split is_comma list))

-- the names of the first parameter, where there is one
abbrev pub list_given : List (List ℕ) → Option (List (List ℕ))
list_given [] = None
list_given (list ∷ ps) = Some (names_of list)

-- each channel with the key at its place; where the keys end, with none
abbrev pub with_keys : List (List ℕ) → List (List ℕ) → List JoinTarget
with_keys [] keys = []
with_keys (channel ∷ channels) [] = record { channel = channel; key = [] } ∷ with_keys channels []
with_keys (channel ∷ channels) (key ∷ keys) = record { channel = channel; key = key } ∷ with_keys channels keys

-- the channels to join, with their keys: the places in both lists are counted before any name is left out
abbrev pub targets_of : List ℕ → List ℕ → List JoinTarget
targets_of channels keys =
    distinct (λ target. target.channel) (filter (λ target. is_present target.channel)
    (with_keys (slice_split is_comma channels) (slice_split is_comma keys)))

-- the words between spaces
abbrev pub words_of : List ℕ → List (List ℕ)
words_of list = filter is_present (slice_split is_space list)
