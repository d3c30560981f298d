-- The message in a line, part by part from the left: RFC 2812, section 2.3.1, with the tag data of IRCv3 message-tags.
use Rattle.std.specs.Prelude.{ℕ, Bool, true, false, ◌||◌, ◌&&◌, ◌==◌, nat_le, nat_lt, cond, zero}
use Rattle.std.specs.Prelude.{suc, List, [], ◌∷◌, length, drop, Option, Some, None}
use Rattle.std.specs.List.{list_all, list_any}
use Rattle.line_grammar.specs.declared.message.Message.{Message}
use Rattle.line_grammar.specs.Lines.{after_space, before_space}

-- spaces at the front count for nothing
abbrev pub without_spaces : List ℕ → List ℕ
without_spaces [] = []
without_spaces (b ∷ bs) = cond (b == 32) (without_spaces bs) (b ∷ bs)

-- whether there is a first octet and it is this one
abbrev pub begins_with : ℕ → List ℕ → Bool
begins_with c [] = false
begins_with c (b ∷ bs) = b == c

abbrev pub is_letter : ℕ → Bool
is_letter b = nat_le 65 b && nat_le b 90 || nat_le 97 b && nat_le b 122

abbrev pub is_digit : ℕ → Bool
is_digit b = nat_le 48 b && nat_le b 57

-- one or more letters, or three digits
abbrev pub is_command : List ℕ → Bool
is_command word = nat_lt 0 (length word) && list_all is_letter word || length word == 3 && list_all is_digit word

-- the tag data of a line that begins with `@`, and what comes after it
abbrev pub tags_of : List ℕ → List ℕ
tags_of bs = cond (begins_with 64 bs) (drop 1 (before_space bs)) []

abbrev pub after_tags : List ℕ → List ℕ
after_tags bs = without_spaces (cond (begins_with 64 bs) (after_space bs) bs)

-- the source, which stands after a colon, and what comes after it
abbrev pub source_of : List ℕ → Option (List ℕ)
source_of bs = cond (begins_with 58 bs) (Some (drop 1 (before_space bs))) None

abbrev pub after_source : List ℕ → List ℕ
after_source bs = cond (begins_with 58 bs) (without_spaces (after_space bs)) bs

-- the last parameter: all that is left, without one leading colon; the spaces before it are gone
abbrev pub last_parameter : List ℕ → List (List ℕ) × Bool
last_parameter [] = ([], false)
last_parameter (b ∷ bs) = cond (b == 58) (bs ∷ [], true) ((b ∷ bs) ∷ [], false)

-- at most n parameters parted by spaces, then the last; and whether the last is spelled with a colon
unfoldable pub parameters : ℕ → List ℕ → List (List ℕ) × Bool
parameters zero bs = last_parameter (without_spaces bs)
parameters (suc n) bs =
    let s = without_spaces bs in let more = parameters n (after_space s) in
    cond (begins_with 58 s || length s == 0) (last_parameter s) (before_space s ∷ more.0, more.1)

-- a command and its parameters, which make a message with the tags and the source before them
unfoldable pub with_command : List ℕ → Option (List ℕ) → List ℕ → Option Message
with_command tags source bs =
    let more = parameters 14 (after_space bs) in
    cond (is_command (before_space bs)) (Some
    (record { tags = tags; source = source; command = before_space bs; params = more.0; colon = more.1 })) None

-- the message in a line, if there is one. A line with NUL has none
unfoldable pub reading : List ℕ → Option Message
reading bs =
    let rest = after_tags bs in
    cond (list_any (λ b. b == 0) bs) None (with_command (tags_of bs) (source_of rest) (after_source rest))
