-- The spelling of a message as a line: RFC 2812, section 2.3.1, with the tags of IRCv3 message-tags. One space parts
-- the pieces.
use Rattle.std.specs.Prelude.{◌≡◌, ℕ, ◌-◌, ◌<◌, ◌≤◌, ◌==◌, ◌||◌, ◌&&◌, not, Bool, true, cond, List, []}
use Rattle.std.specs.Prelude.{◌∷◌, ◌++◌, length, take, drop, Option, Some, None, IfSome}
use Rattle.std.specs.List.{flat_map, list_all, list_any}
use Rattle.line_grammar.specs.declared.message.Message.{Message}
use Rattle.line_grammar.specs.Reading.{is_command}

-- the parameters that are spelled without a colon: all, or all but the last
abbrev pub plain_count : List (List ℕ) → Bool → ℕ
plain_count params colon = cond colon (length params - 1) (length params)

abbrev pub plain_parameters : List (List ℕ) → Bool → List (List ℕ)
plain_parameters params colon = take (plain_count params colon) params

-- what can only be spelled after a colon: nothing, a space in it, or a colon first
abbrev pub needs_colon : List ℕ → Bool
needs_colon [] = true
needs_colon (b ∷ bs) = b == 58 || list_any (λ c. c == 32) (b ∷ bs)

-- none of NUL, CR and LF, and in a word no space
abbrev pub is_text_octet : ℕ → Bool
is_text_octet b = not (b == 0) && (not (b == 13) && not (b == 10))

abbrev pub is_word_octet : ℕ → Bool
is_word_octet b = not (b == 32) && is_text_octet b

-- a message that has a spelling, its plain parameters apart
pub record IsWritable (m : Message) : Type 0 where
  pub command : is_command m.command ≡ true
  pub few_params : length m.params ≤ 15
  pub colon_before_last : m.colon ≡ true → 0 < length m.params
  pub tags : list_all is_word_octet m.tags ≡ true
  pub source : IfSome m.source (λ source. list_all is_word_octet source ≡ true)
  pub params : list_all (λ p. list_all is_text_octet p) m.params ≡ true

abbrev pub spelled_tags : List ℕ → List ℕ
spelled_tags [] = []
spelled_tags (b ∷ bs) = 64 ∷ ((b ∷ bs) ++ 32 ∷ [])

abbrev pub spelled_source : Option (List ℕ) → List ℕ
spelled_source None = []
spelled_source (Some source) = 58 ∷ (source ++ 32 ∷ [])

abbrev pub spelled_params : List (List ℕ) → Bool → List ℕ
spelled_params params colon = flat_map (λ p. 32 ∷ p) (plain_parameters params colon) ++ flat_map
    (λ p. 32 ∷ 58 ∷ p) (drop (plain_count params colon) params)

-- a line of these parts, without tags
unfoldable pub bare_line : Option (List ℕ) → List ℕ → List (List ℕ) → Bool → List ℕ
bare_line source command params colon = spelled_source source ++ (command ++ spelled_params params colon)

unfoldable pub spelling : Message → List ℕ
spelling m = spelled_tags m.tags ++ bare_line m.source m.command m.params m.colon
