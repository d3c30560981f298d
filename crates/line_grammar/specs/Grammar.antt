-- When a line spells a message, rule by rule: RFC 2812, section 2.3.1, with the tags of IRCv3 message-tags.
use Rattle.std.specs.Prelude.{◌≡◌, ◌≢◌, ℕ, ◌<◌, ◌≤◌, ◌⊎◌, Bool, true, false, zero, suc}
use Rattle.std.specs.Prelude.{List, [], ◌∷◌, ◌++◌, length, Option, Some, None}
use Rattle.std.specs.List.{AllByRecursion}
use Rattle.line_grammar.specs.declared.message.Message.{Message}

-- no octet of these is c
abbrev pub IsFreeOf : ℕ → List ℕ → Type 0
IsFreeOf c bs = AllByRecursion (λ b. b ≢ c) bs

-- spaces, any number of them
abbrev pub AreSpaces : List ℕ → Type 0
AreSpaces bs = AllByRecursion (λ b. b ≡ 32) bs

-- one or more spaces
abbrev pub IsGap : List ℕ → Type 0
IsGap bs = (0 < length bs) × AreSpaces bs

-- a letter in either case
abbrev pub IsLetter : ℕ → Type 0
IsLetter b = ((65 ≤ b) × (b ≤ 90)) ⊎ ((97 ≤ b) × (b ≤ 122))

abbrev pub IsDigit : ℕ → Type 0
IsDigit b = (48 ≤ b) × (b ≤ 57)

-- command = 1*letter / 3digit
abbrev pub IsCommand : List ℕ → Type 0
IsCommand word = ((0 < length word) × AllByRecursion IsLetter word) ⊎ ((length word ≡ 3) × AllByRecursion IsDigit word)

-- [ "@" tags SPACE ]
abbrev pub SpellsTags : List ℕ → List ℕ → Type 0
SpellsTags [] tags = tags ≡ []
SpellsTags (b ∷ bs) tags = (b ≡ 64) × IsFreeOf 32 tags × (bs ≡ tags ++ 32 ∷ [])

-- [ ":" source 1*SPACE ]
abbrev pub SpellsSource : List ℕ → Option (List ℕ) → Type 0
SpellsSource part None = part ≡ []
SpellsSource part (Some source) = IsFreeOf 32 source × ((gap : List ℕ) × IsGap gap × (part ≡ 58 ∷ (source ++ gap)))

-- there is a first octet, and it is neither a space nor a colon
abbrev pub BeginsPlain : List ℕ → Type 0
BeginsPlain [] = ⊥
BeginsPlain (b ∷ bs) = (b ≢ 32) × (b ≢ 58)

-- a parameter with no space in it, which doesn't begin with a colon
abbrev pub IsMiddle : List ℕ → Type 0
IsMiddle word = BeginsPlain word × IsFreeOf 32 word

-- params = *14( 1*SPACE middle ) [ 1*SPACE ":" trailing ] *SPACE
--        / 14( 1*SPACE middle ) [ 1*SPACE [ ":" ] trailing ]
-- with at most n middles; and whether the last is spelled with a colon
pub data SpellsParameters : ℕ → List ℕ → List (List ℕ) → Bool → Type 0 where
  none : (n : ℕ) (spaces : List ℕ) → AreSpaces spaces → SpellsParameters n spaces [] false
  middle : (n : ℕ) (gap word rest : List ℕ) (others : List (List ℕ)) (colon : Bool)
      → IsGap gap → IsMiddle word → SpellsParameters n rest others colon
      → SpellsParameters (suc n) (gap ++ (word ++ rest)) (word ∷ others) colon
  trailing : (n : ℕ) (gap text : List ℕ) → IsGap gap → SpellsParameters n (gap ++ 58 ∷ text) (text ∷ []) true
  fifteenth : (gap text : List ℕ) → IsGap gap → BeginsPlain text
      → SpellsParameters zero (gap ++ text) (text ∷ []) false

-- the line spells the message: its tags, spaces that count for nothing, its source, its command, its parameters. No
-- octet is NUL
pub record Reads (line : List ℕ) (m : Message) : Type 0 where
  pub tags_part : List ℕ
  pub spaces : List ℕ
  pub source_part : List ℕ
  pub params_part : List ℕ
  pub whole : line ≡ tags_part ++ (spaces ++ (source_part ++ (m.command ++ params_part)))
  pub tags : SpellsTags tags_part m.tags
  pub are_spaces : AreSpaces spaces
  pub source : SpellsSource source_part m.source
  pub command : IsCommand m.command
  pub params : SpellsParameters 14 params_part m.params m.colon
  pub no_nul : IsFreeOf 0 line
