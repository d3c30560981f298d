-- Capabilities: IRCv3 Capability Negotiation. Those that are known are away-notify, batch, echo-message,
-- extended-join, labeled-response, message-tags, sasl and server-time.
use Rattle.std.specs.Prelude.{◌≡◌, ℕ, Bool, true, false, ◌==◌, slice_index_or, slice_set, replicate, is_some}
use Rattle.std.specs.Prelude.{cond, List, [], ◌∷◌, length, fold, codes, Option, Some, None}
use Rattle.std.specs.List.{find, filter, list_all, position_or_len}
use Rattle.std.specs.Str.{bytes_eq}
use Rattle.registration.specs.declared.caps.Cap.{Cap}
use Rattle.registration.specs.declared.caps.Cap.TheVariants.{AwayNotify, Batch, EchoMessage, ExtendedJoin}
use Rattle.registration.specs.declared.caps.Cap.TheVariants.{LabeledResponse, MessageTags, Sasl, ServerTime}
use Rattle.registration.specs.declared.caps.Caps.{Caps}

abbrev pub cap_name : Cap → List ℕ
cap_name AwayNotify = codes "away-notify"
cap_name Batch = codes "batch"
cap_name EchoMessage = codes "echo-message"
cap_name ExtendedJoin = codes "extended-join"
cap_name LabeledResponse = codes "labeled-response"
cap_name MessageTags = codes "message-tags"
cap_name Sasl = codes "sasl"
cap_name ServerTime = codes "server-time"

-- every capability, sorted by name
abbrev pub all_caps : List Cap
all_caps = AwayNotify ∷ Batch ∷ EchoMessage ∷ ExtendedJoin ∷ LabeledResponse ∷ MessageTags ∷ Sasl ∷ ServerTime ∷ []

-- the capability of a name, if it is known
abbrev pub cap_named : List ℕ → Option Cap
cap_named name = find (λ known. bytes_eq name (cap_name known)) all_caps

-- none is left out
abbrev pub EachCapIsKnown : Type 0
EachCapIsKnown = (cap : Cap) → cap_named (cap_name cap) ≡ Some cap

-- the place of a capability among all
abbrev pub place : Cap → ℕ
place cap = position_or_len (λ other. bytes_eq (cap_name cap) (cap_name other)) all_caps

abbrev pub none_on : Caps
none_on = record { on = replicate (length all_caps) false }

-- whether a capability is on
abbrev pub is_on : Caps → Cap → Bool
is_on caps cap = slice_index_or caps.on (place cap) false

-- one capability turned on or off
abbrev pub caps_with : Caps → Cap → Bool → Caps
caps_with caps cap on = record { on = slice_set caps.on (place cap) on }

-- the capabilities that are on, sorted by name
abbrev pub list_of : Caps → List Cap
list_of caps = filter (is_on caps) all_caps

-- what a word of a request means: 45 is `-`, after which a name is turned off
abbrev pub name_of_word : List ℕ → List ℕ
name_of_word [] = []
name_of_word (b ∷ bs) = cond (b == 45) bs (b ∷ bs)

abbrev pub turns_on : List ℕ → Bool
turns_on [] = true
turns_on (b ∷ bs) = cond (b == 45) false true

abbrev pub turned_as : Caps → Option Cap → Bool → Caps
turned_as caps None on = caps
turned_as caps (Some cap) on = caps_with caps cap on

-- the capabilities after a word
abbrev pub after_word : Caps → List ℕ → Caps
after_word caps word = turned_as caps (cap_named (name_of_word word)) (turns_on word)

abbrev pub is_known : List ℕ → Bool
is_known word = is_some (cap_named (name_of_word word))

-- the capabilities after a request: the words count one after the other, and one that is unknown refuses them all
unfoldable pub after_request : Caps → List (List ℕ) → Option Caps
after_request caps words = cond (list_all is_known words) (Some (fold after_word caps words)) None
