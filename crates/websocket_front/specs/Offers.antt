-- The subprotocol that a request's header chooses (RFC 6455, sections 4.2.2 and 11.3.4, and the IRCv3 WebSocket
-- specification).
use Rattle.std.specs.Prelude.{ℕ, Bool, cond, ◌||◌, ◌==◌, List, [], ◌∷◌, ◌++◌, codes, bytes_eq, Option, None, Some}
use Rattle.websocket_front.specs.declared.subprotocol.Subprotocol.{Subprotocol}
use Rattle.websocket_front.specs.declared.subprotocol.Subprotocol.TheVariants.{Text, Binary}

abbrev pub name_of : Subprotocol → List ℕ
name_of Text = codes "text.ircv3.net"
name_of Binary = codes "binary.ircv3.net"

-- the first of two values that is there
abbrev pub first_some : {A : Type 0} → Option A → Option A → Option A
first_some None next = next
first_some (Some x) next = Some x

-- the subprotocol of this name
abbrev pub protocol_of : List ℕ → Option Subprotocol
protocol_of name =
    cond (bytes_eq name (name_of Text)) (Some Text) (cond (bytes_eq name (name_of Binary)) (Some Binary) None)

-- comma, space and tab part the values of a list
abbrev pub is_separator : ℕ → Bool
is_separator b = b == 44 || b == 32 || b == 9

-- the first value of a list that names one, where the first value began with `piece`
abbrev pub named_from : List ℕ → List ℕ → Option Subprotocol
named_from piece [] = protocol_of piece
named_from piece (b ∷ bs) =
    cond (is_separator b) (first_some (protocol_of piece) (named_from [] bs)) (named_from (piece ++ b ∷ []) bs)

-- the first that a header's value names
unfoldable pub first_named : List ℕ → Option Subprotocol
first_named value = named_from [] value

-- the first that a header's values offer, in their order: a list may be parted among several (section 11.3.4)
abbrev pub offer_chosen : List (List ℕ) → Option Subprotocol
offer_chosen [] = None
offer_chosen (value ∷ values) = first_some (first_named value) (offer_chosen values)
