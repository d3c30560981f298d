-- What a client asks for by the head of its request (RFC 6455, sections 4.1 and 4.2.1).
use Rattle.std.specs.Prelude.{◌≡◌, ◌<◌, ◌⊎◌, ℕ, cond, List, [], ◌∷◌, codes, length, take, Option, None, Some, Err}
use Rattle.httparse.specs.declared.spans.HeaderSpan.{HeaderSpan}
use Rattle.httparse.specs.declared.spans.RequestSpans.{RequestSpans}
use Rattle.httparse.specs.Grammar.{RequestHead, ReadsRequest}
use Rattle.httparse.specs.Spans.{IsRequestWithin, IsRequestOf, span_bytes}
use Rattle.websocket.specs.Headers.{Fields, fields_of, eq_ignore_case}
use Rattle.websocket.specs.Handshake.{Answers, requested_key}
use Rattle.websocket.specs.declared.handshake.failure.HandshakeError.{HandshakeError}
use Rattle.websocket.specs.declared.handshake.failure.HandshakeError.TheVariants.{InvalidHeader}
use Rattle.tungstenite.specs.Heads.{IsAccepted}
use Rattle.websocket_front.specs.declared.subprotocol.Subprotocol.{Subprotocol}
use Rattle.websocket_front.specs.declared.subprotocol.Subprotocol.TheVariants.{Text}
use Rattle.websocket_front.specs.Offers.{offer_chosen}

-- the values of the headers that offer subprotocols, in their order
abbrev pub offers : Fields → List (List ℕ)
offers [] = []
offers (h ∷ hs) = cond (eq_ignore_case h.0 (codes "sec-websocket-protocol")) (h.1 ∷ offers hs) (offers hs)

-- what is served: the first offer that can be, or else text
abbrev pub or_text : Option Subprotocol → Subprotocol
or_text None = Text
or_text (Some p) = p

-- these octets are the head of a request for a WebSocket, by whose headers this subprotocol is served
pub record Asks (head : List ℕ) (p : Subprotocol) : Type 0 where
  pub accepted : IsAccepted head
  pub request : RequestSpans
  pub spans : List HeaderSpan
  pub within : IsRequestWithin head spans request
  pub parsed : IsRequestOf head spans request
  pub serves : p ≡ or_text (offer_chosen (offers (fields_of head (take request.headers spans))))

-- no head of a request that has at most 124 headers stands at the front of these octets
abbrev pub HasNoHead : List ℕ → Type 0
HasNoHead octets = (h : RequestHead) (rest : List ℕ) → ReadsRequest octets h rest → 124 < length h.fields

-- the head of a request stands there, and it asks for no WebSocket, for this reason
abbrev pub AsksNone : List ℕ → HandshakeError → Type 0
AsksNone octets e =
    (r : RequestSpans) × (spans : List HeaderSpan) × IsRequestOf octets spans r
    × Answers (Err e) (requested_key (span_bytes octets r.method) r.version (fields_of octets (take r.headers spans)))

-- why a request is refused: its octets have no such head, or the head asks for none
abbrev pub IsUnasked : List ℕ → HandshakeError → Type 0
IsUnasked octets e = ((e ≡ InvalidHeader) × HasNoHead octets) ⊎ AsksNone octets e
