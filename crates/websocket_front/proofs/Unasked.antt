-- Why a request is refused.
use Rattle.std.proofs.Common.{ℕ, List, Result, Ok, Err, IfErr, take}
use Rattle.httparse.specs.declared.spans.HeaderSpan.{HeaderSpan}
use Rattle.httparse.specs.declared.spans.RequestSpans.{RequestSpans}
use Rattle.httparse.specs.Spans.{IsRequestOf, span_bytes}
use Rattle.websocket.specs.Headers.{fields_of}
use Rattle.websocket.specs.Handshake.{Answers, requested_key}
use Rattle.websocket.specs.declared.handshake.failure.HandshakeError.{HandshakeError}
use Rattle.websocket_front.specs.Asked.{AsksNone}

-- a head that the library refuses asks for no WebSocket
pub asks_none : (octets : List ℕ) (r : RequestSpans) (spans : List HeaderSpan) (a : Result (List ℕ) HandshakeError)
    → IsRequestOf octets spans r
    → Answers a (requested_key (span_bytes octets r.method) r.version (fields_of octets (take r.headers spans)))
    → IfErr a (AsksNone octets)
asks_none octets r spans (Ok key) parsed h = tt
asks_none octets r spans (Err e) parsed h = (r, spans, parsed, h)
