-- What a delivery's octets are, and how much of a text went out. ERROR tells a session's end (RFC 2812, section
-- 3.7.4), in words of this project's own.
use Rattle.std.specs.Prelude.{◌≡◌, ◌≤◌, ◌↔◌, ℕ, List, [], ◌∷◌, ◌++◌, codes, length, take, Option, Result, IsOk}
use Rattle.std.specs.Io.KnownBytes.{Appends}
use Rattle.chronicle.specs.declared.why.Why.{Why}
use Rattle.chronicle.specs.Reasons.{text}
use Rattle.deliveries.specs.declared.delivery.Delivery.{Delivery}
use Rattle.deliveries.specs.declared.delivery.Delivery.TheVariants.{Lines, Last}

-- ERROR says which host's link closes and why, and ends with CR LF
unfoldable pub error_line : List ℕ → Why → List ℕ
error_line host why = codes "ERROR :Closing Link: " ++ host ++ codes " (" ++ text why ++ codes ")" ++ 13 ∷ 10 ∷ []

-- what a delivery is on the wire, where this is the session's host
abbrev pub delivery_text : Delivery → List ℕ → List ℕ
delivery_text (Lines number lines) host = lines
delivery_text (Last number why) host = error_line host why

-- the octets that were counted are the front of a text and came after what a writer held, where that is known; `Ok`
-- says that they are the whole
pub record WritesFront {A E : Type 0} (old new : Option (List ℕ)) (text : List ℕ)
    (written : ℕ × Result A E) : Type 0 where
  pub within : written.0 ≤ length text
  pub appended : Appends old new (take written.0 text)
  pub whole : IsOk written.1 ↔ (written.0 ≡ length text)
