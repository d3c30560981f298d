-- Records and which histories are legal: this project's own journal. A history is a list of records, the newest first.
use Rattle.std.specs.Prelude.{◌≡◌, ℕ, ℤ, pos, ◌≤ℤ◌, ◌+◌, ◌<◌, ◌≤◌, Bool, true, false, ◌||◌, ◌&&◌, ◌==◌}
use Rattle.std.specs.Prelude.{cond, List, [], ◌∷◌, ◌++◌, length, codes, Option, Some, None}
use Rattle.std.specs.Str.{str_eq_ignore_ascii_case}
use Rattle.std.specs.List.{list_any}
use Rattle.line_grammar.specs.declared.message.Message.{Message}
use Rattle.line_grammar.specs.declared.splitter.Piece.{Piece}
use Rattle.line_grammar.specs.declared.splitter.Piece.TheVariants.{Line, TooLong}
use Rattle.line_grammar.specs.Reading.{reading}
use Rattle.chronicle.specs.declared.record.Kind.{Kind}
use Rattle.chronicle.specs.declared.record.Kind.TheVariants.{Opened, Said, Hung, Gone, Ticked}
use Rattle.chronicle.specs.declared.record.Record.{Record}

-- a record, as a history has it
pub record Rec : Type 0 where
  pub number : ℕ
  pub moment : ℤ
  pub kind : Kind
  pub missed : List ℕ

-- what a clause tells of a record of the program
abbrev pub rec_of : Record → Rec
rec_of r = record { number = r.number; moment = r.moment; kind = r.kind; missed = r.missed.items }

-- a moment that a record may have after one of the moment `last`: from 1970 to the end of the year 9998, and never
-- earlier
pub record IsMomentAfter (last moment : ℤ) : Type 0 where
  pub from_1970 : pos 0 ≤ℤ moment
  pub to_9998 : moment ≤ℤ pos 253370764799999
  pub not_earlier : last ≤ℤ moment

-- the moment of the newest record, 0 before the first
abbrev pub last_moment : List Rec → ℤ
last_moment [] = pos 0
last_moment (r ∷ h) = r.moment

-- the session that a record is about, 0 for a tick, which is about none: sessions are numbered from 1
abbrev pub actor : Kind → ℕ
actor (Opened s host) = s
actor (Said s i piece) = s
actor (Hung s why) = s
actor (Gone s) = s
actor Ticked = 0

-- how many sessions were opened
abbrev pub opened_by : Kind → ℕ
opened_by (Opened s host) = 1
opened_by (Said s i piece) = 0
opened_by (Hung s why) = 0
opened_by (Gone s) = 0
opened_by Ticked = 0

abbrev pub sessions : List Rec → ℕ
sessions [] = 0
sessions (r ∷ h) = opened_by r.kind + sessions h

-- the pieces that a record accepts of a session
abbrev pub said_by : Kind → ℕ → List Piece
said_by (Opened s host) t = []
said_by (Said s i piece) t = cond (s == t) (piece ∷ []) []
said_by (Hung s why) t = []
said_by (Gone s) t = []
said_by Ticked t = []

-- the accepted pieces of a session, in order
abbrev pub accepted : List Rec → ℕ → List Piece
accepted [] t = []
accepted (r ∷ h) t = accepted h t ++ said_by r.kind t

-- whether a record misses a session
abbrev pub misses : Rec → ℕ → Bool
misses r t = list_any (λ u. u == t) r.missed

-- a message that asks to quit: RFC 2812, section 3.1.7. Names of commands are taken in either case
abbrev pub asks_to_quit : Option Message → Bool
asks_to_quit None = false
asks_to_quit (Some m) = str_eq_ignore_ascii_case m.command (codes "QUIT")

-- a piece that asks to quit
unfoldable pub is_quit : Piece → Bool
is_quit TooLong = false
is_quit (Line line) = asks_to_quit (reading line)

-- whether a record ends a session by what it says
abbrev pub ends : Kind → ℕ → Bool
ends (Opened s host) t = false
ends (Said s i piece) t = s == t && is_quit piece
ends (Hung s why) t = s == t
ends (Gone s) t = false
ends Ticked t = false

-- whether a session is shut: by the first record that misses it, or ends it
abbrev pub shut : List Rec → ℕ → Bool
shut [] t = false
shut (r ∷ h) t = misses r t || ends r.kind t || shut h t

-- whether a record says that a session is gone
abbrev pub leaves : Kind → ℕ → Bool
leaves (Opened s host) t = false
leaves (Said s i piece) t = false
leaves (Hung s why) t = false
leaves (Gone s) t = s == t
leaves Ticked t = false

-- whether a session is gone
abbrev pub gone : List Rec → ℕ → Bool
gone [] t = false
gone (r ∷ h) t = leaves r.kind t || gone h t
