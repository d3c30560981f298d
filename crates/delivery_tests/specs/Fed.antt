-- A history of one session whose lines are all too long. RFC 1459 and RFC 2812 have no numeric for that; 417 is the
-- one in common use.
use Rattle.std.specs.Prelude.{◌≡◌, ℕ, pos, ◌+◌, false, List, [], ◌∷◌, ◌++◌, length, codes, drop, All}
use Rattle.chronicle.specs.declared.record.Kind.{Kind}
use Rattle.chronicle.specs.declared.record.Kind.TheVariants.{Opened, Said}
use Rattle.chronicle.specs.History.{Rec, sessions, shut}
use Rattle.chronicle.specs.Journal.{fresh_record}
use Rattle.line_grammar.specs.declared.splitter.Piece.TheVariants.{TooLong}
use Rattle.registration.specs.declared.settings.Settings.{Settings}
use Rattle.roster.specs.declared.deed.Deed.TheVariants as deed
use Rattle.deeds.specs.Deeds.{facts}
use Rattle.deliveries.specs.declared.item.Item.{Item}
use Rattle.deliveries.specs.Growth.{Grows}
use Rattle.deliveries.specs.Items.{deliveries, front}
use Rattle.deliveries.specs.Owed.{owed}

-- a session of no host, and its line that is too long
abbrev pub opens : Kind
opens = Opened 1 []

abbrev pub says : Kind
says = Said 1 0 TooLong

-- a history in which it is said once more
abbrev pub next : List Rec → List Rec
next h = fresh_record h (pos 0) says ∷ h

-- what it is told, on a server of this name
abbrev pub server_name : List ℕ
server_name = codes "irc.example"

abbrev pub line : List ℕ
line = codes ":irc.example 417 * :Input line was too long" ++ 13 ∷ 10 ∷ []

-- n deliveries were sent: by this history, all that it owes session 1
pub record IsFed (sent : List Item) (g : Settings) (h : List Rec) (n : ℕ) : Type 0 where
  pub server : g.server ≡ server_name
  pub facts : facts g h ≡ deed.Opened 1 [] ∷ []
  pub sessions : sessions h ≡ 1
  pub still_here : shut h 1 ≡ false
  pub number : length h ≡ n + 1
  pub owed : deliveries sent ≡ owed g h 1
  pub whose : All (λ (y : Item). y.session ≡ 1) sent
  pub settings : All (λ (y : Item). y.settings ≡ g) sent
  pub grows : All (λ (y : Item). Grows (front y) h) sent

-- n deliveries were sent by the history before its newest record, whose delivery comes next
pub record IsReady (sent : List Item) (g : Settings) (h : List Rec) (n : ℕ) : Type 0 where
  pub newest : h ≡ next (drop 1 h)
  pub fed : IsFed sent g (drop 1 h) n
