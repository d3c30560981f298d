-- What holds of facts and records, so that every line that is made of them is clean: none of NUL, CR and LF stands in
-- it, and in its source and its tags no space (RFC 2812, section 2.3.1).
use Rattle.std.specs.Prelude.{◌≡◌, ℕ, Bool, true, false, List, IfSome}
use Rattle.std.specs.List.{All, list_all}
use Rattle.line_grammar.specs.Spelling.{is_text_octet}
use Rattle.casemapping.specs.Names.{channel_shape, host_shape, nick_shape}
use Rattle.channel_state.specs.declared.change.Change.{Change}
use Rattle.channel_state.specs.declared.change.Change.TheVariants.{KeySet, TopicSet, BanSet, BanLifted}
use Rattle.chronicle.specs.declared.record.Kind.{Kind}
use Rattle.chronicle.specs.declared.record.Kind.TheVariants as kind
use Rattle.chronicle.specs.History.{Rec}
use Rattle.registration.specs.declared.settings.Settings.{Settings}
use Rattle.registration.specs.Settings.{IsWellSet}
pub use Rattle.registration.specs.Accounts.{AreNamed}
use Rattle.roster.specs.declared.deed.Deed.{Deed}
use Rattle.roster.specs.declared.deed.Deed.TheVariants as deed
use Rattle.transactions.specs.declared.effect.Effect.{Effect}
use Rattle.transactions.specs.declared.effect.Effect.TheVariants.{Establish, Answer, Show, Copy}
use Rattle.transactions.specs.Effects.{copies, due, reply}
use Rattle.answer_octets.specs.Clean.{IsClean, IsWordOf, is_one_line}

-- no NUL, CR or LF
abbrev pub IsText : List ℕ → Type 0
IsText text = list_all is_text_octet text ≡ true

abbrev pub IsNick : List ℕ → Type 0
IsNick name = nick_shape name ≡ true

abbrev pub IsChannel : List ℕ → Type 0
IsChannel name = channel_shape name ≡ true

-- keys, topics and masks are texts
abbrev pub IsCleanChange : Change → Type 0
IsCleanChange (KeySet key) = IfSome key IsText
IsCleanChange (TopicSet topic) = IfSome topic IsText
IsCleanChange (BanSet mask) = IsText mask
IsCleanChange (BanLifted mask) = IsText mask
IsCleanChange change = Unit {0}

-- names have their shapes, a user name is a word of at most 16 octets, and what else is shown is a text
abbrev pub IsCleanDeed : Deed → Type 0
IsCleanDeed (deed.Opened s host) = host_shape host ≡ true
IsCleanDeed (deed.NickSet s nick) = IsNick nick
IsCleanDeed (deed.UserSet s user real) = IsWordOf 16 user × IsText real
IsCleanDeed (deed.LoggedIn s account) = IsNick account
IsCleanDeed (deed.AwaySet s text) = IfSome text IsText
IsCleanDeed (deed.ChannelMade s channel) = IsChannel channel
IsCleanDeed (deed.Changed channel change) = IsChannel channel × IsCleanChange change
IsCleanDeed (deed.Ended s why text) = IsText text
IsCleanDeed d = Unit {0}

abbrev pub AreClean : List Deed → Type 0
AreClean fs = All IsCleanDeed fs

-- the line of an effect, or its fact
abbrev pub IsCleanEffect : Effect → Type 0
IsCleanEffect (Establish d) = IsCleanDeed d
IsCleanEffect (Answer line) = IsClean line
IsCleanEffect (Show hearers line) = IsClean line
IsCleanEffect (Copy line) = IsClean line

abbrev pub AreCleanEffects : List Effect → Type 0
AreCleanEffects es = All IsCleanEffect es

-- the lines of effects: the answer to whoever it is that asked, what it sent to itself, and what others are shown
pub record AreCleanLines (es : List Effect) : Type 0 where
  pub reply_is : (s : ℕ) → All IsClean (reply s es)
  pub copies_are : All IsClean (copies es)
  pub shown_are : (t : ℕ) → All IsClean (due es t)

-- what is known of a server's settings
pub record IsServing (g : Settings) : Type 0 where
  pub set : IsWellSet g
  pub accounts : AreNamed g.accounts

-- ---- records

-- hosts have their shape, and a piece is one line
abbrev pub IsCleanKind : Kind → Type 0
IsCleanKind (kind.Opened s host) = host_shape host ≡ true
IsCleanKind (kind.Said s i piece) = is_one_line piece ≡ true
IsCleanKind k = Unit {0}

abbrev pub IsCleanHistory : List Rec → Type 0
IsCleanHistory h = All (λ r. IsCleanKind r.kind) h

-- whether a record is the program's own, and no line of a client's
abbrev pub is_own : Kind → Bool
is_own (kind.Said s i piece) = false
is_own k = true
