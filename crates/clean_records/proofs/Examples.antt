-- The definitions at work, computed.
use Rattle.std.proofs.Common.{◌≡◌, ℕ, pos, true, false, List, [], ◌∷◌, ◌++◌, codes, Some, None, refl, arith}
use Rattle.std.specs.List.{list_all}
use Rattle.std.proofs.lemmas.Bool.{and_parts}
use Rattle.std.proofs.lemmas.Int.{ints}
use Rattle.std.proofs.lemmas.List.Elements.{All-cons, All-nil}
use Rattle.casemapping.specs.Names.{channel_shape, host_shape, nick_shape}
use Rattle.channel_state.specs.declared.change.Change.TheVariants.{KeySet, TopicSet}
use Rattle.chronicle.specs.declared.record.Kind.TheVariants as kind
use Rattle.chronicle.specs.declared.why.Why.TheVariants.{Quit}
use Rattle.chronicle.specs.History.{Rec}
use Rattle.line_grammar.specs.declared.splitter.Piece.TheVariants.{Line, TooLong}
use Rattle.registration.specs.declared.accounts.Account.{Account}
use Rattle.registration.specs.declared.settings.Settings.{Settings}
use Rattle.roster.specs.declared.deed.Deed.TheVariants as deed
use Rattle.transactions.specs.declared.effect.Effect.TheVariants.{Answer, Establish}
use Rattle.transactions.specs.Lines.{go_on_line, pong_line}
use Rattle.line_grammar.specs.Spelling.{is_text_octet}
use Rattle.line_grammar.specs.Reading.{parameters, reading, with_command}
use Rattle.commands.specs.Asked.{asked_of}
use Rattle.command_params.specs.Names.{known_name}
use Rattle.commands.specs.Commands.{command_by, command_of}
use Rattle.deeds.specs.Deeds.{effects}
use Rattle.clean_records.specs.Clean.{AreCleanEffects, IsCleanDeed, IsCleanEffect, IsCleanHistory, IsCleanKind}
use Rattle.clean_records.specs.Clean.{IsServing, IsText, is_own}

no : {X : Type 0} → false ≡ true → X
no e = absurd (cc)

-- a text that ends a line
abbrev broken : List ℕ
broken = codes "bye" ++ 13 ∷ 10 ∷ codes "QUIT"

-- ---- facts

-- a space may stand in a text, and a CR LF, a lone LF or a NUL may not
texts :
    IsText (codes "a b: c")
    × (IsText broken → ⊥)
    × (IsText (codes "a" ++ 10 ∷ []) → ⊥)
    × (IsText (0 ∷ []) → ⊥)
texts = (refl, (λ e. no e), (λ e. no e), (λ e. no e))

-- names have their shapes
names :
    IsCleanDeed (deed.NickSet 1 (codes "al"))
    × (IsCleanDeed (deed.NickSet 1 (codes "a l")) → ⊥)
    × IsCleanDeed (deed.ChannelMade 1 (codes "#a"))
    × (IsCleanDeed (deed.ChannelMade 1 (codes "a")) → ⊥)
    × IsCleanDeed (deed.Opened 1 (codes "h1"))
    × (IsCleanDeed (deed.Opened 1 (codes "h 1")) → ⊥)
    × (IsCleanDeed (deed.LoggedIn 1 broken) → ⊥)
unfolding nick_shape channel_shape host_shape
names = (refl, (λ e. no e), refl, (λ e. no e), refl, (λ e. no e), (λ e. no e))

-- a user name is a word, and a real name any text
users :
    IsCleanDeed (deed.UserSet 1 (codes "al") (codes "Al Ba"))
    × (IsCleanDeed (deed.UserSet 1 (codes "a l") (codes "Al Ba")) → ⊥)
    × (IsCleanDeed (deed.UserSet 1 (codes "al") broken) → ⊥)
users = ((record { word = refl; short = omega arith }, refl), (λ e. no e.0.word), (λ e. no e.1))

-- what is said of a session and of a channel is a text
said :
    IsCleanDeed (deed.AwaySet 1 (Some (codes "at lunch")))
    × IsCleanDeed (deed.AwaySet 1 None)
    × (IsCleanDeed (deed.AwaySet 1 (Some broken)) → ⊥)
    × (IsCleanDeed (deed.Ended 1 Quit broken) → ⊥)
    × IsCleanDeed (deed.Changed (codes "#a") (TopicSet (Some (codes "a topic"))))
    × (IsCleanDeed (deed.Changed (codes "#a") (TopicSet (Some broken))) → ⊥)
    × (IsCleanDeed (deed.Changed (codes "#a") (KeySet (Some broken))) → ⊥)
unfolding channel_shape
said = (refl, tt, (λ e. no e), (λ e. no e), (refl, refl), (λ e. no e.1), (λ e. no e.1))

-- what isn't shown may be anything
unseen : IsCleanDeed (deed.ExchangeSet 1 (Some broken))
unseen = tt

-- ---- effects

-- a line is clean by its parts, and a fact by itself
lines :
    IsCleanEffect (Answer go_on_line)
    × (IsCleanEffect (Answer (pong_line (codes "irc.example") broken)) → ⊥)
    × (IsCleanEffect (Establish (deed.Ended 1 Quit broken)) → ⊥)
lines = (
  record { source = tt; command = refl; params = refl; tags = refl; clients = refl; fits = omega arith },
  (λ e. no e.params),
  (λ e. no e),
)

-- ---- records

kinds :
    IsCleanKind (kind.Said 1 1 (Line (codes "NICK al")))
    × (IsCleanKind (kind.Said 1 1 (Line broken)) → ⊥)
    × IsCleanKind (kind.Said 1 1 TooLong)
    × (is_own (kind.Said 1 1 TooLong) ≡ false)
    × (is_own (kind.Gone 1) ≡ true)
kinds = (refl, (λ e. no e), refl, refl, refl)

-- ---- what the laws take is there

abbrev al : Account
al = record { name = codes "al"; salt = codes "x"; digest = [] }

abbrev server : Settings
server = record {
  server = codes "irc.example";
  info = codes "a server";
  version = codes "halld-1";
  created = pos 0;
  motd = Some (codes "hello there" ∷ []);
  accounts = al ∷ [];
  sessions = 1024;
}

serving : IsServing server
unfolding nick_shape host_shape
serving = record {
  set = record {
    some_sessions = omega arith;
    few_sessions = omega arith;
    server = refl;
    from_1970 = grind (arith, ints);
    to_9998 = grind (arith, ints);
    version = refl;
    info = refl;
    motd = refl;
  };
  accounts = All-cons (λ account. nick_shape account.name ≡ true) al [] refl
      (All-nil (λ account. nick_shape account.name ≡ true));
}

abbrev first : Rec
first = record { number = 1; moment = pos 0; kind = kind.Opened 1 (codes "h1"); missed = [] }

abbrev second : Rec
second = record { number = 2; moment = pos 0; kind = kind.Said 1 1 (Line (codes "NICK al")); missed = [] }

abbrev IsCleanRec : Rec → Type 0
IsCleanRec r = IsCleanKind r.kind

history : IsCleanHistory (second ∷ first ∷ [])
unfolding host_shape
history = All-cons IsCleanRec second (first ∷ []) refl (All-cons IsCleanRec first [] refl (All-nil IsCleanRec))

-- ---- and it is needed: a fact that isn't clean, or a piece of two lines, makes a line that isn't

abbrev piece_of_two : List ℕ
piece_of_two = codes "PING a" ++ 10 ∷ codes "b"

parted : (g : Settings) → AreCleanEffects (effects g (deed.Ended 1 Quit broken ∷ []) (kind.Gone 1)) → ⊥
parted g are = no (are 0 (Answer go_on_line) (omega arith)).params

ponged : (g : Settings) → AreCleanEffects (effects g [] (kind.Said 1 1 (Line piece_of_two))) → ⊥
unfolding asked_of reading parameters with_command command_of command_by known_name
ponged g are =
    no (and_parts (list_all is_text_octet g.server) false (are 0 (Answer go_on_line) (omega arith)).params).1
