-- What is read back from clean facts is clean.
use Rattle.std.proofs.Common.{◌≡◌, ℕ, ◌==◌, Bool, true, false, not, cond, List, [], ◌∷◌}
use Rattle.std.proofs.Common.{filter, unwrap_or, IfSome, Option, Some, None, refl, arith}
use Rattle.std.specs.List.{AllByRecursion, list_all}
use Rattle.std.proofs.lemmas.Bool.{and_from, cond_both}
use Rattle.casemapping.specs.Fold.{is_same}
use Rattle.channel_state.specs.declared.change.Change.{Change}
use Rattle.channel_state.specs.declared.change.Change.TheVariants.{Joined, Left, RankSet, FlagSet, KeySet, LimitSet}
use Rattle.channel_state.specs.declared.change.Change.TheVariants.{TopicSet, BanSet, BanLifted, Invited}
use Rattle.channel_state.specs.declared.change.Rank.TheVariants.{Operator, Voice}
use Rattle.channel_state.specs.declared.modes.Flag.TheVariants.{InviteOnly, Moderated, NoOutside, Secret, TopicLocked}
use Rattle.channel_state.specs.declared.modes.Flag.{Flag}
use Rattle.channel_state.specs.declared.modes.Modes.{Modes}
use Rattle.channel_state.specs.State.{State, with_change, after_gone, with_flag, is_some_one, or_nothing, made_by}
use Rattle.channel_state.specs.State.{nothing}
use Rattle.line_grammar.specs.Spelling.{is_text_octet}
use Rattle.roster.specs.declared.deed.Deed.{Deed}
use Rattle.roster.specs.declared.deed.Deed.TheVariants.{Opened, NickSet, UserSet}
use Rattle.roster.specs.declared.deed.Deed.TheVariants.{LoggedIn, AwaySet}
use Rattle.roster.specs.declared.deed.Deed.TheVariants.{ChannelMade, Changed, Ended, Gone}
use Rattle.roster.specs.LookBack.{account, away, has_member, host, name, name_of, newest, nick, parting_text, real}
use Rattle.roster.specs.LookBack.{state_after, state, tells_account, tells_away, tells_host, tells_name, tells_nick}
use Rattle.roster.specs.LookBack.{tells_parting, tells_real, tells_user, user}
use Rattle.transactions.specs.Lines.{prefix, title}
use Rattle.transactions.specs.Seen.{Seen, seen}
use Rattle.answer_octets.specs.Clean.{IsWordOf}
use Rattle.answer_octets.proofs.Kept.{filter-all}
use Rattle.answer_octets.proofs.Names.{hosts-words, nicks-words, prefix-word}
use Rattle.clean_records.specs.Clean.{IsChannel, IsCleanChange, IsCleanDeed, IsNick, IsText}
use Rattle.clean_records.proofs.Shapes.{same-shape}
use Rattle.clean_records.proofs.Texts.{AreTexts, texts-both, word-is_text}

pub record Facts (fs : List Deed) : Type 0 where
  pub all : AllByRecursion IsCleanDeed fs

pub with-fact : (d : Deed) (fs : List Deed) → IsCleanDeed d → Facts fs → Facts (d ∷ fs)
with-fact d fs is facts = record { all = (is, facts.all) }

-- ---- what the newest fact tells

or-newest : {A : Type 0} (P : A → Type 0) (o : Option A) (other : A) → IfSome o P → P other → P (unwrap_or o other)
or-newest P None other some none = none
or-newest P (Some x) other some none = some

newest-is : {A : Type 0} (P : A → Type 0) (tells : Deed → Option A) (none : A) → P none
    → ((d : Deed) → IsCleanDeed d → IfSome (tells d) P) → (fs : List Deed) → AllByRecursion IsCleanDeed fs
    → P (newest tells none fs)
newest-is P tells none base step [] facts = base
newest-is P tells none base step (d ∷ fs) facts =
    or-newest P (tells d) (newest tells none fs) (step d facts.0) (newest-is P tells none base step fs facts.1)

when : {A : Type 0} (P : A → Type 0) (b : Bool) (x : A) → P x → IfSome (cond b (Some x) None) P
when P true x is = is
when P false x is = tt

-- ---- a session

abbrev IfNick : Option (List ℕ) → Type 0
IfNick o = IfSome o IsNick

abbrev pub IfText : Option (List ℕ) → Type 0
IfText o = IfSome o IsText

abbrev IfUser : Option (List ℕ) → Type 0
IfUser o = IfSome o (IsWordOf 16)

nick-told : (s : ℕ) (d : Deed) → IsCleanDeed d → IfSome (tells_nick s d) IfNick
nick-told s (Opened t h) is = when IfNick (t == s) None tt
nick-told s (NickSet t n) is = when IfNick (t == s) (Some n) is
nick-told s (Gone t) is = when IfNick (t == s) None tt
nick-told s d is = tt

pub nick-is : (fs : List Deed) (s : ℕ) → Facts fs → IfSome (nick fs s) IsNick
nick-is fs s facts = newest-is IfNick (tells_nick s) None tt (nick-told s) fs facts.all

user-told : (s : ℕ) (d : Deed) → IsCleanDeed d → IfSome (tells_user s d) IfUser
user-told s (Opened t h) is = when IfUser (t == s) None tt
user-told s (UserSet t u r) is = when IfUser (t == s) (Some u) is.0
user-told s (Gone t) is = when IfUser (t == s) None tt
user-told s d is = tt

user-is : (fs : List Deed) (s : ℕ) → Facts fs → IfSome (user fs s) (IsWordOf 16)
user-is fs s facts = newest-is IfUser (tells_user s) None tt (user-told s) fs facts.all

real-told : (s : ℕ) (d : Deed) → IsCleanDeed d → IfSome (tells_real s d) IfText
real-told s (Opened t h) is = when IfText (t == s) None tt
real-told s (UserSet t u r) is = when IfText (t == s) (Some r) is.1
real-told s (Gone t) is = when IfText (t == s) None tt
real-told s d is = tt

pub real-is : (fs : List Deed) (s : ℕ) → Facts fs → IfSome (real fs s) IsText
real-is fs s facts = newest-is IfText (tells_real s) None tt (real-told s) fs facts.all

account-told : (s : ℕ) (d : Deed) → IsCleanDeed d → IfSome (tells_account s d) IfNick
account-told s (Opened t h) is = when IfNick (t == s) None tt
account-told s (LoggedIn t a) is = when IfNick (t == s) (Some a) is
account-told s (Gone t) is = when IfNick (t == s) None tt
account-told s d is = tt

pub account-is : (fs : List Deed) (s : ℕ) → Facts fs → IfSome (account fs s) IsNick
account-is fs s facts = newest-is IfNick (tells_account s) None tt (account-told s) fs facts.all

away-told : (s : ℕ) (d : Deed) → IsCleanDeed d → IfSome (tells_away s d) IfText
away-told s (Opened t h) is = when IfText (t == s) None tt
away-told s (AwaySet t x) is = when IfText (t == s) x is
away-told s (Gone t) is = when IfText (t == s) None tt
away-told s d is = tt

pub away-is : (fs : List Deed) (s : ℕ) → Facts fs → IfSome (away fs s) IsText
away-is fs s facts = newest-is IfText (tells_away s) None tt (away-told s) fs facts.all

parting-told : (s : ℕ) (d : Deed) → IsCleanDeed d → IfSome (tells_parting s d) IsText
parting-told s (Opened t h) is = when IsText (t == s) [] refl
parting-told s (Ended t w x) is = when IsText (t == s) x is
parting-told s (Gone t) is = when IsText (t == s) [] refl
parting-told s d is = tt

pub parting-is : (fs : List Deed) (s : ℕ) → Facts fs → IsText (parting_text fs s)
parting-is fs s facts = newest-is IsText (tells_parting s) [] refl (parting-told s) fs facts.all

no-word : (n : ℕ) → IsWordOf n []
no-word n = record { word = refl; short = omega arith }

host-told : (s : ℕ) (d : Deed) → IsCleanDeed d → IfSome (tells_host s d) (IsWordOf 63)
host-told s (Opened t h) is = when (IsWordOf 63) (t == s) h (hosts-words h is)
host-told s (Gone t) is = when (IsWordOf 63) (t == s) [] (no-word 63)
host-told s d is = tt

pub host-is : (fs : List Deed) (s : ℕ) → Facts fs → IsWordOf 63 (host fs s)
host-is fs s facts = newest-is (IsWordOf 63) (tells_host s) [] (no-word 63) (host-told s) fs facts.all

-- ---- whom lines name, and whom they come from

nick-title : (o : Option (List ℕ)) → IfSome o IsNick → IsWordOf 30 (title o)
nick-title None is = record { word = refl; short = omega arith }
nick-title (Some n) is = nicks-words n is

pub nick-word : (fs : List Deed) (s : ℕ) → Facts fs → IsWordOf 30 (title (nick fs s))
nick-word fs s facts = nick-title (nick fs s) (nick-is fs s facts)

pub nick-shown : (fs : List Deed) (s : ℕ) → Facts fs → IsText (title (nick fs s))
nick-shown fs s facts = word-is_text 30 (title (nick fs s)) (nick-word fs s facts)

user-title : (o : Option (List ℕ)) → IfSome o (IsWordOf 16) → IsWordOf 16 (title o)
user-title None is = record { word = refl; short = omega arith }
user-title (Some u) is = is

pub user-word : (fs : List Deed) (s : ℕ) → Facts fs → IsWordOf 16 (title (user fs s))
user-word fs s facts = user-title (user fs s) (user-is fs s facts)

pub user-shown : (fs : List Deed) (s : ℕ) → Facts fs → IsText (title (user fs s))
user-shown fs s facts = word-is_text 16 (title (user fs s)) (user-word fs s facts)

pub host-shown : (fs : List Deed) (s : ℕ) → Facts fs → IsText (host fs s)
host-shown fs s facts = word-is_text 63 (host fs s) (host-is fs s facts)

account-title : (o : Option (List ℕ)) → IfSome o IsNick → IsText (title o)
account-title o is = word-is_text 30 (title o) (nick-title o is)

pub account-shown : (fs : List Deed) (s : ℕ) → Facts fs → IsText (title (account fs s))
account-shown fs s facts = account-title (account fs s) (account-is fs s facts)

pub real-shown : (fs : List Deed) (s : ℕ) → Facts fs → IsText (unwrap_or (real fs s) [])
real-shown fs s facts = or-newest IsText (real fs s) [] (real-is fs s facts) refl

pub prefix-is : (fs : List Deed) (s : ℕ) → Facts fs → IsWordOf 111 (prefix fs s)
unfolding prefix
prefix-is fs s facts =
    prefix-word (title (nick fs s)) (title (user fs s)) (host fs s) (nick-word fs s facts) (user-word fs s facts)
    (host-is fs s facts)

pub prefix-shown : (fs : List Deed) (s : ℕ) → Facts fs → IsText (prefix fs s)
prefix-shown fs s facts = word-is_text 111 (prefix fs s) (prefix-is fs s facts)

-- ---- a channel

pub record IsCleanState (k : State) : Type 0 where
  pub key : IfSome k.modes.key IsText
  pub topic : IfSome k.topic IsText
  pub bans : AreTexts k.bans

none-clean : IsCleanState nothing
none-clean = record { key = tt; topic = tt; bans = refl }

pub made-clean : (t : ℕ) → IsCleanState (made_by t)
made-clean t = record { key = tt; topic = tt; bans = refl }

flagged-key : (f : Flag) (on : Bool) (m : Modes) → IfSome m.key IsText → IfSome (with_flag f on m).key IsText
flagged-key InviteOnly on m is = is
flagged-key Moderated on m is = is
flagged-key NoOutside on m is = is
flagged-key Secret on m is = is
flagged-key TopicLocked on m is = is

pub changed-clean : (x : Change) (k : State) → IsCleanChange x → IsCleanState k → IsCleanState (with_change x k)
changed-clean (Joined t) k is old = record { key = old.key; topic = old.topic; bans = old.bans }
changed-clean (Left t) k is old = record { key = old.key; topic = old.topic; bans = old.bans }
changed-clean (RankSet t Operator on) k is old = record { key = old.key; topic = old.topic; bans = old.bans }
changed-clean (RankSet t Voice on) k is old = record { key = old.key; topic = old.topic; bans = old.bans }
changed-clean (FlagSet f on) k is old = record {
  key = flagged-key f on k.modes old.key;
  topic = old.topic;
  bans = old.bans;
}
changed-clean (KeySet key) k is old = record { key = is; topic = old.topic; bans = old.bans }
changed-clean (LimitSet limit) k is old = record { key = old.key; topic = old.topic; bans = old.bans }
changed-clean (TopicSet topic) k is old = record { key = old.key; topic = is; bans = old.bans }
changed-clean (BanSet mask) k is old = record {
  key = old.key;
  topic = old.topic;
  bans = texts-both k.bans (mask ∷ []) old.bans (and_from _ _ is refl);
}
changed-clean (BanLifted mask) k is old = record {
  key = old.key;
  topic = old.topic;
  bans = filter-all (list_all is_text_octet) (λ m. not (is_same m mask)) k.bans old.bans;
}
changed-clean (Invited t by_operator) k is old = record { key = old.key; topic = old.topic; bans = old.bans }

lasting-clean : (k : State) → IsCleanState k → IsCleanState (or_nothing k)
lasting-clean k is = cond_both (is_some_one k.members) k nothing IsCleanState (λ _. is) (λ _. none-clean)

departed-clean : (t : ℕ) (k : State) → IsCleanState k → IsCleanState (after_gone t k)
departed-clean t k old = record { key = old.key; topic = old.topic; bans = old.bans }

reshaped-clean : (d : Deed) (c : List ℕ) (k : State) → IsCleanDeed d → IsCleanState k
    → IsCleanState (state_after d c k)
reshaped-clean (ChannelMade t n) c k is old =
    cond_both (is_same n c) (made_by t) k IsCleanState (λ _. made-clean t) (λ _. old)
reshaped-clean (Changed n x) c k is old =
    cond_both (is_same n c) (or_nothing (with_change x k)) k IsCleanState
    (λ _. lasting-clean (with_change x k) (changed-clean x k is.1 old)) (λ _. old)
reshaped-clean (Gone t) c k is old = lasting-clean (after_gone t k) (departed-clean t k old)
reshaped-clean d c k is old = old

state-all : (fs : List Deed) (c : List ℕ) → AllByRecursion IsCleanDeed fs → IsCleanState (state fs c)
state-all [] c facts = none-clean
state-all (d ∷ fs) c facts = reshaped-clean d c (state fs c) facts.0 (state-all fs c facts.1)

pub state-is : (fs : List Deed) (c : List ℕ) → Facts fs → IsCleanState (state fs c)
state-is fs c facts = state-all fs c facts.all

-- ---- what has a member is named as a channel

abbrev HasShape : List ℕ → State → Type 0
HasShape c k = is_some_one k.members ≡ true → IsChannel c

some-kept : (p : ℕ → Bool) (ts : List ℕ) → is_some_one (filter p ts) ≡ true → is_some_one ts ≡ true
some-kept p [] is = is
some-kept p (t ∷ ts) is = refl

lasting-some : (k : State) → is_some_one (or_nothing k).members ≡ true → is_some_one k.members ≡ true
lasting-some k is = cond_both (is_some_one k.members) k nothing
    (λ l. is_some_one l.members ≡ true → is_some_one k.members ≡ true) (λ some. λ _. some)
    (λ _. λ no. absurd (let e : false ≡ true = no in cc)) is

shape-kept : (d : Deed) (c : List ℕ) (k : State) → IsCleanDeed d → HasShape c k → HasShape c (state_after d c k)
shape-kept (ChannelMade t n) c k is old =
    cond_both (is_same n c) (made_by t) k (HasShape c) (λ same. λ _. same-shape n c same is) (λ _. old)
shape-kept (Changed n x) c k is old =
    cond_both (is_same n c) (or_nothing (with_change x k)) k (HasShape c) (λ same. λ _. same-shape n c same is.0)
    (λ _. old)
shape-kept (Gone t) c k is old = λ some. old (some-kept (λ u. not (u == t)) k.members
    (lasting-some (after_gone t k) some))
shape-kept d c k is old = old

there-all : (fs : List Deed) (c : List ℕ) → AllByRecursion IsCleanDeed fs → HasShape c (state fs c)
there-all [] c facts = λ some. absurd (let e : false ≡ true = some in cc)
there-all (d ∷ fs) c facts = shape-kept d c (state fs c) facts.0 (there-all fs c facts.1)

name-told : (c : List ℕ) (d : Deed) → IsCleanDeed d → IfSome (tells_name c d) IsChannel
name-told c (ChannelMade t k) is = when IsChannel (is_same k c) k is
name-told c d is = tt

pub name-is : (fs : List Deed) (c : List ℕ) → Facts fs → has_member fs c ≡ true → IsChannel (name fs c)
name-is fs c facts there =
    newest-is IsChannel (tells_name c) c (there-all fs c facts.all there) (name-told c) fs facts.all

pub record IsCleanSeen (k : Seen) : Type 0 where
  pub name : IsChannel k.name
  pub state : IsCleanState k.state

abbrev pub IfSeen : Option Seen → Type 0
IfSeen o = IfSome o IsCleanSeen

pub seen-is : (fs : List Deed) (c : List ℕ) → Facts fs → IfSeen (seen fs c)
seen-is fs c facts =
    cond_both (has_member fs c) (Some (record { name = name fs c; state = state fs c })) None IfSeen
    (λ there. record { name = name-is fs c facts there; state = state-is fs c facts }) (λ _. tt)

pub name_of-is : (fs : List Deed) (c : List ℕ) → Facts fs → IfSome (name_of fs c) IsChannel
name_of-is fs c facts =
    cond_both (has_member fs c) (Some (name fs c)) None (λ o. IfSome o IsChannel) (λ there. name-is fs c facts there)
    (λ _. tt)
