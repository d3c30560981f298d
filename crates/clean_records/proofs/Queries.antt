-- What NAMES, LIST, WHO, WHOIS and MOTD are told.
use Rattle.std.proofs.Common.{ℕ, Bool, true, false, List, [], ◌∷◌, ◌++◌, codes, decimal, map}
use Rattle.std.proofs.Common.{length, flat_map, is_some, IfSome, Option, Some, None, Err, refl}
use Rattle.std.specs.List.{AllByRecursion}
use Rattle.std.proofs.lemmas.Bool.{and_from, and_parts, cond_both}
use Rattle.line_grammar.specs.Parts.{is_empty}
use Rattle.casemapping.specs.Fold.{is_same}
use Rattle.channel_state.specs.State.{State}
use Rattle.numerics.specs.declared.numeric.Numeric.{Numeric}
use Rattle.numerics.specs.declared.numeric.Numeric.TheVariants as numeric
use Rattle.numerics.specs.declared.prefix.Prefix.{Prefix}
use Rattle.numerics.specs.declared.prefix.Prefix.TheVariants.{Operator, Voice}
use Rattle.numerics.specs.Cut.{cut_lines}
use Rattle.numerics.specs.Numerics.{flags, marks, sign}
use Rattle.registration.specs.declared.settings.Settings.{Settings}
use Rattle.roster.specs.declared.deed.Deed.{Deed}
use Rattle.roster.specs.LookBack.{away, channels_on, user_named, nick}
use Rattle.transactions.specs.Lines.{title}
use Rattle.transactions.specs.Seen.{Seen, seen}
use Rattle.command_params.specs.declared.fault.ReadFault.TheVariants.{NoNicknameGiven}
use Rattle.command_params.specs.Lists.{list_given}
use Rattle.query_commands.specs.declared.query.Query.{Query}
use Rattle.query_commands.specs.declared.query.Query.TheVariants as query
use Rattle.query_commands.specs.Listing.{channels_asked, list_told, listed_seen, lists_told}
use Rattle.query_commands.specs.Motd.{motd_asked}
use Rattle.query_commands.specs.Names.{member_name, member_names, name_lines, names_asked, names_of, names_room}
use Rattle.query_commands.specs.Names.{names_seen, names_told, rank_of}
use Rattle.query_commands.specs.Query.{queries, told}
use Rattle.query_commands.specs.Visible.{channel_for, members_for, seen_by, sees}
use Rattle.query_commands.specs.Who.{who_asked, who_of, who_seen}
use Rattle.query_commands.specs.Whois.{away_told, channel_titles, channels_room, channels_told, nick_asked}
use Rattle.query_commands.specs.Whois.{title_seen, user_told, whois_found, whois_query}
use Rattle.answer_octets.proofs.Blocks.{word-text}
use Rattle.answer_octets.proofs.Kept.{spaced-kept}
use Rattle.answer_octets.proofs.Names.{settings-server}
use Rattle.clean_records.specs.Clean.{IsServing, IsText}
use Rattle.clean_records.proofs.Asking.{IsCleanRead, first-text, names-texts}
use Rattle.clean_records.proofs.Effects.{Clean, IsTextNumeric, told_all}
use Rattle.clean_records.proofs.Lists.{all-both, all-flat, each-flat, each-map, texts-all, cut-texts}
use Rattle.clean_records.proofs.Lookups.{Facts, IfSeen, IsCleanSeen, away-is, host-shown, nick-shown}
use Rattle.clean_records.proofs.Lookups.{real-shown, seen-is, user-shown}
use Rattle.clean_records.proofs.Sessions.{motd-clean}
use Rattle.clean_records.proofs.Texts.{AreTexts, both, channel-text, decimal-text, one, or-text, texts-map, two}

abbrev AllTold : Settings → List Numeric → Type 0
AllTold g ns = AllByRecursion (IsTextNumeric g) ns

-- a numeric of one name and a fixed text ends what is told
last : (g : Settings) (n : Numeric) → IsTextNumeric g n → AllTold g (n ∷ [])
last g n is = (is, tt)

-- ---- what is seen

for-seen : (s : ℕ) (o : Option Seen) → IfSeen o → IfSeen (seen_by s o)
for-seen s None is = tt
for-seen s (Some k) is = cond_both (sees s k.state) (Some k) None IfSeen (λ _. is) (λ _. tt)

for-is : (fs : List Deed) (s : ℕ) (c : List ℕ) → Facts fs → IfSeen (channel_for fs s c)
unfolding channel_for
for-is fs s c facts = for-seen s (seen fs c) (seen-is fs c facts)

marks-text : (o : Option Prefix) → IsText (marks o)
marks-text None = refl
marks-text (Some Operator) = refl
marks-text (Some Voice) = refl

-- ---- NAMES

member-text : (fs : List Deed) (k : State) → Facts fs → (t : ℕ) → IsText (member_name fs k t)
unfolding member_name
member-text fs k facts t = both (marks (rank_of k t)) (title (nick fs t)) (marks-text (rank_of k t))
    (nick-shown fs t facts)

sign-text : (b : Bool) → IsText (sign b)
sign-text true = refl
sign-text false = refl

name-lines : (g : Settings) (secret : Bool) (c : List ℕ) (ls : List (List (List ℕ))) → IsText c
    → AllByRecursion AreTexts ls → AllTold g (map (numeric.NamReply secret c) ls)
name-lines g secret c [] is are = tt
name-lines g secret c (l ∷ ls) is are = (
  record { words = two (sign secret) c (sign-text secret) is; text = spaced-kept l are.0 },
  name-lines g secret c ls is are.1,
)

ended : (g : Settings) (c : List ℕ) → IsText c → AllTold g (numeric.EndOfNames c ∷ [])
ended g c is = last g (numeric.EndOfNames c) (record { words = one c is; text = refl })

pub names-clean : (g : Settings) (fs : List Deed) (s : ℕ) (k : Seen) → Facts fs → IsCleanSeen k
    → AllByRecursion (IsTextNumeric g) (names_told g fs s k)
names-clean g fs s k facts is =
    let names = member_names fs s k.state in
    let name = channel-text k.name is.name in
    let texts = texts-map (member_name fs k.state) (member-text fs k.state facts) (members_for fs s k.state) in
    all-both (IsTextNumeric g) (name_lines k (names_room g fs s k) names) (numeric.EndOfNames k.name ∷ [])
    (name-lines g k.state.modes.secret k.name (cut_lines (names_room g fs s k) (length names) names) name
    (cut-texts (names_room g fs s k) (length names) names texts)) (ended g k.name name)

names-of-one : (g : Settings) (fs : List Deed) (s : ℕ) → Facts fs → (c : List ℕ) → IsText c
    → AllTold g (names_of g fs s c)
names-of-one g fs s facts c text = by (channel_for fs s c) (for-is fs s c facts)
  where
    by : (o : Option Seen) → IfSeen o → AllTold g (names_seen g fs s c o)
    by None is = ended g c text
    by (Some k) is = names-clean g fs s k facts is

names-all : (g : Settings) (fs : List Deed) (s : ℕ) (o : Option (List (List ℕ))) → Facts fs
    → IfSome o (AllByRecursion IsText) → AllTold g (names_asked g fs s o)
names-all g fs s None facts are = ended g (codes "*") refl
names-all g fs s (Some cs) facts are =
    all-flat (IsTextNumeric g) IsText (names_of g fs s) (names-of-one g fs s facts) cs are

-- ---- LIST

listed-clean : (g : Settings) (o : Option Seen) → IfSeen o → AllTold g (listed_seen o)
listed-clean g None is = tt
listed-clean g (Some k) is = (
  record {
    words = two k.name (decimal (length k.state.members)) (channel-text k.name is.name)
        (decimal-text (length k.state.members));
    text = or-text k.state.topic [] is.state.topic refl;
  },
  tt,
)

list-all : (g : Settings) (fs : List Deed) (s : ℕ) (cs : List (List ℕ)) → Facts fs → AllTold g (lists_told fs s cs)
list-all g fs s cs facts =
    all-both (IsTextNumeric g) (flat_map (list_told fs s) cs) (numeric.ListEnd ∷ [])
    (each-flat (IsTextNumeric g) (list_told fs s) (λ c. listed-clean g (channel_for fs s c) (for-is fs s c facts)) cs)
    (last g numeric.ListEnd (record { words = refl; text = refl }))

-- ---- WHO

flags-text : (b : Bool) (o : Option Prefix) → IsText (flags b o)
flags-text true o = marks-text o
flags-text false o = marks-text o

who-clean : (g : Settings) (fs : List Deed) (k : Seen) → IsServing g → Facts fs → IsCleanSeen k → (t : ℕ)
    → IsTextNumeric g (numeric.WhoReply (who_of fs k t))
who-clean g fs k serves facts is t = record {
  words = and_from _ _ (channel-text k.name is.name) (and_from _ _ (user-shown fs t facts)
      (and_from _ _ (host-shown fs t facts)
      (and_from _ _ (word-text g.server (settings-server g serves.set).word)
      (two (title (nick fs t)) (flags (is_some (away fs t)) (rank_of k.state t)) (nick-shown fs t facts)
      (flags-text (is_some (away fs t)) (rank_of k.state t))))));
  text = real-shown fs t facts;
}

who-of-one : (g : Settings) (fs : List Deed) (s : ℕ) (n : List ℕ) (o : Option Seen) → IsServing g → Facts fs
    → IsText n → IfSeen o → AllTold g (who_seen fs s n o)
who-of-one g fs s n None serves facts text is =
    last g (numeric.EndOfWho n) (record { words = one n text; text = refl })
who-of-one g fs s n (Some k) serves facts text is =
    all-both (IsTextNumeric g) (map (λ t. numeric.WhoReply (who_of fs k t)) (members_for fs s k.state))
    (numeric.EndOfWho k.name ∷ [])
    (each-map (IsTextNumeric g) (λ t. numeric.WhoReply (who_of fs k t)) (who-clean g fs k serves facts is)
    (members_for fs s k.state))
    (last g (numeric.EndOfWho k.name) (record { words = one k.name (channel-text k.name is.name); text = refl }))

who-all : (g : Settings) (fs : List Deed) (s : ℕ) (o : Option (List ℕ)) → IsServing g → Facts fs → IfSome o IsText
    → AllTold g (who_asked fs s o)
who-all g fs s None serves facts is = last g (numeric.EndOfWho (codes "*")) (record { words = refl; text = refl })
who-all g fs s (Some n) serves facts is =
    who-of-one g fs s n (channel_for fs s n) serves facts is (for-is fs s n facts)

-- ---- WHOIS

title-texts : (t : ℕ) (o : Option Seen) → IfSeen o → AllByRecursion IsText (title_seen t o)
title-texts t None is = tt
title-texts t (Some k) is =
    (both (marks (rank_of k.state t)) k.name (marks-text (rank_of k.state t)) (channel-text k.name is.name), tt)

channel-lines : (g : Settings) (n : List ℕ) (ls : List (List (List ℕ))) → IsText n → AllByRecursion AreTexts ls
    → AllTold g (map (numeric.WhoisChannels n) ls)
channel-lines g n [] is are = tt
channel-lines g n (l ∷ ls) is are =
    (record { words = one n is; text = spaced-kept l are.0 }, channel-lines g n ls is are.1)

channels-clean : (g : Settings) (fs : List Deed) (s t : ℕ) (n : List ℕ) → Facts fs → IsText n
    → AllTold g (channels_told g fs s t n)
channels-clean g fs s t n facts is =
    let titles = channel_titles fs s t in let room = channels_room g fs s n in
    channel-lines g n (cut_lines room (length titles) titles) is (cut-texts room (length titles) titles
    (texts-all titles (each-flat IsText (λ c. title_seen t (channel_for fs s c))
    (λ c. title-texts t (channel_for fs s c) (for-is fs s c facts)) (channels_on fs t))))

away-clean : (g : Settings) (n : List ℕ) (o : Option (List ℕ)) → IsText n → IfSome o IsText → AllTold g (away_told n o)
away-clean g n None is text = tt
away-clean g n (Some words) is text = (record { words = one n is; text = text }, tt)

info-text : (g : Settings) → IsServing g → IsText g.info
info-text g serves = (and_parts _ _ serves.set.info).1

user-clean : (g : Settings) (fs : List Deed) (s t : ℕ) (n : List ℕ) → IsServing g → Facts fs → IsText n
    → AllTold g (user_told g fs s t n)
user-clean g fs s t n serves facts is =
    let server = word-text g.server (settings-server g serves.set).word in (
      record {
        words = and_from _ _ is (and_from _ _ (user-shown fs t facts) (and_from _ _ (host-shown fs t facts) refl));
        text = real-shown fs t facts;
      },
      all-both (IsTextNumeric g) (channels_told g fs s t n ++ numeric.WhoisServer n g.info ∷ away_told n (away fs t))
          (numeric.EndOfWhois n ∷ [])
          (all-both (IsTextNumeric g) (channels_told g fs s t n)
          (numeric.WhoisServer n g.info ∷ away_told n (away fs t))
          (channels-clean g fs s t n facts is) (
            record { words = two n g.server is server; text = info-text g serves },
            away-clean g n (away fs t) is (away-is fs t facts),
          ))
          (last g (numeric.EndOfWhois n) (record { words = one n is; text = refl })),
    )

whois-all : (g : Settings) (fs : List Deed) (s : ℕ) (n : List ℕ) (o : Option ℕ) → IsServing g → Facts fs → IsText n
    → AllTold g (whois_found g fs s n o)
whois-all g fs s n None serves facts is = (
  record { words = one n is; text = refl },
  last g (numeric.EndOfWhois n) (record { words = one n is; text = refl }),
)
whois-all g fs s n (Some t) serves facts is = user-clean g fs s t (title (nick fs t)) serves facts
    (nick-shown fs t facts)

-- ---- MOTD

motd-all : (g : Settings) (o : Option (List ℕ)) → IsServing g → IfSome o IsText → AllTold g (motd_asked g o)
motd-all g None serves is = motd-clean g g.motd serves serves.set.motd
motd-all g (Some server) serves is =
    cond_both (is_same server g.server) _ _ (AllTold g) (λ _. motd-clean g g.motd serves serves.set.motd)
    (λ _. last g (numeric.NoSuchServer server) (record { words = one server is; text = refl }))

-- ---- what is read

abbrev pub IsCleanQuery : Query → Type 0
IsCleanQuery (query.Names cs) = IfSome cs (AllByRecursion IsText)
IsCleanQuery (query.List cs) = Unit {0}
IsCleanQuery (query.Who n) = IfSome n IsText
IsCleanQuery (query.Whois n) = IsText n
IsCleanQuery (query.Motd server) = IfSome server IsText

pub list-texts : (ps : List (List ℕ)) → AreTexts ps → IfSome (list_given ps) (AllByRecursion IsText)
list-texts [] are = tt
list-texts (p ∷ ps) are = names-texts p (and_parts _ _ are).0

asked-text : (ps : List (List ℕ)) → AreTexts ps → IsText (nick_asked ps)
asked-text [] are = refl
asked-text (p ∷ []) are = (and_parts _ _ are).0
asked-text (p ∷ q ∷ ps) are = first-text (q ∷ ps) (and_parts _ _ are).1

pub reads_whois : (ps : List (List ℕ)) → AreTexts ps → IsCleanRead IsCleanQuery (whois_query ps)
reads_whois ps are = cond_both (is_empty (nick_asked ps)) (Err NoNicknameGiven) _ (IsCleanRead IsCleanQuery) (λ _. tt)
    (λ _. asked-text ps are)

-- ---- what each is told

told-clean : (g : Settings) (fs : List Deed) (s : ℕ) (q : Query) → IsServing g → Facts fs → IsCleanQuery q
    → AllTold g (told g fs s q)
told-clean g fs s (query.Names cs) serves facts is = names-all g fs s cs facts is
told-clean g fs s (query.List cs) serves facts is = list-all g fs s (channels_asked fs cs) facts
told-clean g fs s (query.Who n) serves facts is = who-all g fs s n serves facts is
told-clean g fs s (query.Whois n) serves facts is = whois-all g fs s n (user_named fs n) serves facts is
told-clean g fs s (query.Motd server) serves facts is = motd-all g server serves is

pub of_query : (g : Settings) (fs : List Deed) (s : ℕ) (q : Query) → IsServing g → Facts fs → IsCleanQuery q
    → Clean (queries g fs s q)
of_query g fs s q serves facts is = told_all g fs s (told g fs s q) serves facts (told-clean g fs s q serves facts is)
