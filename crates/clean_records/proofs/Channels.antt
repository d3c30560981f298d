-- What JOIN, PART, KICK, INVITE and TOPIC do.
use Rattle.std.proofs.Common.{◌≡◌, ℕ, zero, suc, ◌+◌, Bool, true, false, not, ◌&&◌, nat_le, List, [], ◌∷◌}
use Rattle.std.proofs.Common.{codes, filter, length, slice_get, IfSome, Option, Some, None, Result}
use Rattle.std.proofs.Common.{refl, arith, unwrap_or, ◌≤◌}
use Rattle.std.specs.List.{AllByRecursion, slice_split}
use Rattle.std.proofs.lemmas.Bool.{and_from, and_parts, cond_both, not-false}
use Rattle.casemapping.specs.Names.{channel_shape}
use Rattle.line_grammar.specs.Parts.{is_present}
use Rattle.line_grammar.specs.Reading.{is_command}
use Rattle.line_grammar.specs.Spelling.{is_text_octet}
use Rattle.channel_state.specs.declared.change.Change.TheVariants.{Joined, Left, Invited, TopicSet}
use Rattle.channel_state.specs.State.{among, with_change, made_by, without}
use Rattle.command_params.specs.declared.fault.ReadFault.{ReadFault}
use Rattle.command_params.specs.declared.join_targets.JoinTarget.{JoinTarget}
use Rattle.command_params.specs.Lists.{is_comma, with_keys, targets_of}
use Rattle.command_params.specs.Params.{first_or_empty}
use Rattle.numerics.specs.declared.numeric.Numeric.TheVariants.{Away, ChanOPrivsNeeded, Inviting, NoSuchChannel}
use Rattle.numerics.specs.declared.numeric.Numeric.TheVariants.{NoSuchNick, NotOnChannel, NoTopic, TooManyChannels}
use Rattle.numerics.specs.declared.numeric.Numeric.TheVariants.{TooManyTargets, Topic, UserNotInChannel, UserOnChannel}
use Rattle.numerics.specs.declared.outgoing.Out.{Out}
use Rattle.numerics.specs.Numerics.{row}
use Rattle.numerics.specs.Outgoing.{line}
use Rattle.registration.specs.declared.caps.Cap.TheVariants.{AwayNotify}
use Rattle.registration.specs.declared.settings.Settings.{Settings}
use Rattle.roster.specs.declared.deed.Deed.{Deed}
use Rattle.roster.specs.declared.deed.Deed.TheVariants.{ChannelMade, Changed}
use Rattle.roster.specs.LookBack.{account, after, away, channel_count, nick, real}
use Rattle.transactions.specs.declared.denials.Denial.{Denial}
use Rattle.transactions.specs.declared.denials.Denial.TheVariants.{NoSuchNick as NoNick}
use Rattle.transactions.specs.declared.effect.Effect.{Effect}
use Rattle.transactions.specs.declared.effect.Effect.TheVariants.{Establish, Show}
use Rattle.transactions.specs.Denials.{numeric_for}
use Rattle.transactions.specs.Effects.{deeds_of}
use Rattle.transactions.specs.Hearers.{shows_to, takes}
use Rattle.transactions.specs.Lines.{away_line, extended_join_line, join_line, prefix, title}
use Rattle.transactions.specs.Replies.{tells, tells_all}
use Rattle.transactions.specs.Seen.{Seen, seen}
use Rattle.channel_leaving.specs.Leaving.{leaves}
use Rattle.query_commands.specs.Names.{names_told}
use Rattle.channel_commands.specs.declared.channel.ChannelCommand.{ChannelCommand}
use Rattle.channel_commands.specs.declared.channel.ChannelCommand.TheVariants as channel
use Rattle.channel_commands.specs.Channel.{invite_command, join_command, kick_command}
use Rattle.channel_commands.specs.Channel.{part_command}
use Rattle.channel_commands.specs.Channel.{serves_channel, topic_command}
use Rattle.channel_commands.specs.Each.{each, each_counted}
use Rattle.channel_commands.specs.Found.{channel_of, user_of}
use Rattle.channel_commands.specs.Inviting.{away_told, invites_found, invites_seen, invites_user}
use Rattle.channel_commands.specs.Joining.{absence_shown, bar_of, arrives, enters, enters_unless, arrival_shown}
use Rattle.channel_commands.specs.Joining.{join_shown}
use Rattle.channel_commands.specs.Joining.{joins, joins_one, joins_seen, makes, takes_extended, takes_plain}
use Rattle.channel_commands.specs.Joining.{topic_told, arrival_told}
use Rattle.channel_commands.specs.Leaving.{kick_text, kicks, kicks_each, kicks_found, kicks_one, kicks_seen}
use Rattle.channel_commands.specs.Leaving.{kicks_user}
use Rattle.channel_commands.specs.Leaving.{parts, parts_one, parts_seen}
use Rattle.channel_commands.specs.Lines.{invite_line, kick_line, part_line, topic_line}
use Rattle.channel_commands.specs.Topics.{sets_topic, topic_of, topic_served, topic_shown, topic_text, topics_seen}
use Rattle.answer_octets.specs.Clean.{IsClean, IsWordOf}
use Rattle.answer_octets.proofs.Kept.{split-kept, take-kept}
use Rattle.answer_octets.proofs.Numerics.{line-clean}
use Rattle.clean_records.specs.Clean.{IsChannel, IsServing, IsText}
use Rattle.clean_records.proofs.Asking.{IsCleanRead, distinct-all, first-if_any, first-text, names-texts}
use Rattle.clean_records.proofs.Effects.{Clean, IsTextNumeric, either, from-session, joined}
use Rattle.clean_records.proofs.Effects.{later, more, none, only, some_shown, told, told_all, told_only}
use Rattle.clean_records.proofs.Lists.{all-both, all-filter, all-texts, texts-all}
use Rattle.clean_records.proofs.Lookups.{Facts, IfSeen, IsCleanSeen, account-shown, away-is, changed-clean}
use Rattle.clean_records.proofs.Lookups.{made-clean, nick-shown, prefix-is, real-shown, seen-is, with-fact}
use Rattle.clean_records.proofs.Queries.{names-clean}
use Rattle.clean_records.proofs.Texts.{AreTexts, channel-text, one, two}

-- ---- a command's own words

-- whom the lines of a line's session come from, by the facts before the line
abbrev IsFrom : List ℕ → Type 0
IsFrom from = IsWordOf 111 from

-- a line of a source, its command and its parameters
from-line : (from command : List ℕ) (params : List (List ℕ)) (colon : Bool) → IsFrom from
    → is_command command ≡ true → length command ≤ 100 → AreTexts params → IsClean (line from command params colon)
from-line from command params colon is word short texts =
    line-clean from command params colon is.word word texts (let few = is.short in omega (arith, few, short))

pub channel-is : (fs : List Deed) (c : List ℕ) → Facts fs → IfSeen (channel_of fs c)
unfolding channel_of
channel-is fs c facts = seen-is fs c facts

-- each in turn, over the facts that those before it leave
in_turn : {A : Type 0} (P : A → Type 0) (row : List Deed → A → List Effect)
    → ((fs : List Deed) (x : A) → Facts fs → P x → Clean (row fs x)) → (fs : List Deed) (xs : List A) → Facts fs
    → AllByRecursion P xs → Clean (each row fs xs)
in_turn P row is fs [] facts are = none
in_turn P row is fs (x ∷ xs) facts are =
    let fs1 = after fs (deeds_of (row fs x)) in let first = is fs x facts are.0 in
    joined (row fs x) (each row fs1 xs) first (in_turn P row is fs1 xs (later (row fs x) fs first facts) are.1)

in_turn_counted : {A : Type 0} (P : A → Type 0) (row : List Deed → ℕ → A → List Effect)
    → ((fs : List Deed) (n : ℕ) (x : A) → Facts fs → P x → Clean (row fs n x)) → (fs : List Deed) (n : ℕ)
    (xs : List A) → Facts fs → AllByRecursion P xs → Clean (each_counted row fs n xs)
in_turn_counted P row is fs n [] facts are = none
in_turn_counted P row is fs n (x ∷ xs) facts are =
    let ds = deeds_of (row fs n x) in let first = is fs n x facts are.0 in
    joined (row fs n x) (each_counted row (after fs ds) (n + length ds) xs) first
    (in_turn_counted P row is (after fs ds) (n + length ds) xs (later (row fs n x) fs first facts) are.1)

-- ---- JOIN

abbrev pub IsCleanTarget : JoinTarget → Type 0
IsCleanTarget t = IsText t.channel

arrival : (fs : List Deed) (s : ℕ) (from : List ℕ) (k : Seen) → Facts fs → IsFrom from → IsCleanSeen k
    → Clean (arrival_shown fs s from k)
unfolding arrival_shown
arrival fs s from k facts is seen = joined (join_shown fs s from k) (absence_shown fs s from k (away fs s)) both
    (absence (away fs s) (away-is fs s facts))
  where
    name : IsText k.name
    name = channel-text k.name seen.name

    both : Clean (join_shown fs s from k)
    both =
        let plain = join_line from k.name in
        let extended = extended_join_line from k.name (account fs s) (real fs s) in
        joined (shows_to (filter (takes_plain fs) k.state.members) plain)
        (shows_to (filter (takes_extended fs) k.state.members) extended)
        (some_shown (filter (takes_plain fs) k.state.members) plain
        (from-line from (codes "JOIN") (k.name ∷ []) false is refl (omega arith) (one k.name name)))
        (some_shown (filter (takes_extended fs) k.state.members) extended
        (from-line from (codes "JOIN") (k.name ∷ title (account fs s) ∷ unwrap_or (real fs s) [] ∷ []) true is refl
        (omega arith) (and_from _ _ name (two (title (account fs s)) (unwrap_or (real fs s) [])
        (account-shown fs s facts) (real-shown fs s facts)))))

    absence : (text : Option (List ℕ)) → IfSome text IsText → Clean (absence_shown fs s from k text)
    absence None given = none
    absence (Some text) given =
        some_shown (without s (filter (takes fs AwayNotify) k.state.members)) (away_line from (Some text))
        (from-line from (codes "AWAY") (text ∷ []) true is refl (omega arith) (one text given))

topic-clean : (g : Settings) (k : Seen) (o : Option (List ℕ)) → IsText k.name → IfSome o IsText
    → AllByRecursion (IsTextNumeric g) (topic_told k o)
topic-clean g k None name is = tt
topic-clean g k (Some topic) name is = (record { words = one k.name name; text = is }, tt)

entry : (g : Settings) (fs0 fs : List Deed) (s : ℕ) (from : List ℕ) (k : Seen) → IsServing g → Facts fs0 → Facts fs
    → IsFrom from → IsCleanSeen k → Clean (arrives g fs0 fs s from k)
unfolding arrives
entry g fs0 fs s from k serves before facts is seen =
    joined (arrival_shown fs0 s from k) (tells_all g fs s (arrival_told g fs0 s k))
    (arrival fs0 s from k before is seen)
    (told_all g fs s (arrival_told g fs0 s k) serves facts (all-both (IsTextNumeric g) (topic_told k k.state.topic)
    (names_told g fs0 s k) (topic-clean g k k.state.topic (channel-text k.name seen.name) seen.state.topic)
    (names-clean g fs0 s k before seen)))

making : (g : Settings) (fs0 fs : List Deed) (s : ℕ) (from c : List ℕ) → IsServing g → Facts fs0 → Facts fs
    → IsFrom from → IsChannel c → Clean (makes g fs0 fs s from c)
making g fs0 fs s from c serves before facts is shaped =
    let k : Seen = record { name = c; state = made_by s } in
    more (Establish (ChannelMade s c)) (arrives g fs0 (ChannelMade s c ∷ fs) s from k) shaped
    (entry g fs0 (ChannelMade s c ∷ fs) s from k serves before (with-fact (ChannelMade s c) fs shaped facts) is
    (record { name = shaped; state = made-clean s }))

entering : (g : Settings) (fs0 fs : List Deed) (s : ℕ) (from : List ℕ) (k : Seen) → IsServing g → Facts fs0
    → Facts fs → IsFrom from → IsCleanSeen k → Clean (enters g fs0 fs s from k)
entering g fs0 fs s from k serves before facts is seen =
    let joined_now : Seen = record { name = k.name; state = with_change (Joined s) k.state } in
    let d = Changed k.name (Joined s) in
    more (Establish d) (arrives g fs0 (d ∷ fs) s from joined_now) (seen.name, tt)
    (entry g fs0 (d ∷ fs) s from joined_now serves before (with-fact d fs (seen.name, tt) facts) is
    (record { name = seen.name; state = changed-clean (Joined s) k.state tt seen.state }))

pub denial-row : (g : Settings) (why : Denial) (n : List ℕ) → IsText n → IsTextNumeric g (numeric_for why n)
denial-row g NoNick n is = record { words = one n is; text = refl }
denial-row g _ n is = record { words = one n is; text = refl }

unless_barred : (g : Settings) (fs0 fs : List Deed) (s : ℕ) (from : List ℕ) (k : Seen) (bar : Option Denial)
    → IsServing g → Facts fs0 → Facts fs → IsFrom from → IsCleanSeen k → Clean (enters_unless g fs0 fs s from k bar)
unless_barred g fs0 fs s from k None serves before facts is seen =
    entering g fs0 fs s from k serves before facts is seen
unless_barred g fs0 fs s from k (Some bar) serves before facts is seen =
    told_only g fs s (numeric_for bar k.name) serves
    facts (denial-row g bar k.name (channel-text k.name seen.name))

joining_seen : (g : Settings) (fs0 fs : List Deed) (s : ℕ) (from : List ℕ) (n : ℕ) (t : JoinTarget) (o : Option Seen)
    → IsServing g → Facts fs0 → Facts fs → IsFrom from → IsChannel t.channel → IfSeen o
    → Clean (joins_seen g fs0 fs s from n t o)
joining_seen g fs0 fs s from n t None serves before facts is shaped seen =
    either (nat_le 20 n) (tells g fs s (TooManyChannels t.channel) ∷ []) (makes g fs0 fs s from t.channel)
    (told_only g fs s (TooManyChannels t.channel) serves facts
    (record { words = one t.channel (channel-text t.channel shaped); text = refl }))
    (making g fs0 fs s from t.channel serves before facts is shaped)
joining_seen g fs0 fs s from n t (Some k) serves before facts is shaped seen =
    let bar = bar_of k.state s from t.key in
    either (among s k.state.members) [] _ none
    (either (nat_le 20 n) (tells g fs s (TooManyChannels k.name) ∷ []) (enters_unless g fs0 fs s from k bar)
    (told_only g fs s (TooManyChannels k.name) serves facts
    (record { words = one k.name (channel-text k.name seen.name); text = refl }))
    (unless_barred g fs0 fs s from k bar serves before facts is seen))

joining_one : (g : Settings) (fs0 : List Deed) (s : ℕ) (from : List ℕ) → IsServing g → Facts fs0 → IsFrom from
    → (fs : List Deed) (n : ℕ) (t : JoinTarget) → Facts fs → IsCleanTarget t → Clean (joins_one g fs0 s from fs n t)
joining_one g fs0 s from serves before is fs n t facts text =
    cond_both (not (channel_shape t.channel)) (tells g fs s (NoSuchChannel t.channel) ∷ [])
    (joins_seen g fs0 fs s from n t (channel_of fs t.channel)) Clean
    (λ _. told_only g fs s (NoSuchChannel t.channel) serves facts
    (record { words = one t.channel text; text = refl }))
    (λ shaped. joining_seen g fs0 fs s from n t (channel_of fs t.channel) serves before facts is
    (not-false _ shaped) (channel-is fs t.channel facts))

joining : (g : Settings) (fs : List Deed) (s : ℕ) (ts : List JoinTarget) → IsServing g → Facts fs
    → AllByRecursion IsCleanTarget ts → Clean (joins g fs s ts)
joining g fs s ts serves facts are =
    let from = prefix-is fs s facts in
    in_turn_counted IsCleanTarget (joins_one g fs s (prefix fs s))
    (joining_one g fs s (prefix fs s) serves facts from) fs (channel_count fs s) ts facts are

-- ---- PART and KICK

leaving : (k : Seen) (t : ℕ) (l : Out) → IsCleanSeen k → IsClean l → Clean (leaves k t l)
leaving k t l seen is = let d = Establish (Changed k.name (Left t)) in
    more (Show k.state.members l) (d ∷ []) is (only d (seen.name, tt))

part-clean : (from c text : List ℕ) → IsFrom from → IsText c → IsText text → IsClean (part_line from c text)
part-clean from c [] is name given = from-line from (codes "PART") (c ∷ []) false is refl (omega arith) (one c name)
part-clean from c (x ∷ xs) is name given =
    from-line from (codes "PART") (c ∷ (x ∷ xs) ∷ []) true is refl (omega arith) (two c (x ∷ xs) name given)

parting_seen : (g : Settings) (fs : List Deed) (s : ℕ) (from text c : List ℕ) (o : Option Seen) → IsServing g
    → Facts fs → IsFrom from → IsText text → IsText c → IfSeen o → Clean (parts_seen g fs s from text c o)
parting_seen g fs s from text c None serves facts is given name seen =
    told_only g fs s (NoSuchChannel c) serves facts (record { words = one c name; text = refl })
parting_seen g fs s from text c (Some k) serves facts is given name seen =
    let l = part_line from k.name text in let shown = channel-text k.name seen.name in
    either (not (among s k.state.members)) (tells g fs s (NotOnChannel k.name) ∷ []) (leaves k s l)
    (told_only g fs s (NotOnChannel k.name) serves facts (record { words = one k.name shown; text = refl }))
    (leaving k s l seen (part-clean from k.name text is shown given))

parting : (g : Settings) (fs : List Deed) (s : ℕ) (cs : List (List ℕ)) (text : List ℕ) → IsServing g → Facts fs
    → AllByRecursion IsText cs → IsText text → Clean (parts g fs s cs text)
parting g fs s cs text serves facts are given =
    let from = prefix-is fs s facts in
    in_turn IsText (parts_one g s (prefix fs s) text)
    (λ fs1 c now name. parting_seen g fs1 s (prefix fs s) text c (channel_of fs1 c) serves now from given name
    (channel-is fs1 c now)) fs cs facts are

kicking_user : (g : Settings) (fs0 fs : List Deed) (s : ℕ) (from text c : List ℕ) (t : ℕ) (o : Option Seen)
    → IsServing g → Facts fs0 → Facts fs → IsFrom from → IsText text → IsText c → IfSeen o
    → Clean (kicks_user g fs0 fs s from text c t o)
kicking_user g fs0 fs s from text c t None serves before facts is given name seen =
    let who = title (nick fs0 t) in
    told_only g fs s (UserNotInChannel who c) serves facts
    (record { words = two who c (nick-shown fs0 t before) name; text = refl })
kicking_user g fs0 fs s from text c t (Some k) serves before facts is given name seen =
    let who = title (nick fs0 t) in
    let l = kick_line from c who text in let no = UserNotInChannel who c in
    either (not (among t k.state.members)) (tells g fs s no ∷ []) (leaves k t l)
    (told_only g fs s no serves facts (record { words = two who c (nick-shown fs0 t before) name; text = refl }))
    (leaving k t l seen (from-line from (codes "KICK") (c ∷ who ∷ text ∷ []) true is refl (omega arith)
    (and_from _ _ name (two who text (nick-shown fs0 t before) given))))

kicking_found : (g : Settings) (fs0 fs : List Deed) (s : ℕ) (from text c n : List ℕ) (o : Option ℕ) → IsServing g
    → Facts fs0 → Facts fs → IsFrom from → IsText text → IsText c → IsText n
    → Clean (kicks_found g fs0 fs s from text c n o)
kicking_found g fs0 fs s from text c n None serves before facts is given name text_n =
    told_only g fs s (NoSuchNick n) serves facts (record { words = one n text_n; text = refl })
kicking_found g fs0 fs s from text c n (Some t) serves before facts is given name text_n =
    kicking_user g fs0 fs s from text c t (channel_of fs c) serves before facts is given name (channel-is fs c facts)

kick-text : (fs : List Deed) (s : ℕ) (text : List ℕ) → Facts fs → IsText text → IsText (kick_text fs s text)
unfolding kick_text
kick-text fs s [] facts given = nick-shown fs s facts
kick-text fs s (x ∷ xs) facts given = take-kept is_text_octet 200 (x ∷ xs) given

kicking_each : (g : Settings) (fs : List Deed) (s : ℕ) (ns : List (List ℕ)) (text c : List ℕ) (o : Option (List ℕ))
    → IsServing g → Facts fs → AllByRecursion IsText ns → IsText text → IsText c → IfSome o IsText
    → Clean (kicks_each g fs s ns text c o)
kicking_each g fs s ns text c None serves facts are given name fifth =
    let words = kick_text fs s text in let from = prefix-is fs s facts in
    in_turn IsText (kicks_one g fs s (prefix fs s) words c)
    (λ fs1 n now shown. kicking_found g fs fs1 s (prefix fs s) words c n (user_of fs n) serves facts now from
    (kick-text fs s text facts given) name shown) fs ns facts are
kicking_each g fs s ns text c (Some n) serves facts are given name fifth =
    told_only g fs s (TooManyTargets n) serves facts (record { words = one n fifth; text = refl })

place-text : (ts : List (List ℕ)) (n : ℕ) → AllByRecursion IsText ts → IfSome (slice_get ts n) IsText
place-text [] n are = tt
place-text (t ∷ ts) zero are = are.0
place-text (t ∷ ts) (suc n) are = place-text ts n are.1

kicking_seen : (g : Settings) (fs : List Deed) (s : ℕ) (ns : List (List ℕ)) (text c : List ℕ) (o : Option Seen)
    → IsServing g → Facts fs → AllByRecursion IsText ns → IsText text → IsText c → IfSeen o
    → Clean (kicks_seen g fs s ns text c o)
kicking_seen g fs s ns text c None serves facts are given name seen =
    told_only g fs s (NoSuchChannel c) serves facts (record { words = one c name; text = refl })
kicking_seen g fs s ns text c (Some k) serves facts are given name seen =
    let shown = channel-text k.name seen.name in
    either (not (among s k.state.members)) (tells g fs s (NotOnChannel k.name) ∷ []) _
    (told_only g fs s (NotOnChannel k.name) serves facts (record { words = one k.name shown; text = refl }))
    (either (not (among s k.state.operators)) (tells g fs s (ChanOPrivsNeeded k.name) ∷ [])
    (kicks_each g fs s ns text k.name (slice_get ns 4))
    (told_only g fs s (ChanOPrivsNeeded k.name) serves facts (record { words = one k.name shown; text = refl }))
    (kicking_each g fs s ns text k.name (slice_get ns 4) serves facts are given shown (place-text ns 4 are)))

kicking : (g : Settings) (fs : List Deed) (s : ℕ) (c : List ℕ) (ns : List (List ℕ)) (text : List ℕ) → IsServing g
    → Facts fs → IsText c → AllByRecursion IsText ns → IsText text → Clean (kicks g fs s c ns text)
kicking g fs s c ns text serves facts name are given =
    kicking_seen g fs s ns text c (channel_of fs c) serves facts are given name (channel-is fs c facts)

-- ---- INVITE

away_clean : (g : Settings) (fs : List Deed) (s : ℕ) (n : List ℕ) (o : Option (List ℕ)) → IsServing g → Facts fs
    → IsText n → IfSome o IsText → Clean (away_told g fs s n o)
away_clean g fs s n None serves facts name is = none
away_clean g fs s n (Some text) serves facts name is =
    told_only g fs s (Away n text) serves facts (record { words = one n name; text = is })

inviting_user : (g : Settings) (fs : List Deed) (s t : ℕ) (n : List ℕ) (k : Seen) → IsServing g → Facts fs → IsText n
    → IsCleanSeen k → Clean (invites_user g fs s t n k)
inviting_user g fs s t n k serves facts name seen =
    let shown = channel-text k.name seen.name in
    let d = Establish (Changed k.name (Invited t (among s k.state.operators))) in
    let rest = away_told g fs s n (away fs t) in
    more (Show (t ∷ []) (invite_line (prefix fs s) n k.name)) (d ∷ tells g fs s (Inviting n k.name) ∷ rest)
    (from-session fs s (codes "INVITE") (n ∷ k.name ∷ []) false facts refl (omega arith) (two n k.name name shown))
    (more d (tells g fs s (Inviting n k.name) ∷ rest) (seen.name, tt) (more (tells g fs s (Inviting n k.name)) rest
    (told g fs s (Inviting n k.name) serves facts (record { words = two n k.name name shown; text = tt }))
    (away_clean g fs s n (away fs t) serves facts name (away-is fs t facts))))

inviting_seen : (g : Settings) (fs : List Deed) (s t : ℕ) (n c : List ℕ) (o : Option Seen) → IsServing g → Facts fs
    → IsText n → IsText c → IfSeen o → Clean (invites_seen g fs s t n c o)
inviting_seen g fs s t n c None serves facts name text seen =
    told_only g fs s (NoSuchChannel c) serves facts (record { words = one c text; text = refl })
inviting_seen g fs s t n c (Some k) serves facts name text seen =
    let shown = channel-text k.name seen.name in
    either (not (among s k.state.members)) (tells g fs s (NotOnChannel k.name) ∷ []) _
    (told_only g fs s (NotOnChannel k.name) serves facts (record { words = one k.name shown; text = refl }))
    (either (among t k.state.members) (tells g fs s (UserOnChannel n k.name) ∷ []) _
    (told_only g fs s (UserOnChannel n k.name) serves facts (record { words = two n k.name name shown; text = refl }))
    (either (k.state.modes.invite_only && not (among s k.state.operators))
    (tells g fs s (ChanOPrivsNeeded k.name) ∷ []) (invites_user g fs s t n k)
    (told_only g fs s (ChanOPrivsNeeded k.name) serves facts (record { words = one k.name shown; text = refl }))
    (inviting_user g fs s t n k serves facts name seen)))

inviting_found : (g : Settings) (fs : List Deed) (s : ℕ) (n c : List ℕ) (o : Option ℕ) → IsServing g → Facts fs
    → IsText n → IsText c → Clean (invites_found g fs s n c o)
inviting_found g fs s n c None serves facts name text =
    told_only g fs s (NoSuchNick n) serves facts (record { words = one n name; text = refl })
inviting_found g fs s n c (Some t) serves facts name text =
    inviting_seen g fs s t (title (nick fs t)) c (channel_of fs c) serves facts (nick-shown fs t facts) text
    (channel-is fs c facts)

-- ---- TOPIC

showing_topic : (g : Settings) (fs : List Deed) (s : ℕ) (c : List ℕ) (o : Option (List ℕ)) → IsServing g → Facts fs
    → IsText c → IfSome o IsText → Clean (topic_shown g fs s c o)
showing_topic g fs s c None serves facts name is =
    told_only g fs s (NoTopic c) serves facts (record { words = one c name; text = refl })
showing_topic g fs s c (Some topic) serves facts name is =
    told_only g fs s (Topic c topic) serves facts (record { words = one c name; text = is })

topic_of-text : (text : List ℕ) → IsText text → IfSome (topic_of text) IsText
unfolding topic_of
topic_of-text [] is = tt
topic_of-text (x ∷ xs) is = is

cut-text : (text : List ℕ) → IsText text → IsText (topic_text text)
unfolding topic_text
cut-text text is = take-kept is_text_octet 300 text is

setting_topic : (fs : List Deed) (s : ℕ) (k : Seen) (text : List ℕ) → Facts fs → IsText text → IsCleanSeen k
    → Clean (sets_topic fs s k text)
setting_topic fs s k text facts is seen =
    let d = Establish (Changed k.name (TopicSet (topic_of text))) in
    let show = Show k.state.members (topic_line (prefix fs s) k.name text) in
    more d (show ∷ []) (seen.name, topic_of-text text is)
    (only show (from-session fs s (codes "TOPIC") (k.name ∷ text ∷ []) true facts refl (omega arith)
    (two k.name text (channel-text k.name seen.name) is)))

serving_topic : (g : Settings) (fs : List Deed) (s : ℕ) (k : Seen) (o : Option (List ℕ)) → IsServing g → Facts fs
    → IfSome o IsText → IsCleanSeen k → Clean (topic_served g fs s k o)
unfolding topic_served
serving_topic g fs s k None serves facts is seen =
    showing_topic g fs s k.name k.state.topic serves facts (channel-text k.name seen.name) seen.state.topic
serving_topic g fs s k (Some text) serves facts is seen =
    either (k.state.modes.topic_locked && not (among s k.state.operators))
    (tells g fs s (ChanOPrivsNeeded k.name) ∷ []) (sets_topic fs s k (topic_text text))
    (told_only g fs s (ChanOPrivsNeeded k.name) serves facts
    (record { words = one k.name (channel-text k.name seen.name); text = refl }))
    (setting_topic fs s k (topic_text text) facts (cut-text text is) seen)

topic_seen : (g : Settings) (fs : List Deed) (s : ℕ) (c : List ℕ) (text : Option (List ℕ)) (o : Option Seen)
    → IsServing g → Facts fs → IsText c → IfSome text IsText → IfSeen o → Clean (topics_seen g fs s c text o)
topic_seen g fs s c text None serves facts name is seen =
    told_only g fs s (NoSuchChannel c) serves facts (record { words = one c name; text = refl })
topic_seen g fs s c text (Some k) serves facts name is seen =
    either (not (among s k.state.members)) (tells g fs s (NotOnChannel k.name) ∷ []) (topic_served g fs s k text)
    (told_only g fs s (NotOnChannel k.name) serves facts
    (record { words = one k.name (channel-text k.name seen.name); text = refl }))
    (serving_topic g fs s k text serves facts is seen)

-- ---- what is read

abbrev pub IsCleanChannel : ChannelCommand → Type 0
IsCleanChannel (channel.Join targets) = AllByRecursion IsCleanTarget targets
IsCleanChannel (channel.Part names text) = AllByRecursion IsText names × IsText text
IsCleanChannel (channel.Kick name nicks text) = IsText name × AllByRecursion IsText nicks × IsText text
IsCleanChannel (channel.Invite nick name) = IsText nick × IsText name
IsCleanChannel (channel.Topic name text) = IsText name × IfSome text IsText

abbrev IsReadChannel : Result ChannelCommand ReadFault → Type 0
IsReadChannel read = IsCleanRead IsCleanChannel read

paired-texts : (cs keys : List (List ℕ)) → AllByRecursion IsText cs → AllByRecursion IsCleanTarget (with_keys cs keys)
paired-texts [] keys are = tt
paired-texts (c ∷ cs) [] are = (are.0, paired-texts cs [] are.1)
paired-texts (c ∷ cs) (key ∷ keys) are = (are.0, paired-texts cs keys are.1)

targets-texts : (list keys : List ℕ) → IsText list → AllByRecursion IsCleanTarget (targets_of list keys)
targets-texts list keys is =
    let cs = slice_split is_comma list in
    let ts = with_keys cs (slice_split is_comma keys) in
    distinct-all IsCleanTarget (λ t. t.channel) (filter (λ t. is_present t.channel) ts)
    (all-filter IsCleanTarget (λ t. is_present t.channel) ts (paired-texts cs (slice_split is_comma keys)
    (all-texts cs (split-kept is_text_octet is_comma list is))))

pub reads_join : (ps : List (List ℕ)) → AreTexts ps → IsReadChannel (join_command ps)
reads_join [] are = tt
reads_join (list ∷ ps) are = targets-texts list (first_or_empty ps) (and_parts _ _ are).0

pub reads_part : (ps : List (List ℕ)) → AreTexts ps → IsReadChannel (part_command ps)
reads_part [] are = tt
reads_part (list ∷ ps) are = let parts = and_parts _ _ are in (names-texts list parts.0, first-text ps parts.1)

pub reads_kick : (ps : List (List ℕ)) → AreTexts ps → IsReadChannel (kick_command ps)
reads_kick [] are = tt
reads_kick (name ∷ []) are = tt
reads_kick (name ∷ list ∷ ps) are =
    let each = all-texts (name ∷ list ∷ ps) are in
    (each.0, names-texts list each.1.0, first-text ps (texts-all ps each.1.1))

pub reads_invite : (ps : List (List ℕ)) → AreTexts ps → IsReadChannel (invite_command ps)
reads_invite [] are = tt
reads_invite (nick ∷ []) are = tt
reads_invite (nick ∷ name ∷ ps) are = let each = all-texts (nick ∷ name ∷ ps) are in (each.0, each.1.0)

pub reads_topic : (ps : List (List ℕ)) → AreTexts ps → IsReadChannel (topic_command ps)
reads_topic [] are = tt
reads_topic (name ∷ ps) are = let parts = and_parts _ _ are in (parts.0, first-if_any ps parts.1)

-- ---- what each does

pub of_channel : (g : Settings) (fs : List Deed) (s : ℕ) (k : ChannelCommand) → IsServing g → Facts fs
    → IsCleanChannel k → Clean (serves_channel g fs s k)
of_channel g fs s (channel.Join targets) serves facts is = joining g fs s targets serves facts is
of_channel g fs s (channel.Part names text) serves facts is = parting g fs s names text serves facts is.0 is.1
of_channel g fs s (channel.Kick name nicks text) serves facts is =
    kicking g fs s name nicks text serves facts is.0 is.1 is.2
of_channel g fs s (channel.Invite nick name) serves facts is =
    inviting_found g fs s nick name (user_of fs nick) serves facts is.0 is.1
of_channel g fs s (channel.Topic name text) serves facts is =
    topic_seen g fs s name text (channel_of fs name) serves facts is.0 is.1 (channel-is fs name facts)
