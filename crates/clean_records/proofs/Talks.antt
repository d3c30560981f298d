-- What PRIVMSG, NOTICE, TAGMSG and AWAY do.
use Rattle.std.proofs.Common.{◌≡◌, ℕ, zero, suc, true, false, ◌&&◌, ◌||◌, ◌==◌, nat_lt, List, [], ◌∷◌}
use Rattle.std.proofs.Common.{codes, filter, length, slice_index_or, flat_map, is_some, option_to_list, IfSome, Option}
use Rattle.std.proofs.Common.{Some, None, Result, refl, arith, ◌≤◌}
use Rattle.std.specs.Bool.{if◌then◌else◌}
use Rattle.std.specs.List.{AllByRecursion, list_all}
use Rattle.std.proofs.lemmas.Bool.{and_from, and_parts, cond_both}
use Rattle.line_grammar.specs.Parts.{is_empty}
use Rattle.line_grammar.specs.Reading.{is_command}
use Rattle.line_grammar.specs.Spelling.{is_text_octet, is_word_octet}
use Rattle.channel_state.specs.State.{State, without}
use Rattle.numerics.specs.declared.numeric.Numeric.{Numeric}
use Rattle.numerics.specs.declared.numeric.Numeric.TheVariants.{Away as IsAway, CannotSendToChan, NoSuchChannel}
use Rattle.numerics.specs.declared.numeric.Numeric.TheVariants.{NoSuchNick, TooManyTargets}
use Rattle.numerics.specs.declared.outgoing.Out.{Out}
use Rattle.registration.specs.declared.caps.Cap.TheVariants.{EchoMessage}
use Rattle.registration.specs.declared.settings.Settings.{Settings}
use Rattle.registration.specs.Caps.{is_on}
use Rattle.roster.specs.declared.deed.Deed.{Deed}
use Rattle.roster.specs.declared.deed.Deed.TheVariants.{AwaySet}
use Rattle.roster.specs.LookBack.{away, caps, user_named, name_of, nick, state}
use Rattle.transactions.specs.declared.effect.Effect.TheVariants.{Establish, Answer, Show, Copy}
use Rattle.transactions.specs.Hearers.{shows_to}
use Rattle.transactions.specs.Lines.{away_line, prefix, title}
use Rattle.transactions.specs.Replies.{tells}
use Rattle.command_params.specs.declared.fault.ReadFault.{ReadFault}
use Rattle.command_params.specs.Lists.{names_of}
use Rattle.command_params.specs.Params.{first_or_empty}
use Rattle.talk_commands.specs.declared.talk.TalkCommand.{TalkCommand}
use Rattle.talk_commands.specs.declared.talk.TalkCommand.TheVariants as talk
use Rattle.talk_commands.specs.declared.verb.Verb.{Verb}
use Rattle.talk_commands.specs.declared.verb.Verb.TheVariants as verb
use Rattle.talk_commands.specs.Away.{away_answer, goes_away, new_away, away_hearers}
use Rattle.talk_commands.specs.Lines.{Sent, sent_line, verb_text}
use Rattle.talk_commands.specs.Talk.{notice_command, privmsg_command, client_tags, second_or_empty, serves_talk}
use Rattle.talk_commands.specs.Talk.{tagmsg_command}
use Rattle.talk_commands.specs.Talking.{answers, delivers, echoes, keeps, may_speak, names_channel, reaches, sends}
use Rattle.talk_commands.specs.Talking.{tells_away, to_channel, to_one, to_open, to_user}
use Rattle.answer_octets.specs.Clean.{IsClean, IsRelayed, is_no_nul}
use Rattle.answer_octets.proofs.Kept.{take-kept}
use Rattle.answer_octets.proofs.Relayed.{relayed-clients}
use Rattle.clean_records.specs.Clean.{IsChannel, IsServing, IsText}
use Rattle.clean_records.proofs.Asking.{IsCleanRead, first-text, names-texts}
use Rattle.clean_records.proofs.Effects.{Clean, IsTextNumeric, either, from-session, joined}
use Rattle.clean_records.proofs.Effects.{more}
use Rattle.clean_records.proofs.Effects.{none, of_all, only, some_shown, told, told_only}
use Rattle.clean_records.proofs.Lookups.{Facts, away-is, name_of-is, nick-shown}
use Rattle.clean_records.proofs.Texts.{AreTexts, channel-text, one}

-- ---- what is sent

record IsCleanSent (b : Sent) : Type 0 where
  text : IfSome b.text IsText
  tags : IsRelayed b.tags

verb-command : (v : Verb) → is_command (verb_text v) ≡ true
verb-command verb.Privmsg = refl
verb-command verb.Notice = refl
verb-command verb.Tagmsg = refl

verb-short : (v : Verb) → length (verb_text v) ≤ 100
verb-short verb.Privmsg = omega arith
verb-short verb.Notice = omega arith
verb-short verb.Tagmsg = omega arith

text-given : (o : Option (List ℕ)) → IfSome o IsText → AreTexts (option_to_list o)
text-given None is = refl
text-given (Some t) is = one t is

sent-clean : (fs : List Deed) (s : ℕ) (b : Sent) (target : List ℕ) → Facts fs → IsCleanSent b → IsText target
    → IsClean (sent_line b (prefix fs s) target)
sent-clean fs s b target facts is text =
    let line = from-session fs s (verb_text b.verb) (target ∷ option_to_list b.text) (is_some b.text) facts
    (verb-command b.verb) (verb-short b.verb) (and_from _ _ text (text-given b.text is.text)) in
    record {
      source = line.source;
      command = line.command;
      params = line.params;
      tags = is.tags.words;
      clients = is.tags.clients;
      fits = line.fits;
    }

-- ---- PRIVMSG, NOTICE and TAGMSG

answered : (g : Settings) (fs : List Deed) (s : ℕ) (v : Verb) (n : Numeric) → IsServing g → Facts fs
    → IsTextNumeric g n → Clean (answers g fs s v n)
answered g fs s verb.Notice n serves facts is = none
answered g fs s verb.Privmsg n serves facts is = told_only g fs s n serves facts is
answered g fs s verb.Tagmsg n serves facts is = told_only g fs s n serves facts is

echoed : (fs : List Deed) (s : ℕ) (b : Sent) (l : Out) → IsClean l → Clean (echoes fs s b l)
echoed fs s b l is = either (is_on (caps fs s) EchoMessage && reaches fs b s) (Answer l ∷ []) []
    (only (Answer l) is) none

to_an_open_one : (g : Settings) (fs : List Deed) (s : ℕ) (b : Sent) (n : List ℕ) (k : State) → IsServing g → Facts fs
    → IsCleanSent b → IsText n → Clean (to_open g fs s b n k)
to_an_open_one g fs s b n k serves facts sent text =
    let l = sent_line b (prefix fs s) n in
    let is = sent-clean fs s b n facts sent text in
    let show = Show (filter (reaches fs b) (without s k.members)) l in
    either (may_speak k s (prefix fs s)) (show ∷ echoes fs s b l) (answers g fs s b.verb (CannotSendToChan n))
    (more show (echoes fs s b l) is (echoed fs s b l is))
    (answered g fs s b.verb (CannotSendToChan n) serves facts (record { words = one n text; text = refl }))

to_a_channel : (g : Settings) (fs : List Deed) (s : ℕ) (b : Sent) (c : List ℕ) (o : Option (List ℕ)) → IsServing g
    → Facts fs → IsCleanSent b → IsText c → IfSome o IsText → Clean (to_channel g fs s b c o)
to_a_channel g fs s b c None serves facts sent text is = answered g fs s b.verb (NoSuchChannel c) serves facts
    (record { words = one c text; text = refl })
to_a_channel g fs s b c (Some n) serves facts sent text is =
    to_an_open_one g fs s b n (state fs c) serves facts sent is

copied : (fs : List Deed) (s : ℕ) (b : Sent) (l : Out) → IsClean l → Clean (keeps fs s b l)
copied fs s b l is = either (reaches fs b s) (Copy l ∷ []) [] (only (Copy l) is) none

delivered : (fs : List Deed) (s : ℕ) (b : Sent) (t : ℕ) (l : Out) → IsClean l → Clean (delivers fs s b t l)
delivered fs s b t l is =
    let show = Show (filter (reaches fs b) (t ∷ [])) l in
    joined (if t == s then keeps fs s b l else show ∷ []) (echoes fs s b l)
    (either (t == s) (keeps fs s b l) (show ∷ []) (copied fs s b l is) (only show is)) (echoed fs s b l is)

away_told : (g : Settings) (fs : List Deed) (s : ℕ) (v : Verb) (t : ℕ) (text : Option (List ℕ)) → IsServing g
    → Facts fs → IfSome text IsText → Clean (tells_away g fs s v t text)
away_told g fs s verb.Privmsg t (Some text) serves facts is = told_only g fs s (IsAway (title (nick fs t)) text) serves
    facts (record { words = one (title (nick fs t)) (nick-shown fs t facts); text = is })
away_told g fs s verb.Privmsg t None serves facts is = none
away_told g fs s verb.Notice t text serves facts is = none
away_told g fs s verb.Tagmsg t text serves facts is = none

to_a_user : (g : Settings) (fs : List Deed) (s : ℕ) (b : Sent) (n : List ℕ) (o : Option ℕ) → IsServing g → Facts fs
    → IsCleanSent b → IsText n → Clean (to_user g fs s b n o)
to_a_user g fs s b n None serves facts sent text = answered g fs s b.verb (NoSuchNick n) serves facts
    (record { words = one n text; text = refl })
to_a_user g fs s b n (Some t) serves facts sent text =
    let to = title (nick fs t) in
    let l = sent_line b (prefix fs s) to in
    joined (delivers fs s b t l) (tells_away g fs s b.verb t (away fs t))
    (delivered fs s b t l (sent-clean fs s b to facts sent (nick-shown fs t facts)))
    (away_told g fs s b.verb t (away fs t) serves facts (away-is fs t facts))

named-text : (o : Option (List ℕ)) → IfSome o IsChannel → IfSome o IsText
named-text None is = tt
named-text (Some n) is = channel-text n is

to_a_target : (g : Settings) (fs : List Deed) (s : ℕ) (b : Sent) → IsServing g → Facts fs → IsCleanSent b
    → (target : List ℕ) → IsText target → Clean (to_one g fs s b target)
to_a_target g fs s b serves facts sent target text =
    either (names_channel target) (to_channel g fs s b target (name_of fs target))
    (to_user g fs s b target (user_named fs target))
    (to_a_channel g fs s b target (name_of fs target) serves facts sent text (named-text (name_of fs target)
    (name_of-is fs target facts)))
    (to_a_user g fs s b target (user_named fs target) serves facts sent text)

place-text : (ts : List (List ℕ)) (n : ℕ) → AllByRecursion IsText ts → IsText (slice_index_or ts n [])
place-text [] n are = refl
place-text (t ∷ ts) zero are = are.0
place-text (t ∷ ts) (suc n) are = place-text ts n are.1

sending : (g : Settings) (fs : List Deed) (s : ℕ) (b : Sent) (targets : List (List ℕ)) → IsServing g → Facts fs
    → IsCleanSent b → AllByRecursion IsText targets → Clean (sends g fs s b targets)
sending g fs s b targets serves facts sent are =
    let fifth = slice_index_or targets 4 [] in
    either (nat_lt 4 (length targets)) (answers g fs s b.verb (TooManyTargets fifth))
    (flat_map (to_one g fs s b) targets)
    (answered g fs s b.verb (TooManyTargets fifth) serves facts
    (record { words = one fifth (place-text targets 4 are); text = refl }))
    (of_all IsText (to_one g fs s b) (to_a_target g fs s b serves facts sent) targets are)

-- ---- AWAY

change-clean : (fs : List Deed) (s : ℕ) (text : Option (List ℕ)) → Facts fs → IfSome text IsText
    → IsClean (away_line (prefix fs s) text)
change-clean fs s None facts is = from-session fs s (codes "AWAY") [] false facts refl (omega arith) refl
change-clean fs s (Some text) facts is = from-session fs s (codes "AWAY") (text ∷ []) true facts refl (omega arith)
    (one text is)

kept-text : (text : List ℕ) → IsText text → IfSome (new_away text) IsText
kept-text text is = cond_both (length text == 0) None _ (λ o. IfSome o IsText) (λ _. tt)
    (λ _. take-kept is_text_octet 200 text is)

answer-text : (g : Settings) (text : Option (List ℕ)) → IsTextNumeric g (away_answer text)
answer-text g None = record { words = refl; text = refl }
answer-text g (Some text) = record { words = refl; text = refl }

going_away : (g : Settings) (fs : List Deed) (s : ℕ) (text : List ℕ) → IsServing g → Facts fs → IsText text
    → Clean (goes_away g fs s text)
going_away g fs s text serves facts is =
    let now = new_away text in
    let answer = tells g fs s (away_answer now) in
    let news = shows_to (away_hearers fs s now) (away_line (prefix fs s) now) in
    more (Establish (AwaySet s now)) (answer ∷ news) (kept-text text is)
    (more answer news (told g fs s (away_answer now) serves facts (answer-text g now))
    (some_shown (away_hearers fs s now) (away_line (prefix fs s) now)
    (change-clean fs s now facts (kept-text text is))))

-- ---- what is read

pub record IsCleanTalk (names : List (List ℕ)) (words : Option (List ℕ)) (passed : List ℕ) : Type 0 where
  pub targets : AllByRecursion IsText names
  pub text : IfSome words IsText
  pub tags : IsRelayed passed

abbrev pub IsCleanCommand : TalkCommand → Type 0
IsCleanCommand (talk.Send v targets text tags) = IsCleanTalk targets text tags
IsCleanCommand (talk.Away text) = IsText text

abbrev IsReadTalk : Result TalkCommand ReadFault → Type 0
IsReadTalk read = IsCleanRead IsCleanCommand read

word-no_nul : (bs : List ℕ) → list_all is_word_octet bs ≡ true → list_all is_no_nul bs ≡ true
word-no_nul [] words = refl
word-no_nul (b ∷ bs) words =
    let parts = and_parts _ _ words in
    and_from _ _ (and_parts _ _ (and_parts _ _ parts.0).1).0 (word-no_nul bs parts.1)

relayed-is : (tags : List ℕ) → list_all is_word_octet tags ≡ true → IsRelayed (client_tags tags)
relayed-is tags words = relayed-clients tags (word-no_nul tags words)

second-text : (ps : List (List ℕ)) → AreTexts ps → IsText (second_or_empty ps)
second-text [] are = refl
second-text (p ∷ ps) are = first-text ps (and_parts _ _ are).1

sent-read : (tags : List ℕ) (ps : List (List ℕ)) → list_all is_word_octet tags ≡ true → AreTexts ps
    → IsCleanTalk (names_of (first_or_empty ps)) (Some (second_or_empty ps)) (client_tags tags)
sent-read tags ps words are = record {
  targets = names-texts (first_or_empty ps) (first-text ps are);
  text = second-text ps are;
  tags = relayed-is tags words;
}

pub reads_privmsg : (tags : List ℕ) (ps : List (List ℕ)) → list_all is_word_octet tags ≡ true → AreTexts ps
    → IsReadTalk (privmsg_command tags ps)
reads_privmsg tags ps words are =
    cond_both (is_empty (first_or_empty ps)) _ _ IsReadTalk (λ _. tt)
    (λ _. cond_both (is_empty (second_or_empty ps)) _ _ IsReadTalk (λ _. tt) (λ _. sent-read tags ps words are))

pub reads_notice : (tags : List ℕ) (ps : List (List ℕ)) → list_all is_word_octet tags ≡ true → AreTexts ps
    → IsReadTalk (notice_command tags ps)
reads_notice tags ps words are =
    cond_both (is_empty (first_or_empty ps) || is_empty (second_or_empty ps)) _ _ IsReadTalk
    (λ _. record { targets = tt; text = refl; tags = record { words = refl; clients = refl } })
    (λ _. sent-read tags ps words are)

pub reads_tagmsg : (tags : List ℕ) (ps : List (List ℕ)) → list_all is_word_octet tags ≡ true → AreTexts ps
    → IsReadTalk (tagmsg_command tags ps)
reads_tagmsg tags ps words are =
    cond_both (is_empty (first_or_empty ps)) _ _ IsReadTalk (λ _. tt)
    (λ _. record {
      targets = names-texts (first_or_empty ps) (first-text ps are);
      text = tt;
      tags = relayed-is tags words;
    })

-- ---- what each does

pub of_talk : (g : Settings) (fs : List Deed) (s : ℕ) (k : TalkCommand) → IsServing g → Facts fs → IsCleanCommand k
    → Clean (serves_talk g fs s k)
of_talk g fs s (talk.Send v targets text tags) serves facts is = sending g fs s
    (record { verb = v; text = text; tags = tags }) targets serves facts
    (record { text = is.text; tags = is.tags }) is.targets
of_talk g fs s (talk.Away text) serves facts is = going_away g fs s text serves facts is
