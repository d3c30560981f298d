-- What PRIVMSG, NOTICE, TAGMSG and AWAY show, and to whom.
use Rattle.std.proofs.Common.{◌≡◌, ℕ, true, false, ◌&&◌, ◌==◌, nat_lt, List, [], ◌∷◌}
use Rattle.std.proofs.Common.{codes, cond, filter, length, slice_index_or, Option, Some, None, refl}
use Rattle.std.specs.Bool.{if◌then◌else◌}
use Rattle.std.specs.List.{flat_map}
use Rattle.std.specs.Str.{bytes_eq}
use Rattle.channel_state.specs.State.{State, without}
use Rattle.numerics.specs.declared.numeric.Numeric.{Numeric}
use Rattle.numerics.specs.declared.numeric.Numeric.TheVariants.{Away, CannotSendToChan, NoSuchChannel}
use Rattle.numerics.specs.declared.numeric.Numeric.TheVariants.{NoSuchNick, TooManyTargets}
use Rattle.numerics.specs.declared.outgoing.Out.{Out}
use Rattle.registration.specs.declared.caps.Cap.TheVariants.{AwayNotify, EchoMessage}
use Rattle.registration.specs.declared.settings.Settings.{Settings}
use Rattle.registration.specs.Caps.{is_on}
use Rattle.roster.specs.declared.deed.Deed.{Deed}
use Rattle.roster.specs.declared.deed.Deed.TheVariants.{AwaySet}
use Rattle.roster.specs.LookBack.{away, caps, user_named, name_of, nick, opened_in, sharers, state}
use Rattle.transactions.specs.declared.effect.Effect.TheVariants.{Establish, Answer, Show, Copy}
use Rattle.transactions.specs.Hearers.{shows_to, takes}
use Rattle.transactions.specs.Lines.{away_line, prefix, title}
use Rattle.transactions.specs.Replies.{tells}
use Rattle.talk_commands.specs.declared.verb.Verb.{Verb}
use Rattle.talk_commands.specs.declared.verb.Verb.TheVariants.{Privmsg, Notice, Tagmsg}
use Rattle.talk_commands.specs.Lines.{Sent, sent_line, verb_text}
use Rattle.talk_commands.specs.Talking.{answers, delivers, echoes, keeps, may_speak, names_channel, reaches, sends}
use Rattle.talk_commands.specs.Talking.{shows, tells_away, to_channel, to_one, to_open, to_user}
use Rattle.talk_commands.specs.Away.{away_answer, goes_away, is_same_text, new_away, away_hearers}
use Rattle.record_laws.specs.Laws.{IsEachOnce}
use Rattle.roster.proofs.OnceLaws.{eq, distinct-none, distinct-one, members_once}
use Rattle.record_laws.proofs.Once.{once-filter, once-sharers, once-without}
use Rattle.record_laws.proofs.Fits.{Fit, either, is_batch, joined, more, none}
use Rattle.record_laws.proofs.Fits.{of_all, only, some_shown, told, told_only}

verb_plain : (v : Verb) → bytes_eq (verb_text v) (codes "BATCH") ≡ false
verb_plain Privmsg = refl
verb_plain Notice = refl
verb_plain Tagmsg = refl

sent_plain : (b : Sent) (from target : List ℕ) → is_batch (sent_line b from target) ≡ false
sent_plain b from target = verb_plain b.verb

answered : (g : Settings) (fs : List Deed) (s : ℕ) (v : Verb) (n : Numeric) → Fit (answers g fs s v n)
answered g fs s Notice n = none
answered g fs s Privmsg n = told_only g fs s n
answered g fs s Tagmsg n = told_only g fs s n

echoed : (fs : List Deed) (s : ℕ) (b : Sent) (l : Out) → is_batch l ≡ false → Fit (echoes fs s b l)
echoed fs s b l p = either (is_on (caps fs s) EchoMessage && reaches fs b s) (Answer l ∷ []) []
    (only (Answer l) p) none

shown_others : (fs : List Deed) (s : ℕ) (b : Sent) (members : List ℕ) (l : Out) → IsEachOnce members
    → is_batch l ≡ false → Fit (shows fs s b members l)
shown_others fs s b members l once p =
    more (Show (filter (reaches fs b) (without s members)) l) (echoes fs s b l)
    (once-filter (reaches fs b) (without s members) (once-without s members once), p) (echoed fs s b l p)

to_an_open_one : (g : Settings) (fs : List Deed) (s : ℕ) (b : Sent) (n : List ℕ) (k : State) → IsEachOnce k.members
    → Fit (to_open g fs s b n k)
to_an_open_one g fs s b n k once =
    let l = sent_line b (prefix fs s) n in
    either (may_speak k s (prefix fs s)) (shows fs s b k.members l) (answers g fs s b.verb (CannotSendToChan n))
    (shown_others fs s b k.members l once (sent_plain b (prefix fs s) n))
    (answered g fs s b.verb (CannotSendToChan n))

to_a_channel : (g : Settings) (fs : List Deed) (s : ℕ) (b : Sent) (c : List ℕ) (o : Option (List ℕ))
    → Fit (to_channel g fs s b c o)
to_a_channel g fs s b c None = answered g fs s b.verb (NoSuchChannel c)
to_a_channel g fs s b c (Some n) = to_an_open_one g fs s b n (state fs c) (members_once fs c)

copied : (fs : List Deed) (s : ℕ) (b : Sent) (l : Out) → is_batch l ≡ false → Fit (keeps fs s b l)
copied fs s b l p = either (reaches fs b s) (Copy l ∷ []) [] (only (Copy l) p) none

delivered : (fs : List Deed) (s : ℕ) (b : Sent) (t : ℕ) (l : Out) → is_batch l ≡ false → Fit (delivers fs s b t l)
delivered fs s b t l p =
    let show = Show (filter (reaches fs b) (t ∷ [])) l in
    let one = only show (once-filter (reaches fs b) (t ∷ []) (distinct-one eq t), p) in
    joined (if t == s then keeps fs s b l else show ∷ []) (echoes fs s b l)
    (either (t == s) (keeps fs s b l) (show ∷ []) (copied fs s b l p) one) (echoed fs s b l p)

away_told : (g : Settings) (fs : List Deed) (s : ℕ) (v : Verb) (t : ℕ) (text : Option (List ℕ))
    → Fit (tells_away g fs s v t text)
away_told g fs s Privmsg t (Some text) = told_only g fs s (Away (title (nick fs t)) text)
away_told g fs s Privmsg t None = none
away_told g fs s Notice t text = none
away_told g fs s Tagmsg t text = none

to_a_user : (g : Settings) (fs : List Deed) (s : ℕ) (b : Sent) (n : List ℕ) (o : Option ℕ) → Fit (to_user g fs s b n o)
to_a_user g fs s b n None = answered g fs s b.verb (NoSuchNick n)
to_a_user g fs s b n (Some t) =
    let l = sent_line b (prefix fs s) (title (nick fs t)) in
    joined (delivers fs s b t l) (tells_away g fs s b.verb t (away fs t)) (delivered fs s b t l
    (sent_plain b (prefix fs s) (title (nick fs t)))) (away_told g fs s b.verb t (away fs t))

to_a_target : (g : Settings) (fs : List Deed) (s : ℕ) (b : Sent) (target : List ℕ) → Fit (to_one g fs s b target)
to_a_target g fs s b target =
    either (names_channel target) (to_channel g fs s b target (name_of fs target))
    (to_user g fs s b target (user_named fs target)) (to_a_channel g fs s b target (name_of fs target))
    (to_a_user g fs s b target (user_named fs target))

pub sent : (g : Settings) (fs : List Deed) (s : ℕ) (b : Sent) (targets : List (List ℕ)) → Fit (sends g fs s b targets)
sent g fs s b targets =
    let fifth = TooManyTargets (slice_index_or targets 4 []) in
    either (nat_lt 4 (length targets)) (answers g fs s b.verb fifth) (flat_map (to_one g fs s b) targets)
    (answered g fs s b.verb fifth) (of_all (to_one g fs s b) (to_a_target g fs s b) targets)

change_plain : (from : List ℕ) (text : Option (List ℕ)) → is_batch (away_line from text) ≡ false
change_plain from None = refl
change_plain from (Some text) = refl

notified_once : (fs : List Deed) (s : ℕ) (text : Option (List ℕ)) → IsEachOnce (opened_in fs)
    → IsEachOnce (away_hearers fs s text)
notified_once fs s text once =
    elim (is_same_text (away fs s) text) as
    (λ b. IsEachOnce (cond b [] (filter (takes fs AwayNotify) (sharers fs s)))) [
      | true ↦ distinct-none eq
      | false ↦ once-filter (takes fs AwayNotify) (sharers fs s) (once-sharers fs s once)
    ]

pub gone_away : (g : Settings) (fs : List Deed) (s : ℕ) (text : List ℕ) → IsEachOnce (opened_in fs)
    → Fit (goes_away g fs s text)
gone_away g fs s text once =
    let now = new_away text in
    let answer = tells g fs s (away_answer now) in
    let news = shows_to (away_hearers fs s now) (away_line (prefix fs s) now) in
    more (Establish (AwaySet s now)) (answer ∷ news) refl
    (more answer news (told g fs s (away_answer now)) (some_shown (away_hearers fs s now)
    (away_line (prefix fs s) now) (notified_once fs s now once) (change_plain (prefix fs s) now)))
