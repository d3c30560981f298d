-- What the effects of any record show, and to whom.
use Rattle.std.proofs.Common.{◌≡◌, ◌≢◌, ℕ, true, false, not, ◌&&◌, ◌==◌, List, [], ◌∷◌}
use Rattle.std.proofs.Common.{codes, map, filter, Option, Some, None, refl, sym, ◌∙◌, arith}
use Rattle.std.specs.List.{All}
use Rattle.std.proofs.lemmas.List.Elements.{All-cons, All-append}
use Rattle.std.proofs.lemmas.Slice.Eq.{bytes_eq-Decides}
use Rattle.chronicle.specs.declared.record.Kind.TheVariants as kind
use Rattle.numerics.specs.declared.numeric.Numeric.{Numeric}
use Rattle.numerics.specs.declared.numeric.Numeric.TheVariants as numeric
use Rattle.numerics.specs.declared.outgoing.Out.{Out}
use Rattle.registration.specs.declared.settings.Settings.{Settings}
use Rattle.roster.specs.declared.deed.Deed.{Deed}
use Rattle.roster.specs.declared.deed.Deed.TheVariants as deed
use Rattle.roster.specs.LookBack.{after, opened_in, registered}
use Rattle.commands.specs.Asked.{asked_of}
use Rattle.commands.specs.declared.asked.Asked.{Asked}
use Rattle.commands.specs.declared.asked.Asked.TheVariants.{Nothing, TooLong, Command as Asks, Fault as Fails}
use Rattle.commands.specs.declared.command.Command.{Command}
use Rattle.commands.specs.declared.command.Command.TheVariants.{Session, Channel, Mode, Talk, Query}
use Rattle.session_commands.specs.declared.session.SessionCommand.{SessionCommand}
use Rattle.session_commands.specs.declared.session.SessionCommand.TheVariants as session
use Rattle.channel_commands.specs.declared.channel.ChannelCommand.{ChannelCommand}
use Rattle.channel_commands.specs.declared.channel.ChannelCommand.TheVariants as channel
use Rattle.talk_commands.specs.declared.talk.TalkCommand.{TalkCommand}
use Rattle.talk_commands.specs.declared.talk.TalkCommand.TheVariants as talk
use Rattle.query_commands.specs.Query.{told as query_told}
use Rattle.session_commands.specs.Session.{serves_session}
use Rattle.channel_commands.specs.Channel.{serves_channel}
use Rattle.talk_commands.specs.Talk.{serves_talk}
use Rattle.transactions.specs.declared.effect.Effect.{Effect}
use Rattle.transactions.specs.declared.effect.Effect.TheVariants.{Establish, Answer, Show, Copy}
use Rattle.transactions.specs.Effects.{deeds_of, reply_lines, reply}
use Rattle.transactions.specs.Lines.{pong_line}
use Rattle.transactions.specs.Replies.{tells}
use Rattle.deeds.specs.Departure.{departs}
use Rattle.session_commands.specs.Registration.{if_ready}
use Rattle.deeds.specs.Rows.{if_allowed, fault_numeric, is_for_registered, is_silent}
use Rattle.deeds.specs.Rows.{of_asked, of_command, tells_fault, by_itself, turned_away}
use Rattle.record_laws.specs.Laws.{AllShowOnce, HearersStandOnce, IsEachOnce}
use Rattle.record_laws.specs.Laws.{NoLineOpensABatch, RecordsOpenNoOthers, ShowsOnce}
use Rattle.record_laws.proofs.Once.{once-sharers}
use Rattle.record_laws.proofs.Fits.{AllFit, Fit, Fits, either, is_batch, joined, more, none}
use Rattle.record_laws.proofs.Fits.{only, opens_session, told_all, told_only}
use Rattle.record_laws.proofs.Sessions.{authenticating, completing, introducing}
use Rattle.record_laws.proofs.Sessions.{negotiating, passing, quitting, taking_nick}
use Rattle.record_laws.proofs.Channels.{inviting, joining, kicking, moding, parting, topic}
use Rattle.record_laws.proofs.Talks.{gone_away, sent}

of_session : (g : Settings) (fs : List Deed) (s : ℕ) (k : SessionCommand) → IsEachOnce (opened_in fs)
    → Fit (serves_session g fs s k)
of_session g fs s (session.Cap subcommand) once = negotiating g fs s subcommand
of_session g fs s (session.Authenticate piece) once = authenticating g fs s piece
of_session g fs s session.Pass once = passing g fs s
of_session g fs s (session.Nick n) once = taking_nick g fs s n once
of_session g fs s (session.User u r) once = introducing g fs s u r
of_session g fs s (session.Ping token) once = only (Answer (pong_line g.server token)) refl
of_session g fs s session.Pong once = none
of_session g fs s (session.Quit text) once = quitting s text

of_channel : (g : Settings) (fs : List Deed) (s : ℕ) (k : ChannelCommand) → Fit (serves_channel g fs s k)
of_channel g fs s (channel.Join targets) = joining g fs s targets
of_channel g fs s (channel.Part channels text) = parting g fs s channels text
of_channel g fs s (channel.Kick channel nicks text) = kicking g fs s channel nicks text
of_channel g fs s (channel.Invite nick channel) = inviting g fs s nick channel
of_channel g fs s (channel.Topic channel text) = topic g fs s channel text

of_talk : (g : Settings) (fs : List Deed) (s : ℕ) (k : TalkCommand) → IsEachOnce (opened_in fs)
    → Fit (serves_talk g fs s k)
of_talk g fs s (talk.Send v targets text tags) once = sent g fs s
    (record { verb = v; text = text; tags = tags }) targets
of_talk g fs s (talk.Away text) once = gone_away g fs s text once

-- a query does nothing but tell, whatever it tells
serving : (g : Settings) (fs : List Deed) (s : ℕ) (k : Command) → IsEachOnce (opened_in fs) → Fit (by_itself g fs s k)
serving g fs s (Session k) once = of_session g fs s k once
serving g fs s (Channel k) once = of_channel g fs s k
serving g fs s (Mode k) once = moding g fs s k.target k.changes
serving g fs s (Talk k) once = of_talk g fs s k once
serving g fs s (Query k) once = told_all g fs s (query_told g fs s k)

turning_away : (g : Settings) (fs : List Deed) (s : ℕ) (k : Command) → Fit (turned_away g fs s k)
turning_away g fs s k = either (is_silent k) [] (tells g fs s numeric.NotRegistered ∷ []) none
    (told_only g fs s numeric.NotRegistered)

asking : (g : Settings) (fs : List Deed) (s : ℕ) (k : Command) → IsEachOnce (opened_in fs) → Fit (if_allowed g fs s k)
asking g fs s k once = either (is_for_registered k && not (registered fs s)) (turned_away g fs s k)
    (by_itself g fs s k) (turning_away g fs s k) (serving g fs s k once)

commanding : (g : Settings) (fs : List Deed) (s : ℕ) (k : Command) → IsEachOnce (opened_in fs)
    → Fit (of_command g fs s k)
commanding g fs s k once = let later = after fs (deeds_of (if_allowed g fs s k)) in
    joined (if_allowed g fs s k) (if_ready g later s) (asking g fs s k once) (completing g later s)

refusing : (g : Settings) (fs : List Deed) (s : ℕ) (o : Option Numeric) → Fit (tells_fault g fs s o)
refusing g fs s None = none
refusing g fs s (Some n) = told_only g fs s n

of_any : (g : Settings) (fs : List Deed) (s : ℕ) (a : Asked) → IsEachOnce (opened_in fs) → Fit (of_asked g fs s a)
of_any g fs s Nothing once = none
of_any g fs s TooLong once = told_only g fs s numeric.InputTooLong
of_any g fs s (Asks k) once = commanding g fs s k once
of_any g fs s (Fails f) once = refusing g fs s (fault_numeric f)

departing : (fs : List Deed) (s : ℕ) → IsEachOnce (opened_in fs) → Fit (departs fs s)
departing fs s once = let d = Establish (deed.Gone s) in more _ (d ∷ []) (once-sharers fs s once, refl) (only d refl)

-- ---- what the laws say

shows_once : (e : Effect) → Fits e → ShowsOnce e
shows_once (Establish d) f = tt
shows_once (Answer l) f = tt
shows_once (Show hearers l) f = f.0
shows_once (Copy l) f = tt

all_show_once : (es : List Effect) → AllFit es → AllShowOnce es
all_show_once [] f = λ k d below. absurd (omega arith)
all_show_once (e ∷ es) f = All-cons ShowsOnce e es (shows_once e f.0) (all_show_once es f.1)

pub hearers-once : HearersStandOnce
hearers-once g fs (kind.Opened s host) once = All-cons ShowsOnce (Establish (deed.Opened s host)) [] tt
    (all_show_once [] tt)
hearers-once g fs (kind.Said s i piece) once = all_show_once (of_asked g fs s (asked_of piece))
    (of_any g fs s (asked_of piece) once).all
hearers-once g fs (kind.Hung s why) once = all_show_once (Establish (deed.Ended s why []) ∷ []) (refl, tt)
hearers-once g fs (kind.Gone s) once = all_show_once (departs fs s) (departing fs s once).all
hearers-once g fs kind.Ticked once = all_show_once [] tt

-- ---- no line is a BATCH

abbrev IsNoBatch : Out → Type 0
IsNoBatch l = l.command ≢ codes "BATCH"

no_batch : (l : Out) → is_batch l ≡ false → IsNoBatch l
no_batch l f e = let yes : is_batch l ≡ true = (bytes_eq-Decides l.command (codes "BATCH")).1 e in
    let g : true ≡ false = sym yes ∙ f in absurd (cc)

all_none : All IsNoBatch []
all_none = λ k d below. absurd (omega arith)

as_often : (l : Out) (hs : List ℕ) → IsNoBatch l → All IsNoBatch (map (λ (h : ℕ). l) hs)
as_often l [] p = all_none
as_often l (h ∷ hs) p = All-cons IsNoBatch l (map (λ (h : ℕ). l) hs) p (as_often l hs p)

replying : (s : ℕ) (e : Effect) → Fits e → All IsNoBatch (reply_lines s e)
replying s (Establish d) f = all_none
replying s (Answer l) f = All-cons IsNoBatch l [] (no_batch l f) all_none
replying s (Show hearers l) f = as_often l (filter (λ h. h == s) hearers) (no_batch l f.1)
replying s (Copy l) f = all_none

all_replying : (s : ℕ) (es : List Effect) → AllFit es → All IsNoBatch (reply s es)
all_replying s [] f = all_none
all_replying s (e ∷ es) f =
    All-append IsNoBatch (reply_lines s e) (reply s es) (replying s e f.0) (all_replying s es f.1)

pub no-line-opens-a-batch : NoLineOpensABatch
no-line-opens-a-batch g fs s a once = all_replying s (of_asked g fs s a) (of_any g fs s a once).all

-- ---- no session is opened

one_kept : (d : Deed) (fs : List Deed) → opens_session d ≡ false → opened_in (d ∷ fs) ≡ opened_in fs
one_kept (deed.Opened t h) fs shut = absurd (let e : true ≡ false = shut in cc)
one_kept _ fs shut = refl

all_kept : (es : List Effect) (fs : List Deed) → AllFit es → opened_in (after fs (deeds_of es)) ≡ opened_in fs
all_kept [] fs f = refl
all_kept (Establish d ∷ es) fs f = all_kept es (d ∷ fs) f.1 ∙ one_kept d fs f.0
all_kept (Answer l ∷ es) fs f = all_kept es fs f.1
all_kept (Show hearers l ∷ es) fs f = all_kept es fs f.1
all_kept (Copy l ∷ es) fs f = all_kept es fs f.1

pub opens-no-others : RecordsOpenNoOthers
opens-no-others g fs (kind.Opened s host) once shut = absurd (let e : true ≡ false = shut in cc)
opens-no-others g fs (kind.Said s i piece) once shut = all_kept (of_asked g fs s (asked_of piece)) fs
    (of_any g fs s (asked_of piece) once).all
opens-no-others g fs (kind.Hung s why) once shut = refl
opens-no-others g fs (kind.Gone s) once shut = all_kept (departs fs s) fs (departing fs s once).all
opens-no-others g fs kind.Ticked once shut = refl
