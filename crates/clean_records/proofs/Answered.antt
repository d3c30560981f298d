-- The lines of a record with their tags are clean, and so is their text.
use Rattle.std.proofs.Common.{◌≡◌, ℕ, ◌<◌, ◌^◌, ◌==◌, ℤ, List, map, Option, Some}
use Rattle.std.proofs.Common.{None, refl}
use Rattle.std.specs.List.{All}
use Rattle.std.proofs.lemmas.Bool.{cond_both}
use Rattle.std.proofs.lemmas.List.Elements.{All-append}
use Rattle.chronicle.specs.declared.record.Kind.{Kind}
use Rattle.chronicle.specs.declared.record.Kind.TheVariants as kind
use Rattle.chronicle.specs.History.{Rec, actor}
use Rattle.registration.specs.declared.settings.Settings.{Settings}
use Rattle.labels_batches.specs.Answers.{whole_answer, tagged_as}
use Rattle.roster.specs.declared.deed.Deed.{Deed}
use Rattle.roster.specs.LookBack.{caps}
use Rattle.transactions.specs.Effects.{copies, due, reply}
use Rattle.deeds.specs.Deeds.{effects, facts, label_in, lines}
use Rattle.answer_octets.specs.Clean.{IsCleanTagged, IsMoment, IsTagText}
use Rattle.answer_octets.proofs.Answers.{clean, lines-cut, tagged-clean}
use Rattle.answer_octets.proofs.Counted.{counted-text}
use Rattle.answer_octets.proofs.Names.{settings-server}
use Rattle.clean_records.specs.Clean.{IsCleanHistory, IsCleanKind, IsServing}
use Rattle.clean_records.specs.Laws.{AnswersAreClean, TextsAreCut}
use Rattle.clean_records.proofs.Histories.{lines-clean}

label-text : (fs : List Deed) (k : Kind) (label : List ℕ) → label_in fs k ≡ Some label → IsTagText label
label-text fs (kind.Opened s host) label e = absurd (cc)
label-text fs (kind.Said s i piece) label e = counted-text (caps fs s) piece label e
label-text fs (kind.Hung s why) label e = absurd (cc)
label-text fs (kind.Gone s) label e = absurd (cc)
label-text fs kind.Ticked label e = absurd (cc)

pub answers : AnswersAreClean
answers g h k m n label serves are is moment small counted =
    let all = lines-clean g h k serves are is in
    record {
      moment = moment;
      server_is = settings-server g serves.set;
      number = small;
      label_is = label-text (facts g h) k label counted;
      reply_is = all.reply_is (actor k);
      copies_are = all.copies_are;
    }

own-lines : (g : Settings) (h : List Rec) (k : Kind) (m : ℤ) (n : ℕ) (o : Option (List ℕ)) → IsServing g
    → IsCleanHistory h → IsCleanKind k → IsMoment m → n < 2 ^ 64 → label_in (facts g h) k ≡ o
    → All IsCleanTagged (whole_answer g.server o n (reply (actor k) (effects g (facts g h) k))
    (copies (effects g (facts g h) k)))
own-lines g h k m n None serves are is moment small e =
    let es = effects g (facts g h) k in let all = lines-clean g h k serves are is in
    All-append IsCleanTagged (map (tagged_as None) (reply (actor k) es)) (map (tagged_as None) (copies es))
    (tagged-clean None tt (reply (actor k) es) (all.reply_is (actor k)))
    (tagged-clean None tt (copies es) all.copies_are)
own-lines g h k m n (Some label) serves are is moment small e =
    let es = effects g (facts g h) k in
    clean m g.server label n (reply (actor k) es) (copies es) (answers g h k m n label serves are is moment small e)

all-lines : (g : Settings) (h : List Rec) (k : Kind) (m : ℤ) (n t : ℕ) → IsServing g → IsCleanHistory h
    → IsCleanKind k → IsMoment m → n < 2 ^ 64
    → All IsCleanTagged (lines g (actor k) (label_in (facts g h) k) (effects g (facts g h) k) n t)
all-lines g h k m n t serves are is moment small =
    let es = effects g (facts g h) k in let o = label_in (facts g h) k in
    cond_both (actor k == t) (whole_answer g.server o n (reply (actor k) es) (copies es))
    (map (tagged_as None) (due es t))
    (All IsCleanTagged) (λ _. own-lines g h k m n o serves are is moment small refl)
    (λ _. tagged-clean None tt (due es t) ((lines-clean g h k serves are is).shown_are t))

pub texts : TextsAreCut
texts g h k m n t serves are is moment small =
    lines-cut (caps (facts g h) t) m (lines g (actor k) (label_in (facts g h) k) (effects g (facts g h) k) n t) moment
    (all-lines g h k m n t serves are is moment small)
