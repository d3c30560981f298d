-- Over any history: its facts are clean, and so is each line of the record that comes next.
use Rattle.std.proofs.Common.{ℕ, ◌==◌, false, List, [], ◌∷◌, codes, filter, map, refl, arith}
use Rattle.std.specs.List.{All, AllByRecursion}
use Rattle.std.proofs.lemmas.List.Elements.{All-append, All-cons, All-nil, recursion_from_All}
use Rattle.chronicle.specs.History.{Rec}
use Rattle.numerics.specs.declared.outgoing.Out.{Out}
use Rattle.registration.specs.declared.settings.Settings.{Settings}
use Rattle.transactions.specs.declared.effect.Effect.{Effect}
use Rattle.transactions.specs.declared.effect.Effect.TheVariants.{Establish, Answer, Show, Copy}
use Rattle.transactions.specs.Effects.{copy_lines, copies, due, lines_heard, reply_lines, reply, shown_by}
use Rattle.deeds.specs.Deeds.{effects, facts}
use Rattle.answer_octets.specs.Clean.{IsClean}
use Rattle.answer_octets.proofs.Blocks.{word-text}
use Rattle.answer_octets.proofs.Names.{settings-server}
use Rattle.clean_records.specs.Clean.{AreCleanLines, IsCleanEffect, IsCleanKind, IsServing}
use Rattle.clean_records.specs.Laws.{FactsAreClean, LinesAreClean, PingIsClean}
use Rattle.clean_records.proofs.Effects.{Clean, clean-facts, from-server, later}
use Rattle.clean_records.proofs.Lookups.{Facts}
use Rattle.clean_records.proofs.Rows.{of_record}
use Rattle.clean_records.proofs.Texts.{one}

-- ---- facts

all-facts : (g : Settings) (h : List Rec) → IsServing g → AllByRecursion (λ r. IsCleanKind r.kind) h
    → Facts (facts g h)
all-facts g [] serves are = record { all = tt }
all-facts g (r ∷ h) serves are =
    let before = all-facts g h serves are.1 in
    later (effects g (facts g h) r.kind) (facts g h) (of_record g (facts g h) r.kind serves before are.0) before

pub facts-clean : FactsAreClean
facts-clean g h serves are =
    clean-facts (facts g h) (all-facts g h serves (recursion_from_All (λ r. IsCleanKind r.kind) h are))

-- ---- lines

as-often : (l : Out) (hs : List ℕ) → IsClean l → All IsClean (map (λ (h : ℕ). l) hs)
as-often l [] is = All-nil IsClean
as-often l (h ∷ hs) is = All-cons IsClean l (map (λ (h : ℕ). l) hs) is (as-often l hs is)

heard-clean : (hearers : List ℕ) (l : Out) (t : ℕ) → IsClean l → All IsClean (lines_heard hearers l t)
heard-clean hearers l t is = as-often l (filter (λ h. h == t) hearers) is

just : (l : Out) → IsClean l → All IsClean (l ∷ [])
just l is = All-cons IsClean l [] is (All-nil IsClean)

replied-clean : (s : ℕ) (e : Effect) → IsCleanEffect e → All IsClean (reply_lines s e)
replied-clean s (Establish d) is = All-nil IsClean
replied-clean s (Answer l) is = just l is
replied-clean s (Show hearers l) is = heard-clean hearers l s is
replied-clean s (Copy l) is = All-nil IsClean

reply-clean : (s : ℕ) (es : List Effect) → AllByRecursion IsCleanEffect es → All IsClean (reply s es)
reply-clean s [] are = All-nil IsClean
reply-clean s (e ∷ es) are =
    All-append IsClean (reply_lines s e) (reply s es) (replied-clean s e are.0) (reply-clean s es are.1)

copied-clean : (e : Effect) → IsCleanEffect e → All IsClean (copy_lines e)
copied-clean (Establish d) is = All-nil IsClean
copied-clean (Answer l) is = All-nil IsClean
copied-clean (Show hearers l) is = All-nil IsClean
copied-clean (Copy l) is = just l is

copies-clean : (es : List Effect) → AllByRecursion IsCleanEffect es → All IsClean (copies es)
copies-clean [] are = All-nil IsClean
copies-clean (e ∷ es) are =
    All-append IsClean (copy_lines e) (copies es) (copied-clean e are.0) (copies-clean es are.1)

shown-clean : (e : Effect) (t : ℕ) → IsCleanEffect e → All IsClean (shown_by e t)
shown-clean (Establish d) t is = All-nil IsClean
shown-clean (Answer l) t is = All-nil IsClean
shown-clean (Show hearers l) t is = heard-clean hearers l t is
shown-clean (Copy l) t is = All-nil IsClean

due-clean : (es : List Effect) (t : ℕ) → AllByRecursion IsCleanEffect es → All IsClean (due es t)
due-clean [] t are = All-nil IsClean
due-clean (e ∷ es) t are =
    All-append IsClean (shown_by e t) (due es t) (shown-clean e t are.0) (due-clean es t are.1)

pub all-lines : (es : List Effect) → Clean es → AreCleanLines es
all-lines es are = record {
  reply_is = λ s. reply-clean s es are.all;
  copies_are = copies-clean es are.all;
  shown_are = λ t. due-clean es t are.all;
}

pub lines-clean : LinesAreClean
lines-clean g h k serves are is =
    all-lines (effects g (facts g h) k) (of_record g (facts g h) k serves (all-facts g h serves
    (recursion_from_All (λ r. IsCleanKind r.kind) h are)) is)

pub ping-clean : PingIsClean
ping-clean g serves =
    from-server g (codes "PING") (g.server ∷ []) false serves refl (omega arith)
    (one g.server (word-text g.server (settings-server g serves.set).word))
