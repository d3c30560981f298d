-- An answer to a labelled line is given once, and whole, as octets.
use Rattle.std.proofs.Common.{◌≡◌, ◌≢◌, inl, inr, ℕ, ◌+◌, ◌<◌, ◌≤◌, ◌^◌, List, [], ◌∷◌, ◌++◌, map}
use Rattle.std.proofs.Common.{length, arith, refl, sym, subst, ap, ◌∙◌, length-append}
use Rattle.std.proofs.lemmas.Bool.Decides.{leb_tells}
use Rattle.std.proofs.lemmas.List.{map-append}
use Rattle.std.proofs.lemmas.List.Elements.{All-cons, All-head, All-nil, All-tail, Contains-append_right}
use Rattle.std.specs.List.{All, Contains}
use Rattle.chronicle.specs.declared.record.Kind.TheVariants.{Said}
use Rattle.chronicle.specs.History.{Rec}
use Rattle.chronicle.specs.Journal.{Limit, most}
use Rattle.labels_batches.specs.Rendered.{text_as}
use Rattle.labels_batches.specs.Whole.{OpensNoBatch}
use Rattle.answer_octets.specs.Clean.{IsCleanAnswer}
use Rattle.answer_octets.specs.Laws.{LoneIsWhole, OneItemCounts, OneLabel, SeveralAreWhole}
use Rattle.answer_octets.specs.TextLines.{label_answers}
use Rattle.clean_records.specs.Clean.{AreNamed, IsCleanHistory, IsCleanKind}
use Rattle.clean_records.specs.Laws.{AnswersAreClean}
use Rattle.clean_records.proofs.Sessions.{moment-inside}
use Rattle.record_laws.specs.Laws.{NoLineOpensABatch, RecordsOpenNoOthers}
use Rattle.roster.specs.LookBack.{caps}
use Rattle.commands.specs.Asked.{asked_of}
use Rattle.deeds.specs.Deeds.{facts}
use Rattle.deliveries.specs.declared.delivery.Delivery.{Delivery}
use Rattle.deliveries.specs.declared.delivery.Delivery.TheVariants.{Lines}
use Rattle.deliveries.specs.Owed.{number_of, owed}
use Rattle.book.specs.Ledger.{kept_total}
use Rattle.interleave.specs.Laws.{LabelledOnce, OnceInOrder, answer_to, copies_of, record_of, reply_to}
use Rattle.interleave.specs.Order.{AreAfter, IsRising}
use Rattle.interleave.specs.State.{IsSound, State}
use Rattle.interleave.specs.Whole.{AnsweredOnceAndWhole, IsAnsweredOnceAndWhole, number_at, octets_of}
use Rattle.interleave.proofs.Answered.{before-legal, request-legal}
use Rattle.interleave.proofs.Opened.{opened-once}

-- ---- where numbers rise, one item has a number

abbrev IsOther : ℕ → ℕ × List ℕ → Type 0
IsOther n i = i.0 ≢ n

-- what stands between is after k, too
after-middle : (k : ℕ) (ys : List Delivery) (x : Delivery) (rest : List Delivery) → AreAfter k (ys ++ x ∷ rest)
    → k < number_of x
after-middle k [] x rest after = after.0
after-middle k (y ∷ ys) x rest after = after-middle k ys x rest after.1

others-before : (host : List ℕ) (xs : List Delivery) (x : Delivery) (rest : List Delivery)
    → IsRising (xs ++ x ∷ rest) → All (IsOther (number_of x)) (map (octets_of host) xs)
others-before host [] x rest rises = All-nil (IsOther (number_of x))
others-before host (y ∷ ys) x rest rises =
    let below = after-middle (number_of y) ys x rest rises.0 in
    All-cons (IsOther (number_of x)) (octets_of host y) (map (octets_of host) ys) (λ same. absurd (omega arith))
    (others-before host ys x rest rises.1)

others-later : (host : List ℕ) (n : ℕ) (xs : List Delivery) → AreAfter n xs
    → All (IsOther n) (map (octets_of host) xs)
others-later host n [] after = All-nil (IsOther n)
others-later host n (x ∷ xs) after =
    let above = after.0 in
    All-cons (IsOther n) (octets_of host x) (map (octets_of host) xs) (λ same. absurd (omega arith))
    (others-later host n xs after.1)

rising-later : (xs : List Delivery) (x : Delivery) (rest : List Delivery) → IsRising (xs ++ x ∷ rest)
    → AreAfter (number_of x) rest
rising-later [] x rest rises = rises.0
rising-later (y ∷ ys) x rest rises = rising-later ys x rest rises.1

-- ---- record numbers

few-records : (l : Limit) (n kept : ℕ) → n + kept ≤ most l → n < 2 ^ 64
unfolding most
few-records l n kept room = omega arith

-- ---- a labelled line

clean-earlier : (later h : List Rec) → IsCleanHistory (later ++ h) → IsCleanHistory h
clean-earlier [] h are = are
clean-earlier (r ∷ later) h are =
    clean-earlier later h (All-tail (λ (r : Rec). IsCleanKind r.kind) r (later ++ h) are)

pub answered-whole : OnceInOrder → LabelledOnce → OneItemCounts → OneLabel → LoneIsWhole → SeveralAreWhole
    → AnswersAreClean → NoLineOpensABatch → RecordsOpenNoOthers → AnsweredOnceAndWhole
answered-whole in-order labelled-once one-counts one-label lone several all-clean no-batch no-others
    g history serves legal are small q is =
    let h = q.before in let s = q.session in let m = q.moment in let n = number_at q in
    let cs = caps (facts g h) s in let reply = reply_to g q in let copies = copies_of g q in
    let text = text_as cs m (answer_to g q) in
    let before = owed g h s in
    let once = labelled-once g history legal q is in
    let rest = once.0 in
    let split : owed g history s ≡ before ++ Lines n text ∷ rest = once.1 in
    let rises : IsRising (before ++ Lines n text ∷ rest) = subst IsRising split (in-order g history s) in
    let whole_clean : IsCleanHistory (q.later ++ record_of q ∷ h) = subst IsCleanHistory is.split are in
    let both_clean : IsCleanHistory (record_of q ∷ h) = clean-earlier q.later (record_of q ∷ h) whole_clean in
    let kind_clean : IsCleanKind (Said s q.index q.piece) =
    All-head (λ (r : Rec). IsCleanKind r.kind) (record_of q) h both_clean in
    let before_clean : IsCleanHistory h = All-tail (λ (r : Rec). IsCleanKind r.kind) (record_of q) h both_clean in
    let moment = (request-legal g history q legal is).1 in
    let long : length history ≡ length q.later + length (record_of q ∷ h) =
    ap length is.split ∙ length-append q.later (record_of q ∷ h) in
    let number : n < 2 ^ 64 = omega arith in
    let clean : IsCleanAnswer m g.server q.label n reply copies =
    all-clean g h (Said s q.index q.piece) m n q.label serves before_clean kind_clean
    (moment-inside m moment.from_1970 moment.to_9998) number is.counts in
    let opens-none : OpensNoBatch reply =
    no-batch g (facts g h) s (asked_of q.piece) (opened-once no-others g h (before-legal g history q legal is)) in
    record {
      text = text;
      owes = subst (λ (xs : List Delivery). Contains xs (Lines n text)) (sym split)
          (Contains-append_right before (Lines n text ∷ rest) (Lines n text) (0, omega arith, refl));
      once = λ host.
          (ap (λ (xs : List Delivery). label_answers (map (octets_of host) xs) n) split
          ∙ ap (λ (xs : List (ℕ × List ℕ)). label_answers xs n)
          (map-append (octets_of host) before (Lines n text ∷ rest))
          ∙ one-counts (map (octets_of host) before) (map (octets_of host) rest) n text
          (others-before host before (Lines n text) rest rises)
          (others-later host n rest (rising-later before (Lines n text) rest rises))
          ∙ one-label cs m g.server q.label n reply copies clean);
      whole = elim (leb_tells (length reply) 1) [
        | inl few ↦ inl (lone cs m g.server q.label n reply copies clean few.1 opens-none)
        | inr many ↦ inr (several cs m g.server q.label n reply copies clean (let two = many.1 in omega arith))
      ];
    }

-- of a sound play whose accounts are named as nicknames are
pub play-whole : AnsweredOnceAndWhole → (m : State) → IsSound m → AreNamed m.book.settings.accounts
    → IsAnsweredOnceAndWhole m.book.settings m.book.history
play-whole whole m i named =
    whole m.book.settings m.book.history (record { set = i.set; accounts = named }) i.book.legal i.clean
    (few-records m.book.limit (length m.book.history) (kept_total m.book.history) i.book.room)
