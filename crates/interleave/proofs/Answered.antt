-- A labelled line is answered once, and whole; a line is shown to each of its hearers once.
use Rattle.std.proofs.Common.{◌≡◌, ℕ, ℤ, ◌+◌, ◌≤◌, Bool, true, false, ◌||◌, ◌&&◌, ◌==◌, nat_le, cond}
use Rattle.std.proofs.Common.{List, [], ◌∷◌, ◌++◌, map, length, take, Some, None, arith, refl, sym}
use Rattle.std.proofs.Common.{subst, ap, ◌∙◌, append-nil, append_assoc, eq-eqb}
use Rattle.std.proofs.lemmas.Bool.Decides.{nat_tests}
use Rattle.chronicle.specs.declared.record.Kind.TheVariants.{Said}
use Rattle.chronicle.specs.History.{Rec, is_quit, misses, sessions, shut}
use Rattle.numerics.specs.Outgoing.{octets, out_text as untagged_of}
use Rattle.registration.specs.declared.caps.Caps.{Caps}
use Rattle.registration.specs.declared.settings.Settings.{Settings}
use Rattle.labels_batches.specs.declared.answers.Tagged.{Tagged}
use Rattle.labels_batches.specs.declared.answers.AnswerTag.TheVariants.{Label}
use Rattle.labels_batches.specs.Answers.{tagged_as}
use Rattle.labels_batches.specs.Rendered.{with_end, text_as, spelled_line, tag_block}
use Rattle.labels_batches.specs.Whole.{LabelFirst, LoneOpensNone, SeveralAreClosed}
use Rattle.record_laws.specs.Laws.{HearersStandOnce, NoLineOpensABatch, RecordsOpenNoOthers}
use Rattle.roster.specs.LookBack.{caps}
use Rattle.commands.specs.Asked.{asked_of}
use Rattle.transactions.specs.Effects.{due}
use Rattle.deeds.specs.Deeds.{facts, octets_for, text}
use Rattle.deliveries.specs.declared.delivery.Delivery.{Delivery}
use Rattle.deliveries.specs.declared.delivery.Delivery.TheVariants.{Lines, Last}
use Rattle.deliveries.specs.Owed.{delivery, item, owed, reason, told_text}
use Rattle.book.specs.Legal.{IsLegal}
use Rattle.interleave.specs.Laws.{BatchClosed, HeardOnce, IsRequest, LabelledFirst, LabelledOnce, LoneUnbatched}
use Rattle.interleave.specs.Laws.{Request, answer_to, copies_of, effects_of, record_of, reply_to}
use Rattle.interleave.proofs.Opened.{opened-once}

-- ---- where there is a line there is a text

some : (xs ys : List ℕ) → (b : ℕ) × (bs : List ℕ) × (xs ++ 13 ∷ ys ≡ b ∷ bs)
some [] ys = (13, ys, refl)
some (x ∷ xs) ys = (x, xs ++ 13 ∷ ys, refl)

line-some : (cs : Caps) (moment : ℤ) (l : Tagged) (ys : List ℕ) → (b : ℕ) × (bs : List ℕ)
    × (spelled_line cs moment l ++ ys ≡ b ∷ bs)
unfolding spelled_line octets
line-some cs moment l ys =
    let tags = with_end (tag_block cs moment l) in
    let body = take 510 (untagged_of l.line) in let is = some (tags ++ body) (10 ∷ ys) in (
      is.0,
      is.1,
      ap (λ bs. bs ++ ys) (sym (append_assoc tags body (13 ∷ 10 ∷ [])))
          ∙ append_assoc (tags ++ body) (13 ∷ 10 ∷ []) ys ∙ is.2,
    )

item-some : (n b : ℕ) (xs bs : List ℕ) → xs ≡ b ∷ bs → item n xs ≡ Lines n xs ∷ []
item-some n b xs bs e = ap (item n) e ∙ ap (λ ys. Lines n ys ∷ []) (sym e)

item-lines : (n : ℕ) (cs : Caps) (moment : ℤ) (ls : List Tagged) (l : Tagged) (more : List Tagged) → ls ≡ l ∷ more
    → item n (text_as cs moment ls) ≡ Lines n (text_as cs moment ls) ∷ []
item-lines n cs moment ls l more e = let is = line-some cs moment l (text_as cs moment more) in
    item-some n is.0 (text_as cs moment ls) is.1 (ap (text_as cs moment) e ∙ is.2)

-- ---- what is owed grows

grows : (g : Settings) (later h : List Rec) (t : ℕ) → (rest : List Delivery)
    × (owed g (later ++ h) t ≡ owed g h t ++ rest)
grows g [] h t = ([], sym (append-nil (owed g h t)))
grows g (r ∷ later) h t =
    let before = grows g later h t in
    let new = cond (misses r t || shut (later ++ h) t) [] (delivery g (later ++ h) r.kind r.moment t) in
    (before.0 ++ new, ap (λ xs. xs ++ new) before.1 ∙ append_assoc (owed g h t) before.0 new)

-- ---- the delivery of a line to its session

either : (b c : Bool) → b ≡ false → c ≡ false → (b || c) ≡ false
either true c e f = absurd (let g : true ≡ false = e in cc)
either false c e f = f

-- what came before a part of a legal history is legal
earlier : (g : Settings) (later h : List Rec) → IsLegal g (later ++ h) → IsLegal g h
earlier g [] h legal = legal
earlier g (r ∷ later) h legal = earlier g later h legal.4

-- the history before a labelled line is legal, and so is the one that ends with its record
pub request-legal : (g : Settings) (history : List Rec) (q : Request) → IsLegal g history → IsRequest g history q
    → IsLegal g (record_of q ∷ q.before)
request-legal g history q legal is = earlier g q.later (record_of q ∷ q.before) (subst (IsLegal g) is.split legal)

pub before-legal : (g : Settings) (history : List Rec) (q : Request) → IsLegal g history → IsRequest g history q
    → IsLegal g q.before
before-legal g history q legal is = (request-legal g history q legal is).4

pub labelled-once : LabelFirst → LabelledOnce
labelled-once label-first g history whole-legal q is =
    let h = q.before in let s = q.session in let moment = q.moment in let k = Said s q.index q.piece in
    let legal : IsLegal g (record_of q ∷ h) = request-legal g history q whole-legal is in
    let fs = facts g h in let n = length h + 1 in let es = effects_of g q in let cs = caps fs s in
    let ls = answer_to g q in let first = label-first g.server q.label n (reply_to g q) (copies_of g q) in
    let kind = legal.2 in let open_ : shut h s ≡ false = kind.3 in let known : s ≤ sessions h = kind.1 in
    let before : nat_le s (sessions h) ≡ true = grind (arith, nat_tests) in
    let not_last : ((s == s) && is_quit q.piece) ≡ false = ap (λ b. b && is_quit q.piece) (eq-eqb s s refl)
    ∙ is.no_quit in
    let words : text g fs k moment n s ≡ text_as cs moment ls =
    ap (λ (o : _). octets_for g fs s o es moment n s) is.counts ∙ ap
    (λ b. text_as cs moment (cond b ls (map (tagged_as None) (due es s)))) (eq-eqb s s refl) in
    let given : delivery g h k moment s ≡ Lines n (text_as cs moment ls) ∷ [] =
    ap (λ b. cond b (Last n (reason k) ∷ []) (item n (told_text g h k moment s))) not_last
    ∙ ap (λ b. item n (cond b (text g fs k moment n s) [])) before ∙ ap (item n) words
    ∙ item-lines n cs moment ls (tagged_as (Some (Label q.label)) first.first) first.later first.lines in
    let now : owed g (record_of q ∷ h) s ≡ owed g h s ++ Lines n (text_as cs moment ls) ∷ [] =
    ap (λ b. owed g h s ++ cond b [] (delivery g h k moment s))
    (either (misses (record_of q) s) (shut h s) is.met open_) ∙ ap (λ xs. owed g h s ++ xs) given in
    let more = grows g q.later (record_of q ∷ h) s in (
      more.0,
      ap (λ hs. owed g hs s) is.split ∙ more.1 ∙ ap (λ xs. xs ++ more.0) now
          ∙ append_assoc (owed g h s) (Lines n (text_as cs moment ls) ∷ []) more.0,
    )

pub labelled-first : LabelFirst → LabelledFirst
labelled-first label-first g history q is = label-first g.server q.label (length q.before + 1) (reply_to g q)
    (copies_of g q)

pub lone-unbatched : LoneOpensNone → NoLineOpensABatch → RecordsOpenNoOthers → LoneUnbatched
lone-unbatched lone-opens-none no-batch opens-no-others g history legal q is few =
    lone-opens-none g.server q.label (length q.before + 1) (reply_to g q) (copies_of g q) few
    (no-batch g (facts g q.before) q.session (asked_of q.piece)
    (opened-once opens-no-others g q.before (before-legal g history q legal is)))

pub batch-closed : SeveralAreClosed → BatchClosed
batch-closed several-closed g history q is two = several-closed g.server q.label (length q.before + 1)
    (reply_to g q) (copies_of g q) two

pub heard-once : HearersStandOnce → RecordsOpenNoOthers → HeardOnce
heard-once hearers-once opens-no-others g history k legal = hearers-once g (facts g history) k
    (opened-once opens-no-others g history legal)
