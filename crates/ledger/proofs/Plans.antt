-- What each session hears of a record, and the plan that is made of it.
use Rattle.std.proofs.Common.{◌≡◌, ◌≢◌, ℕ, ℤ, Bool, not, List, [], ◌∷◌, ◌++◌, cond, map, length, Option, None}
use Rattle.std.proofs.Common.{arith, refl, sym, ap, ◌∙◌, append_assoc, eq-eqb, ne_eqb, lit<}
use Rattle.numerics.specs.declared.outgoing.Out.{Out}
use Rattle.registration.specs.declared.caps.Caps.{Caps}
use Rattle.labels_batches.specs.Answers.{whole_answer, tagged_as}
use Rattle.labels_batches.specs.Rendered.{text_as}
use Rattle.labels_batches.specs.Spellings.{spelled_for}
use Rattle.transactions.specs.declared.effect.Effect.{Effect}
use Rattle.transactions.specs.declared.effect.Effect.TheVariants.{Establish, Answer, Show, Copy}
use Rattle.transactions.specs.declared.verdict.ShownLine.{ShownLine}
use Rattle.transactions.specs.declared.verdict.Verdict.{Verdict}
use Rattle.transactions.specs.Effects.{lines_heard, reply, copies, due}
use Rattle.deeds.specs.Deeds.{octets_for}
use Rattle.roster.specs.declared.deed.Deed.{Deed}
use Rattle.roster.specs.LookBack.{caps}
use Rattle.transactions.specs.Verdicts.{lines_shown, IsVerdict}
use Rattle.registration.specs.declared.settings.Settings.{Settings}
use Rattle.ledger.specs.declared.seat.Seat.{Seat}
use Rattle.ledger.specs.Ledger.{puts}
use Rattle.ledger.specs.Seats.{hears, told_here, told_to, told_own, heard_text, planned_with, planned_from}
use Rattle.ledger.proofs.Begins.{others_same}

-- ---- texts

-- lines that are no part of an answer
abbrev shown_text : Caps → ℤ → List Out → List ℕ
shown_text cs moment ls = text_as cs moment (map (tagged_as None) ls)

shown-append : (cs : Caps) (moment : ℤ) (xs ys : List Out) → shown_text cs moment (xs ++ ys)
    ≡ shown_text cs moment xs ++ shown_text cs moment ys
shown-append cs moment [] ys = refl
shown-append cs moment (x ∷ xs) ys = ap (λ bs. spelled_for cs moment x ++ bs) (shown-append cs moment xs ys)
    ∙ sym (append_assoc (spelled_for cs moment x) (shown_text cs moment xs) (shown_text cs moment ys))

-- ---- the plan of a verdict is that of its effects

heard_shown : (fs : List Deed) (moment : ℤ) (es : List Effect) (t : ℕ) → heard_text fs moment (lines_shown es) t
    ≡ shown_text (caps fs t) moment (due es t)
heard_shown fs moment [] t = refl
heard_shown fs moment (Establish d ∷ es) t = heard_shown fs moment es t
heard_shown fs moment (Answer l ∷ es) t = heard_shown fs moment es t
heard_shown fs moment (Show hs l ∷ es) t = ap (λ bs. shown_text (caps fs t) moment (lines_heard hs l t) ++ bs)
    (heard_shown fs moment es t) ∙ sym (shown-append (caps fs t) moment (lines_heard hs l t) (due es t))
heard_shown fs moment (Copy l ∷ es) t = heard_shown fs moment es t

pub planned_same : (seats : List Seat) (g : Settings) (fs : List Deed) (s number : ℕ) (label : Option (List ℕ))
    (v : Verdict) (es : List Effect) (moment : ℤ) (quits : Bool) → IsVerdict v s es
    → planned_with seats s number (text_as (caps fs s) moment
    (whole_answer g.server label number v.reply.items v.copies.items)) (heard_text fs moment v.others.items)
    quits ≡ planned_from seats s number (octets_for g fs s label es moment number) quits
planned_same seats g fs s number label v es moment quits i =
    let f = octets_for g fs s label es moment number in
    let own : text_as (caps fs s) moment (whole_answer g.server label number v.reply.items v.copies.items) ≡ f s =
    ap (λ (ls : List Out). text_as (caps fs s) moment (whole_answer g.server label number ls v.copies.items)) i.reply
    ∙ ap
    (λ (ls : List Out). text_as (caps fs s) moment (whole_answer g.server label number (reply s es) ls)) i.copies
    ∙ ap (λ b. text_as (caps fs s) moment (cond b (whole_answer g.server label number (reply s es) (copies es))
    (map (tagged_as None) (due es s)))) (sym (eq-eqb s s refl)) in
    let each : (u : ℕ) → s ≢ u → heard_text fs moment v.others.items u ≡ f u = λ u ne.
    ap (λ (xs : List ShownLine). heard_text fs moment xs u) i.others ∙ heard_shown fs moment es u ∙ ap
    (λ b. text_as (caps fs u) moment (cond b (whole_answer g.server label number (reply s es) (copies es))
    (map (tagged_as None) (due es u)))) (sym (ne_eqb s u ne)) in
    ap (λ bs. planned_with seats s number bs (heard_text fs moment v.others.items) quits) own
    ∙ ap (λ ps. puts s (told_own (not (hears seats s)) number (f s) quits) ++ ps)
    (others_same (told_to seats number (heard_text fs moment v.others.items)) (told_to seats number f) s 1 (length
    seats) (length seats) (lit< tt) (omega arith) (λ u from to ne. ap (told_here seats number u) (each u ne)))
