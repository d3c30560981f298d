-- What comes of one effect more.
use Rattle.std.proofs.Common.{◌≡◌, ℕ, ◌+◌, ◌<◌, ◌==◌, Bool, true, false, cond, List, [], ◌∷◌, ◌++◌, filter, map}
use Rattle.std.proofs.Common.{length, get_or, drop, refl, sym, ap, ◌∙◌, append_assoc, append-nil}
use Rattle.roster.specs.declared.deed.Deed.{Deed}
use Rattle.numerics.specs.declared.outgoing.Out.{Out}
use Rattle.transactions.specs.declared.effect.Effect.{Effect}
use Rattle.transactions.specs.declared.effect.Effect.TheVariants.{Establish, Answer, Show, Copy}
use Rattle.transactions.specs.declared.verdict.ShownLine.{ShownLine}
use Rattle.transactions.specs.declared.verdict.Verdict.{Verdict}
use Rattle.transactions.specs.Effects.{deeds_of, lines_heard, reply_lines, reply, copy_lines, copies}
use Rattle.transactions.proofs.Replay.{deeds_of-append}
use Rattle.transactions.proofs.Turns.{dropped}
use Rattle.transactions.specs.Verdicts.{lines_shown, IsVerdict}

first_heard : (b : Bool) (line : Out) (h : ℕ) (hs : List ℕ) → cond b (line ∷ []) [] ++ map (λ (x : ℕ). line) hs
    ≡ map (λ (x : ℕ). line) (cond b (h ∷ hs) hs)
first_heard true line h hs = refl
first_heard false line h hs = refl

-- the first of the hearers that are left, and then the others
pub heard_more : (hearers : List ℕ) (line : Out) (t i h : ℕ) → i < length hearers → h ≡ get_or hearers i h
    → cond (h == t) (line ∷ []) [] ++ lines_heard (drop (i + 1) hearers) line t ≡ lines_heard (drop i hearers) line t
heard_more hearers line t i h l is = first_heard (h == t) line h (filter (λ x. x == t) (drop (i + 1) hearers)) ∙ ap
    (λ hs. lines_heard hs line t) (sym (dropped hearers i h l is))

-- ---- effects, and then others

reply-append : (s : ℕ) (xs ys : List Effect) → reply s (xs ++ ys) ≡ reply s xs ++ reply s ys
reply-append s [] ys = refl
reply-append s (x ∷ xs) ys = ap (λ (ls : List Out). reply_lines s x ++ ls) (reply-append s xs ys)
    ∙ sym (append_assoc (reply_lines s x) (reply s xs) (reply s ys))

copies-append : (xs ys : List Effect) → copies (xs ++ ys) ≡ copies xs ++ copies ys
copies-append [] ys = refl
copies-append (x ∷ xs) ys = ap (λ (ls : List Out). copy_lines x ++ ls) (copies-append xs ys)
    ∙ sym (append_assoc (copy_lines x) (copies xs) (copies ys))

shown-append : (xs ys : List Effect) → lines_shown (xs ++ ys) ≡ lines_shown xs ++ lines_shown ys
shown-append [] ys = refl
shown-append (Establish d ∷ xs) ys = shown-append xs ys
shown-append (Answer l ∷ xs) ys = shown-append xs ys
shown-append (Show hs l ∷ xs) ys = ap (λ (xs : List ShownLine). record { hearers = hs; line = l } ∷ xs)
    (shown-append xs ys)
shown-append (Copy l ∷ xs) ys = shown-append xs ys

-- what comes of effects and one more
pub one_more : (v w : Verdict) (s : ℕ) (es : List Effect) (e : Effect) → IsVerdict v s es
    → w.deeds.items ≡ v.deeds.items ++ deeds_of (e ∷ []) → w.reply.items ≡ v.reply.items ++ reply_lines s e
    → w.copies.items ≡ v.copies.items ++ copy_lines e → w.others.items ≡ v.others.items ++ lines_shown (e ∷ [])
    → IsVerdict w s (es ++ e ∷ [])
one_more v w s es e k deeds replies given others =
    record {
      deeds = deeds ∙ ap (λ (ds : List Deed). ds ++ deeds_of (e ∷ [])) k.deeds ∙ sym (deeds_of-append es (e ∷ []));
      reply = replies ∙ ap (λ (ls : List Out). ls ++ reply_lines s e) k.reply ∙ ap
          (λ (ls : List Out). reply s es ++ ls) (sym (append-nil (reply_lines s e)))
          ∙ sym (reply-append s es (e ∷ []));
      copies = given ∙ ap (λ (ls : List Out). ls ++ copy_lines e) k.copies ∙ ap
          (λ (ls : List Out). copies es ++ ls) (sym (append-nil (copy_lines e))) ∙ sym (copies-append es (e ∷ []));
      others = others ∙ ap (λ (xs : List ShownLine). xs ++ lines_shown (e ∷ [])) k.others
          ∙ sym (shown-append es (e ∷ []));
    }
