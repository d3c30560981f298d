-- Writing on after what went out.
use Rattle.std.proofs.Common.{◌≡◌, ◌≢◌, ℕ, IsOk, ◌+◌, ◌-◌, List, [], ◌∷◌, ◌++◌, length, take}
use Rattle.std.proofs.Common.{drop, ap, sym, subst, ◌∙◌, arith, append_assoc}
use Rattle.std.proofs.Math.Seq.{take-add, take-append-add, take-length}
use Rattle.std.proofs.KnownBytes.{Appends-trans}
use Rattle.std.proofs.lemmas.List.{take_rest, take-append-le, length-append}
use Rattle.std.specs.Prelude.{Option, Result, codes}
use Rattle.std.specs.Io.KnownBytes.{Appends}
use Rattle.chronicle.specs.declared.why.Why.{Why}
use Rattle.chronicle.specs.Reasons.{text}
use Rattle.deliveries.specs.Text.{error_line, WritesFront}

-- after a short write the next one begins behind it
pub appends_more : (a b c : Option (List ℕ)) (part : List ℕ) (n k : ℕ) → Appends a b (take n part)
    → Appends b c (take k (take (length part - n) (drop n part))) → Appends a c (take (n + k) part)
appends_more a b c part n k before now =
    let whole = ap (λ l. take n part ++ take k l) (take_rest part n) ∙ sym (take-add n k part) in
    subst (Appends a c) whole (Appends-trans a b c _ _ before now)

-- a text that went out whole, and then the next
pub then_next : {A E : Type 0} (a b c : Option (List ℕ)) (xs ys : List ℕ) (before written : ℕ × Result A E)
    → IsOk before.1 → WritesFront a b xs before → WritesFront b c ys written
    → WritesFront a c (xs ++ ys) (before.0 + written.0, written.1)
then_next a b c xs ys before written ok first next =
    let n = before.0 in
    let k = written.0 in
    let all : n ≡ length xs = first.whole.0 ok in
    let front : take n xs ++ take k ys ≡ take (n + k) (xs ++ ys) =
    ap (λ m. take m xs ++ take k ys) all ∙ ap (λ l. l ++ take k ys) (take-length xs) ∙ sym (take-append-add xs ys k)
    ∙ ap (λ m. take (m + k) (xs ++ ys)) (sym all) in
    record {
      within = let fits = next.within in omega (arith, length-append xs ys);
      appended = subst (Appends a c) front (Appends-trans a b c _ _ first.appended next.appended);
      whole = (
        (λ ok. let whole : k ≡ length ys = next.whole.0 ok in omega (arith, length-append xs ys)),
        λ whole. next.whole.1 (omega (arith, length-append xs ys)),
      );
    }

-- a fault stays before the next text
pub then_none : {A E : Type 0} (a b : Option (List ℕ)) (xs ys : List ℕ) (before : ℕ × Result A E) → ¬ IsOk before.1
    → WritesFront a b xs before → WritesFront a b (xs ++ ys) before
then_none a b xs ys before fault first =
    let short : before.0 ≢ length xs = λ all. fault (first.whole.1 all) in
    let fits = first.within in
    record {
      within = omega (arith, length-append xs ys);
      appended = subst (Appends a b) (sym (take-append-le before.0 xs ys fits)) first.appended;
      whole = ((λ ok. absurd (fault ok)), λ whole. absurd (let none : ⊥ = omega (arith, length-append xs ys) in none));
    }

-- the parts of the ERROR line make the line
pub joined_line : {A E : Type 0} (a b : Option (List ℕ)) (host reason : List ℕ) (why : Why)
    (written : ℕ × Result A E) → reason ≡ text why
    → WritesFront a b (codes "ERROR :Closing Link: " ++ host ++ codes " (" ++ reason ++ 41 ∷ 13 ∷ 10 ∷ []) written
    → WritesFront a b (error_line host why) written
unfolding error_line
joined_line a b host reason why written same parts =
    let before : List ℕ = codes "ERROR :Closing Link: " ++ host ++ codes " (" in
    let line : before ++ reason ++ 41 ∷ 13 ∷ 10 ∷ [] ≡ error_line host why =
    ap (λ r. before ++ r ++ 41 ∷ 13 ∷ 10 ∷ []) same
    ∙ sym (append_assoc (before ++ text why) (codes ")") (13 ∷ 10 ∷ [])) in
    subst (λ l. WritesFront a b l written) line parts
