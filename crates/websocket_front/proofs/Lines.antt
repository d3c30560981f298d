-- The lines of a text, one after another.
use Rattle.std.proofs.Common.{◌≡◌, ◌<◌, ◌≤◌, ◌+◌, ◌-◌, ◌&&◌, ℕ, suc, Bool, true, false, cond, List, [], ◌∷◌, ◌++◌}
use Rattle.std.proofs.Common.{length, take, drop, get_or, eqb, leb, refl, sym, ap, subst, ◌∙◌, inl, inr, arith}
use Rattle.std.proofs.Common.{length-drop}
use Rattle.std.specs.Prelude.{nat_eq}
use Rattle.std.specs.List.{starts_with}
use Rattle.std.proofs.lemmas.List.{drop_more, drop-drop, drop_all}
use Rattle.std.proofs.lemmas.Bool.{cases_Bool}
use Rattle.std.proofs.lemmas.Bool.Decides.{nat_tests}
use Rattle.line_grammar.specs.Lines.{longer}
use Rattle.answer_octets.specs.TextLines.{text_lines}
use Rattle.websocket_front.specs.Lines.{lacked_end, line_break, line_length, lines}

cond_le : (b : Bool) (n m : ℕ) → n ≤ m → cond b 0 (suc n) ≤ suc m
cond_le true n m le = omega arith
cond_le false n m le = omega arith

pub line_length_le : (text : List ℕ) → line_length text ≤ length text
line_length_le [] = omega arith
line_length_le (x ∷ xs) = cond_le (starts_with nat_eq (x ∷ xs) line_break) (line_length xs) (length xs)
    (line_length_le xs)

-- a line goes on where no line's end stands
pub line_step : (text : List ℕ) (i : ℕ) (b : Bool) → i < length text → starts_with nat_eq (drop i text) line_break
    ≡ b → line_length (drop i text) ≡ cond b 0 (suc (line_length (drop (i + 1) text)))
line_step text i b inside is =
    let rest = drop (i + 1) text in
    let e : drop i text ≡ get_or text i 0 ∷ rest = drop_more text i 0 inside in
    ap line_length e
    ∙ ap (λ l. cond (starts_with nat_eq l line_break) 0 (suc (line_length rest))) (sym e)
    ∙ ap (λ t. cond t 0 (suc (line_length rest))) is

abbrev From : List ℕ → ℕ → Type 0
From text len = lines text ≡ take len text ∷ lines (drop (len + 2) text)

is-break : (x c : ℕ) (rest : List ℕ) (is : Bool) → (eqb x 13 && eqb c 10) ≡ is
    → starts_with nat_eq (x ∷ c ∷ rest) line_break ≡ is
is-break x c rest is e = grind (arith, nat_tests)

no-break : (x : ℕ) → starts_with nat_eq (x ∷ []) line_break ≡ false
no-break x = grind (arith, nat_tests)

-- what a text lacks is what it lacks after its first octet, or after its first line's end
lacks : (x c : ℕ) (rest : List ℕ) (is : Bool) → (eqb x 13 && eqb c 10) ≡ is
    → lacked_end (x ∷ c ∷ rest) ≡ cond is (lacked_end rest) (lacked_end (c ∷ rest))
lacks x c rest is e = ap (λ b. cond b (lacked_end rest) (lacked_end (c ∷ rest))) e

cut : (x c : ℕ) (rest : List ℕ) → (eqb x 13 && eqb c 10) ≡ true
    → text_lines (x ∷ c ∷ rest) ≡ [] ∷ text_lines rest
cut x c rest is = rw (is, text_lines) refl

uncut : (x c : ℕ) (rest : List ℕ) → (eqb x 13 && eqb c 10) ≡ false
    → text_lines (x ∷ c ∷ rest) ≡ longer x (text_lines (c ∷ rest))
uncut x c rest is = rw (is, text_lines) refl

has-length : (x c : ℕ) (rest : List ℕ) (is : Bool) → (eqb x 13 && eqb c 10) ≡ is
    → line_length (x ∷ c ∷ rest) ≡ cond is 0 (suc (line_length (c ∷ rest)))
has-length x c rest is e = ap (λ b. cond b 0 (suc (line_length (c ∷ rest)))) (is-break x c rest is e)

ends : (x c : ℕ) (rest : List ℕ) → (eqb x 13 && eqb c 10) ≡ true → From (x ∷ c ∷ rest) 0
unfolding lines
ends x c rest is =
    ap (λ end. text_lines (x ∷ c ∷ rest ++ end)) (lacks x c rest true is)
    ∙ cut x c (rest ++ lacked_end rest) is

goes-on : (x c : ℕ) (rest : List ℕ) (len : ℕ) → (eqb x 13 && eqb c 10) ≡ false → From (c ∷ rest) len
    → From (x ∷ c ∷ rest) (suc len)
unfolding lines
goes-on x c rest len is more =
    let after : suc (len + 2) ≡ suc len + 2 = omega arith in
    ap (λ end. text_lines (x ∷ c ∷ rest ++ end)) (lacks x c rest false is)
    ∙ uncut x c (rest ++ lacked_end (c ∷ rest)) is ∙ ap (longer x) more
    ∙ ap (λ k. (x ∷ take len (c ∷ rest)) ∷ lines (drop k (x ∷ c ∷ rest))) after

lone : (x : ℕ) → From (x ∷ []) 1
unfolding lines
lone x = uncut x 13 (10 ∷ []) (grind (arith, nat_tests))

-- the first line, and those after its end
pub lines_next : (text : List ℕ) → 0 < length text → From text (line_length text)
lines_next [] some = absurd (omega arith)
lines_next (x ∷ []) some = subst (From (x ∷ [])) (sym (ap (λ b. cond b 0 1) (no-break x))) (lone x)
lines_next (x ∷ c ∷ rest) some = elim (cases_Bool (eqb x 13 && eqb c 10)) [
  | inl is ↦ subst (From (x ∷ c ∷ rest)) (sym (has-length x c rest true is)) (ends x c rest is)
  | inr is ↦ subst (From (x ∷ c ∷ rest)) (sym (has-length x c rest false is))
      (goes-on x c rest (line_length (c ∷ rest)) is (lines_next (c ∷ rest) (omega arith)))
]

-- the line that begins at a place, and those after it
pub lines_from : (text : List ℕ) (place end : ℕ) → place < length text → end ≡ place + line_length (drop place text)
    → lines (drop place text) ≡ take (end - place) (drop place text) ∷ lines (drop (end + 2) text)
lines_from text place end inside is =
    let some : 0 < length (drop place text) = omega (arith, length-drop place text) in
    let len : line_length (drop place text) ≡ end - place = omega arith in
    let there : place + (line_length (drop place text) + 2) ≡ end + 2 = omega arith in
    lines_next (drop place text) some
    ∙ ap (λ l. take (line_length (drop place text)) (drop place text) ∷ lines l)
    (drop-drop (line_length (drop place text) + 2) place text ∙ ap (λ n. drop n text) there)
    ∙ ap (λ n. take n (drop place text) ∷ lines (drop (end + 2) text)) len

-- no line is left of nothing
pub lines_none : lines [] ≡ []
unfolding lines
lines_none = refl

-- what is left of a text is nothing exactly where the place lies at its end
pub ready_is : (text rest : List ℕ) (place : ℕ) → rest ≡ drop place text
    → (leb (length text) place ≡ true → rest ≡ []) × (rest ≡ [] → leb (length text) place ≡ true)
ready_is text rest place is = (
  λ e. let le : length text ≤ place = grind (arith, nat_tests) in is ∙ drop_all place text le,
  λ e. let none : length text - place ≡ 0 = sym (length-drop place text) ∙ ap length (sym is ∙ e) in
      grind (arith, nat_tests),
)
