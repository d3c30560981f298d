-- What is told of a script, as it comes.
use Rattle.std.proofs.Common.{◌≡◌, ◌≢◌, ℕ, ◌+◌, ◌<◌, ◌&&◌, Bool, true, false, cond, List, [], ◌∷◌, ◌++◌, length}
use Rattle.std.proofs.Common.{Option, Some, None, refl, sym, ap, ◌∙◌, append_assoc, append-nil, arith}
use Rattle.std.proofs.lemmas.Bool.{ne_eqb, cond-false}
use Rattle.std.specs.Prelude.{is_none}
use Rattle.std.specs.Option.{is_some}
use Rattle.scripts.specs.declared.header.Limits.{Limits}
use Rattle.scripts.specs.declared.script.ScriptStep.{ScriptStep}
use Rattle.scripts.specs.Script.{step_of}
use Rattle.scripts.specs.Headers.{with_header, unless_none, after_line, are_good}
use Rattle.scripts.specs.Lines.{text_before, lines_of, is_step, header_by, is_bad, head_after, first_bad}
use Rattle.scripts.specs.Lines.{limits_after, Check, is_set_after, check_after, check_ahead}

pub continued-nil : (ls : List (List ℕ)) → text_before [] ls ≡ ls
continued-nil [] = refl
continued-nil (l ∷ ls) = refl

pub continued-continued : (line : List ℕ) (b : ℕ) (ls : List (List ℕ)) → text_before (line ++ b ∷ []) ls
    ≡ text_before line (text_before (b ∷ []) ls)
continued-continued line b [] = refl
continued-continued line b (l ∷ ls) = ap (λ first. first ∷ ls) (append_assoc line (b ∷ []) l)

pub line_before : (h : Option Limits) (n : ℕ) (line rest : List ℕ) → check_after h (n + 1) (line ∷ lines_of rest)
    ≡ check_ahead h n line (10 ∷ rest)
line_before h n line rest = ap (λ first. check_after h (n + 1) (first ∷ lines_of rest)) (sym (append-nil line))

pub line_last : (h : Option Limits) (n : ℕ) (line : List ℕ) → check_after h (n + 1) (line ∷ [])
    ≡ check_ahead h n line []
line_last h n line = ap (λ first. check_after h (n + 1) (first ∷ [])) (sym (append-nil line))

-- an LF ends a line
pub line_ends : (h h' : Option Limits) (n n' : ℕ) (line rest : List ℕ)
    → ((more : List (List ℕ)) → check_after h' (n' + 1) more ≡ check_after h (n + 1) (line ∷ more))
    → check_ahead h' n' [] rest ≡ check_ahead h n line (10 ∷ rest)
line_ends h h' n n' line rest same = ap (check_after h' (n' + 1)) (continued-nil (lines_of rest))
    ∙ same (lines_of rest) ∙ line_before h n line rest

-- any other octet goes into the line
pub line_goes_on : (h : Option Limits) (n : ℕ) (line : List ℕ) (b : ℕ) (rest : List ℕ) → b ≢ 10
    → check_ahead h n (line ++ b ∷ []) rest ≡ check_ahead h n line (b ∷ rest)
line_goes_on h n line b rest no_end =
    ap (check_after h (n + 1)) (continued-continued line b (lines_of rest)
    ∙ ap (text_before line) (sym (cond-false _ _ _ (ne_eqb b 10 no_end))))

alike : (x y : Option ℕ) (s t : Bool) → x ≡ y → s ≡ t → (let a : Check = record { bad = x; is_set = s } in a)
    ≡ record { bad = y; is_set = t }
alike x y s t p q = ap (λ z. record { bad = z; is_set = s }) p ∙ ap (λ b. record { bad = y; is_set = b }) q

goes_on : (h h' : Option Limits) (n : ℕ) (line : List ℕ) (more : List (List ℕ)) → is_bad h line ≡ false
    → head_after h line ≡ h' → first_bad h n (line ∷ more) ≡ first_bad h' (n + 1) more
goes_on h h' n line more good is =
    ap (λ t. cond t (Some n) (first_bad (head_after h line) (n + 1) more)) good ∙ ap (λ k. first_bad k (n + 1) more) is

-- an empty line
pub empty_line : (h : Option Limits) (n : ℕ) (more : List (List ℕ)) → check_after h (n + 1) more
    ≡ check_after h n ([] ∷ more)
empty_line None n more = refl
empty_line (Some l) n more = refl

step_is_good : (h : Option Limits) (line : List ℕ) (step : ScriptStep) → step_of line ≡ Some step
    → is_bad h line ≡ false
step_is_good h [] step is = refl
step_is_good h (x ∷ xs) step is = ap (λ o. is_none o && is_none (header_by h (x ∷ xs))) is

after_step : (h : Option Limits) (line : List ℕ) → is_step line ≡ true → head_after h line ≡ None
after_step None line is = refl
after_step (Some l) line is = ap (λ t. cond t None (Some (after_line l line))) is

pub set_by : (h : Option Limits) (line : List ℕ) (more : List (List ℕ)) → is_step line ≡ true
    → is_set_after h (line ∷ more) ≡ is_set_after h []
set_by None line more is = refl
set_by (Some l) line more is = ap (λ t. are_good (cond t l (limits_after (after_line l line) more))) is

-- a step
pub step_line : (h : Option Limits) (n : ℕ) (line : List ℕ) (step : ScriptStep) (more : List (List ℕ)) → step_of line
    ≡ Some step → is_set_after h [] ≡ true → check_after None (n + 1) more ≡ check_after h n (line ∷ more)
step_line h n line step more is set =
    sym (alike _ _ _ _ (goes_on h None n line more (step_is_good h line step is)
    (after_step h line (ap is_some is))) (set_by h line more (ap is_some is) ∙ set))

header_is_good : (l k : Limits) (line : List ℕ) → step_of line ≡ None → with_header l line ≡ Some k
    → is_bad (Some l) line ≡ false
header_is_good l k [] none is = refl
header_is_good l k (x ∷ xs) none is = ap (λ o. is_none o && is_none (with_header l (x ∷ xs))) none ∙ ap is_none is

-- a header
pub header_line : (l k : Limits) (n : ℕ) (line : List ℕ) (more : List (List ℕ)) → step_of line ≡ None
    → with_header l line ≡ Some k → check_after (Some k) (n + 1) more ≡ check_after (Some l) n (line ∷ more)
header_line l k n line more none is =
    let after : head_after (Some l) line ≡ Some k = ap (λ t. cond t None (Some (after_line l line)))
    (ap is_some none) ∙ ap (λ o. Some (unless_none l o)) is in
    sym (alike _ _ _ _ (goes_on (Some l) (Some k) n line more (header_is_good l k line none is) after)
    (ap (λ t. are_good (cond t l (limits_after (after_line l line) more))) (ap is_some none) ∙ ap
    (λ o. are_good (limits_after (unless_none l o) more)) is))

bad : (h : Option Limits) (n : ℕ) (line : List ℕ) (more : List (List ℕ)) → is_bad h line ≡ true
    → first_bad h n (line ∷ more) ≡ Some n
bad h n line more is = ap (λ t. cond t (Some n) (first_bad (head_after h line) (n + 1) more)) is

-- no step, after another
pub bad_after : (n : ℕ) (line : List ℕ) (more : List (List ℕ)) → 0 < length line → step_of line ≡ None
    → (check_after None n (line ∷ more)).bad ≡ Some n
bad_after n [] more some none = absurd (omega arith)
bad_after n (x ∷ xs) more some none = bad None n (x ∷ xs) more (ap (λ o. is_none o && true) none)

-- no step and no header
pub bad_before : (l : Limits) (n : ℕ) (line : List ℕ) (more : List (List ℕ)) → 0 < length line → step_of line ≡ None
    → with_header l line ≡ None → (check_after (Some l) n (line ∷ more)).bad ≡ Some n
bad_before l n [] more some none no_header = absurd (omega arith)
bad_before l n (x ∷ xs) more some none no_header = bad (Some l) n (x ∷ xs) more
    (ap (λ o. is_none o && is_none (with_header l (x ∷ xs))) none ∙ ap is_none no_header)
