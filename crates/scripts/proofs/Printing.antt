-- What is printed of a script, as it comes.
use Rattle.std.proofs.Common.{◌≡◌, ◌≢◌, ℕ, ◌+◌, ◌<◌, true, cond, List, [], ◌∷◌, ◌++◌, length, take, drop, get_or}
use Rattle.std.proofs.Common.{Option, Some, None, Result, Ok, Err, refl, sym, ap, ◌∙◌, subst, append_assoc, append-nil}
use Rattle.std.proofs.lemmas.Bool.{ne_eqb, cond-false}
use Rattle.std.proofs.lemmas.List.{drop_more}
use Rattle.std.specs.Prelude.{OnOk}
use Rattle.std.specs.Option.{is_some}
use Rattle.std.specs.Io.KnownBytes.{Appends, Consumes, Keeps, IsAtEnd, ReadConsumes}
use Rattle.scripts.specs.declared.header.Limits.{Limits}
use Rattle.scripts.specs.declared.script.ScriptStep.{ScriptStep}
use Rattle.scripts.specs.declared.entry.PlayFault.{PlayFault}
use Rattle.scripts.specs.declared.reader.Stage.{Stage}
use Rattle.scripts.specs.declared.reader.Stage.TheVariants.{Head, Steps}
use Rattle.scripts.specs.Script.{step_of}
use Rattle.scripts.specs.Headers.{default_limits, with_header, unless_none, after_line}
use Rattle.scripts.specs.Lines.{text_before, lines_of, is_step, limits_after}
use Rattle.scripts.specs.Stages.{head_of}
use Rattle.scripts.specs.Steps.{IsPerformed}
use Rattle.scripts.specs.Printed.{with_step, steps_of, start_of, ArePerformed, hosts_of, server_of}
use Rattle.scripts.specs.Printed.{IsPrinted, Prints, PrintsAhead, Writes, GoesOn}
use Rattle.scripts.proofs.Ahead.{continued-nil, continued-continued}
use Rattle.scripts.proofs.Taken.{appends_nothing, appends_more}

-- lines from the one stage on print what this line and they print from the other on
abbrev pub Passes : {L : Type 0} → Stage L → List ℕ → Stage L → List ℕ → Type 0
Passes s line s' written = (more : List (List ℕ)) (text : List ℕ) → Prints s' more text
    → Prints s (line ∷ more) (written ++ text)

-- ---- one line

pub empty_prints : {L : Type 0} (s : Stage L) (more : List (List ℕ)) (text : List ℕ) → Prints s more text
    → Prints s ([] ∷ more) text
empty_prints (Head l) more text prints = prints
empty_prints (Steps player) more text prints = prints

pub header_prints : (l k : Limits) (line : List ℕ) (more : List (List ℕ)) (text : List ℕ) → step_of line ≡ None
    → with_header l line ≡ Some k → ArePerformed (steps_of more) [] (start_of (limits_after k more)) text
    → ArePerformed (steps_of (line ∷ more)) [] (start_of (limits_after l (line ∷ more))) text
header_prints l k line more text none is prints =
    let server : start_of (limits_after l (line ∷ more)) ≡ start_of (limits_after k more) = ap
    (λ t. start_of (cond t l (limits_after (after_line l line) more))) (ap is_some none) ∙ ap
    (λ o. start_of (limits_after (unless_none l o) more)) is in
    subst (λ o. ArePerformed (with_step o (steps_of more)) [] (start_of (limits_after l (line ∷ more))) text)
    (sym none) (subst (λ m. ArePerformed (steps_of more) [] m text) (sym server) prints)

server_by : {L : Type 0} (s : Stage L) (line : List ℕ) (more : List (List ℕ)) → is_step line ≡ true
    → server_of s (line ∷ more) ≡ server_of s []
server_by (Head l) line more is = ap (λ t. start_of (cond t l (limits_after (after_line l line) more))) is
server_by (Steps player) line more is = refl

server_on : {L : Type 0} (s : Stage L) (more : List (List ℕ)) → head_of s ≡ None → server_of s more ≡ server_of s []
server_on (Head l) more none = absurd (cc)
server_on (Steps player) more none = refl

step_prints : {L : Type 0} (s s' : Stage L) (line : List ℕ) (step : ScriptStep) (first : List ℕ)
    → step_of line ≡ Some step → head_of s' ≡ None
    → IsPerformed step (hosts_of s) (server_of s []) first (hosts_of s') (server_of s' []) → Passes s line s' first
step_prints s s' line step first is none performed more rest prints =
    subst (λ o. ArePerformed (with_step o (steps_of more)) (hosts_of s) (server_of s (line ∷ more)) (first ++ rest))
    (sym is)
    (subst (λ m. ArePerformed (step ∷ steps_of more) (hosts_of s) m (first ++ rest))
    (sym (server_by s line more (ap is_some is))) (
      first,
      rest,
      hosts_of s',
      server_of s' [],
      performed,
      subst
          (λ m. ArePerformed (steps_of more) (hosts_of s') m rest) (server_on s' more none) prints,
      refl,
    ))

pub after_step : {T L : Type 0} (r : Result T PlayFault) (s s' : Stage L) (line : List ℕ) (step : ScriptStep)
    (x y : Option (List ℕ)) → step_of line ≡ Some step → OnOk r (head_of s' ≡ None) → OnOk r ((text : List ℕ)
    × IsPerformed step (hosts_of s) (server_of s []) text (hosts_of s') (server_of s' []) × Appends x y text)
    → OnOk r (Writes x y (Passes s line s'))
after_step (Ok v) s s' line step x y is none did = (did.0, did.2, step_prints s s' line step did.0 is none did.1)
after_step (Err e) s s' line step x y is none did = tt

pub nothing_written : {L : Type 0} (s s' : Stage L) (line : List ℕ) (x : Option (List ℕ))
    → ((more : List (List ℕ)) (text : List ℕ) → Prints s' more text → Prints s (line ∷ more) text)
    → Writes x x (Passes s line s')
nothing_written s s' line x same = ([], appends_nothing x, same)

pub after_header : {T L : Type 0} (r : Result T PlayFault) (s s' : Stage L) (line : List ℕ) (x : Option (List ℕ))
    → OnOk r ((more : List (List ℕ)) (text : List ℕ) → Prints s' more text → Prints s (line ∷ more) text)
    → OnOk r (Writes x x (Passes s line s'))
after_header (Ok v) s s' line x same = nothing_written s s' line x same
after_header (Err e) s s' line x same = tt

pub last_line : {T L : Type 0} (r : Result T PlayFault) (s s' : Stage L) (line : List ℕ) (x y : Option (List ℕ))
    → Writes x y (Passes s line s') → OnOk r (Writes x y (PrintsAhead s line []))
last_line (Ok v) s s' line x y did =
    let end : Prints s (line ∷ []) did.0 = subst (λ t. Prints s (line ∷ []) t) (append-nil did.0) (did.2 [] [] refl) in
    (did.0, did.1, subst (λ first. Prints s (first ∷ []) did.0) (sym (append-nil line)) end)
last_line (Err e) s s' line x y did = tt

-- ---- one octet

line_feed : {L : Type 0} (s s' : Stage L) (line line' written : List ℕ) (b : ℕ) → b ≡ 10 → line' ≡ []
    → Passes s line s' written → GoesOn s line s' line' (b ∷ []) written
line_feed s s' line line' written b lf empty passes rest text prints =
    let next : Prints s' (lines_of rest) text = subst (λ ls. Prints s' ls text) (continued-nil (lines_of rest))
    (subst (λ l. PrintsAhead s' l rest text) empty prints) in
    let now : PrintsAhead s line (10 ∷ rest) (written ++ text) = subst (λ first. Prints s (first ∷ lines_of rest)
    (written ++ text)) (sym (append-nil line)) (passes (lines_of rest) text next) in
    subst (λ c. PrintsAhead s line (c ∷ rest) (written ++ text)) (sym lf) now

pub at_line_feed : {T L : Type 0} (r : Result T PlayFault) (s s' : Stage L) (line line' : List ℕ) (b : ℕ)
    (x y : Option (List ℕ)) → b ≡ 10 → OnOk r (line' ≡ []) → OnOk r (Writes x y (Passes s line s'))
    → OnOk r (Writes x y (GoesOn s line s' line' (b ∷ [])))
at_line_feed (Ok v) s s' line line' b x y lf empty did =
    (did.0, did.1, line_feed s s' line line' did.0 b lf empty did.2)
at_line_feed (Err e) s s' line line' b x y lf empty did = tt

pub in_line : {L : Type 0} (s : Stage L) (line line' : List ℕ) (b : ℕ) (x : Option (List ℕ)) → b ≢ 10
    → line' ≡ line ++ b ∷ [] → Writes x x (GoesOn s line s line' (b ∷ []))
in_line s line line' b x no_end grown = (
  [],
  appends_nothing x,
  λ rest text prints.
      let next : PrintsAhead s (line ++ b ∷ []) rest text = subst (λ l. PrintsAhead s l rest text) grown prints in
      subst (λ ls. Prints s ls text) (continued-continued line b (lines_of rest)
      ∙ ap (text_before line) (sym (cond-false _ _ _ (ne_eqb b 10 no_end)))) next,
)

-- ---- a block

-- what a place of a script prints, by the rest and the text
abbrev pub Place : Type 1
Place = List ℕ → List ℕ → Type 0

pub one_on : (block : List ℕ) (i : ℕ) (start now next : Place) (x y z : Option (List ℕ)) → i < length block → Writes
    x y (λ w. (rest : List ℕ) (text : List ℕ) → now (drop i block ++ rest) text → start (block ++ rest) (w ++ text))
    → Writes y z (λ w. (rest : List ℕ) (text : List ℕ) → next rest text → now (get_or block i 0 ∷ rest) (w ++ text))
    → Writes x z (λ w. (rest : List ℕ) (text : List ℕ) → next (drop (i + 1) block ++ rest) text
    → start (block ++ rest) (w ++ text))
one_on block i start now next x y z lt before step = (
  before.0 ++ step.0,
  appends_more x y z before.0 step.0 before.1 step.1,
  λ rest text prints.
      let here : now (drop i block ++ rest) (step.0 ++ text) = subst (λ bs. now (bs ++ rest) (step.0 ++ text))
      (sym (drop_more block i 0 lt)) (step.2 (drop (i + 1) block ++ rest) text prints) in
      subst (λ t. start (block ++ rest) t) (sym (append_assoc before.0 step.0 text))
      (before.2 rest (step.0 ++ text) here),
)

-- ---- a script

pub block_on : (old new : Option (List ℕ)) (bs : List ℕ) (start : List ℕ → Type 0) (now next : Place) (w v : List ℕ)
    → Consumes old new bs → ((rest : List ℕ) (text : List ℕ) → next rest text → now (bs ++ rest) (v ++ text))
    → ((rest : List ℕ) × (old ≡ Some rest) × ((text : List ℕ) → now rest text → start (w ++ text)))
    → (rest : List ℕ) × (new ≡ Some rest) × ((text : List ℕ) → next rest text → start ((w ++ v) ++ text))
block_on None new bs start now next w v read on before = absurd (cc before.1)
block_on (Some xs) None bs start now next w v read on before = absurd read
block_on (Some xs) (Some ys) bs start now next w v read on before =
    let same : before.0 ≡ bs ++ ys = (let known : Some xs ≡ Some before.0 = before.1 in cc) in (
      ys,
      refl,
      λ text prints. subst start (sym (append_assoc w v text))
          (before.2 (v ++ text) (subst (λ rest. now rest (v ++ text)) (sym same) (on ys text prints))),
    )

pub kept_on : (old new : Option (List ℕ)) (start : List ℕ → Type 0) (now : Place) (w : List ℕ) → Keeps old new
    → ((rest : List ℕ) × (old ≡ Some rest) × ((text : List ℕ) → now rest text → start (w ++ text)))
    → (rest : List ℕ) × (new ≡ Some rest) × ((text : List ℕ) → now rest text → start (w ++ text))
kept_on None new start now w keeps before = absurd (cc before.1)
kept_on (Some xs) None start now w keeps before = absurd keeps
kept_on (Some xs) (Some ys) start now w keeps before =
    let same : Some ys ≡ Some before.0 = ap Some keeps ∙ before.1 in
    (before.0, same, before.2)

pub at_end : (old new : Option (List ℕ)) (start : List ℕ → Type 0) (now : Place) (w v : List ℕ)
    → Consumes old new [] → IsAtEnd new → now [] v
    → ((rest : List ℕ) × (old ≡ Some rest) × ((text : List ℕ) → now rest text → start (w ++ text))) → start (w ++ v)
at_end None new start now w v read end prints before = absurd (cc before.1)
at_end (Some xs) None start now w v read end prints before = absurd read
at_end (Some xs) (Some ys) start now w v read end prints before =
    let empty : []
    ≡ before.0 = (let known : Some xs ≡ Some before.0 = before.1 in let none : xs ≡ [] = read ∙ end in cc) in
    before.2 v (subst (λ rest. now rest v) empty prints)

pub read_nothing : {E : Type 0} (r : Result ℕ E) (n : ℕ) (old new : Option (List ℕ)) (buf : List ℕ)
    → ReadConsumes old new r buf → r ≡ Ok n → n ≡ 0 → 0 < length buf → Consumes old new [] × IsAtEnd new
read_nothing (Ok k) n old new buf bytes is zero some =
    let none : k ≡ 0 = (let e : Ok k ≡ Ok n = is in cc) in
    (subst (λ m. Consumes old new (take m buf)) none bytes.0, bytes.1 none some)
read_nothing (Err e) n old new buf bytes is zero some = absurd (cc)

-- what was there of a script, what is left of it and what was written
abbrev pub SoFar : Option (List ℕ) → Option (List ℕ) → (List ℕ → List ℕ → Type 0) → Place → List ℕ → Type 0
SoFar first left start now w = (script : List ℕ) → first ≡ Some script → (rest : List ℕ) × (left ≡ Some rest)
    × ((text : List ℕ) → now rest text → start script (w ++ text))

pub to_the_end : {T : Type 0} (r : Result T PlayFault) (first old new : Option (List ℕ))
    (x y z : Option (List ℕ)) (start : List ℕ → List ℕ → Type 0) (now : Place) → Consumes old new []
    × IsAtEnd new → Writes x y (SoFar first old start now) → OnOk r (Writes y z (now []))
    → OnOk r (Writes x z (λ w. (script : List ℕ) → first ≡ Some script → start script w))
to_the_end (Ok v) first old new x y z start now end before did = (
  before.0 ++ did.0,
  appends_more x y z before.0 did.0 before.1 did.1,
  λ script known. at_end old new (start script) now before.0 did.0 end.0 end.1 did.2 (before.2 script known),
)
to_the_end (Err e) first old new x y z start now end before did = tt

pub by_a_block : (first old new : Option (List ℕ)) (bs : List ℕ) (x y z : Option (List ℕ))
    (start : List ℕ → List ℕ → Type 0) (now next : Place) → Consumes old new bs
    → Writes x y (SoFar first old start now) → Writes y z (λ v. (rest : List ℕ) (text : List ℕ) → next rest text
    → now (bs ++ rest) (v ++ text)) → Writes x z (SoFar first new start next)
by_a_block first old new bs x y z start now next read before did = (
  before.0 ++ did.0,
  appends_more x y z before.0 did.0 before.1 did.1,
  λ script known. block_on old new bs
      (start script) now next before.0 did.0 read did.2 (before.2 script known),
)

pub by_nothing : (first old new : Option (List ℕ)) (x y : Option (List ℕ)) (start : List ℕ → List ℕ → Type 0)
    (now : Place) → Keeps old new → Writes x y (SoFar first old start now) → Writes x y (SoFar first new start now)
by_nothing first old new x y start now keeps before =
    (before.0, before.1, λ script known. kept_on old new (start script) now before.0 keeps (before.2 script known))

pub kept_after : (x y z : Option (List ℕ)) (w : List ℕ) → Appends x y w → Keeps y z → Appends x z w
kept_after None y z w a k = tt
kept_after (Some xs) None z w a k = absurd a
kept_after (Some xs) (Some ys) None w a k = absurd k
kept_after (Some xs) (Some ys) (Some zs) w a k = k ∙ a
