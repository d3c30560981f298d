-- A fault of one line is a fault of the script from that line on.
use Rattle.std.proofs.Common.{◌≡◌, ℕ, ◌+◌, ◌≤◌, ◌&&◌, Bool, true, false, nat_le, arith, List, [], ◌∷◌, ◌++◌, length}
use Rattle.std.proofs.Common.{drop, get_or, ◌<◌, Option, Some, None, Result, Ok, Err, refl, subst, sym, ap, ◌∙◌}
use Rattle.std.specs.Prelude.{IfErr, OnOk}
use Rattle.std.specs.Option.{is_some}
use Rattle.std.proofs.lemmas.Bool.Decides.{nat_tests}
use Rattle.std.proofs.lemmas.List.{drop_more}
use Rattle.scripts.specs.declared.entry.PlayFault.{PlayFault}
use Rattle.scripts.specs.declared.entry.PlayFault.TheVariants.{BadLine, BadSettings, ReadFailed, WriteFailed, Memory}
use Rattle.scripts.specs.declared.header.Limits.{Limits}
use Rattle.scripts.specs.declared.script.ScriptStep.{ScriptStep}
use Rattle.casemapping.specs.Names.{host_shape}
use Rattle.registration.specs.declared.settings.Settings.{Settings}
use Rattle.registration.specs.Settings.{is_motd}
use Rattle.interleave.specs.Limits.{IsWellSet}
use Rattle.scripts.specs.Script.{step_of}
use Rattle.scripts.specs.Headers.{motd_of, settings_of, is_within, are_good}
use Rattle.scripts.specs.Lines.{lines_of, Check, is_set_after, check_after, check_ahead}
use Rattle.scripts.specs.Faults.{IsFaultOf, IsGood, IsOutside}
use Rattle.scripts.proofs.Ahead.{line_before, line_last, set_by, step_line}

pub outside : (t : Check) (e : PlayFault) → IsOutside e → IsFaultOf t e
outside t (BadLine n) is = absurd is
outside t BadSettings is = absurd is
outside t ReadFailed is = tt
outside t WriteFailed is = tt
outside t Memory is = tt

-- a fault from outside is one of any script
pub from_outside : {T : Type 0} (r : Result T PlayFault) (t : Check) → IfErr r IsOutside → IfErr r (IsFaultOf t)
from_outside (Ok v) t is = tt
from_outside (Err e) t is = outside t e is

setting : (h : Option Limits) (n : ℕ) (line : List ℕ) (step : ScriptStep) (more : List (List ℕ)) (e : PlayFault)
    → step_of line ≡ Some step → IsFaultOf (check_after h 1 []) e → IsFaultOf (check_after h n (line ∷ more)) e
setting h n line step more (BadLine k) is fault = absurd (cc)
setting h n line step more BadSettings is fault = set_by h line more (ap is_some is) ∙ fault
setting h n line step more ReadFailed is fault = tt
setting h n line step more WriteFailed is fault = tt
setting h n line step more Memory is fault = tt

-- where the line is a step
pub at_step : {T : Type 0} (r : Result T PlayFault) (h : Option Limits) (n : ℕ) (line : List ℕ) (step : ScriptStep)
    → step_of line ≡ Some step → IfErr r (IsFaultOf (check_after h 1 []))
    → IfErr r (λ e. (more : List (List ℕ)) → IsFaultOf (check_after h n (line ∷ more)) e)
at_step (Ok v) h n line step is fault = tt
at_step (Err e) h n line step is fault = λ more. setting h n line step more e is fault

pub at_end_of_line : {T : Type 0} (r : Result T PlayFault) (h : Option Limits) (n : ℕ) (line : List ℕ) (b : ℕ)
    → b ≡ 10 → IfErr r (λ e. (more : List (List ℕ)) → IsFaultOf (check_after h (n + 1) (line ∷ more)) e)
    → IfErr r (λ e. (rest : List ℕ) → IsFaultOf (check_ahead h n line (b ∷ rest)) e)
at_end_of_line (Ok v) h n line b lf is = tt
at_end_of_line (Err e) h n line b lf is = λ rest. subst (λ x. IsFaultOf x e)
    (line_before h n line rest ∙ ap (λ c. check_ahead h n line (c ∷ rest)) (sym lf)) (is (lines_of rest))

pub at_end : (h : Option Limits) (n : ℕ) (line : List ℕ) (e : PlayFault)
    → ((more : List (List ℕ)) → IsFaultOf (check_after h (n + 1) (line ∷ more)) e)
    → IsFaultOf (check_ahead h n line []) e
at_end h n line e is = subst (λ x. IsFaultOf x e) (line_last h n line) (is [])

-- what a step's line tells is told from there on
pub after_step : {T : Type 0} (r : Result T PlayFault) (h h' : Option Limits) (n n' : ℕ) (line : List ℕ)
    (step : ScriptStep) → step_of line ≡ Some step → n' ≡ n → OnOk r (h' ≡ None) → OnOk r (is_set_after h [] ≡ true)
    → OnOk r ((more : List (List ℕ)) → check_after h' (n' + 1) more ≡ check_after h n (line ∷ more))
after_step (Ok v) h h' n n' line step is same none set =
    λ more. ap (λ x. check_after x (n' + 1) more) none ∙ ap (λ k. check_after None (k + 1) more) same
    ∙ step_line h n line step more is set
after_step (Err e) h h' n n' line step is same none set = tt

-- after the last line it is known whether the settings are good
pub good_at_end : {T : Type 0} (r : Result T PlayFault) (h h' : Option Limits) (n n' : ℕ) (line : List ℕ)
    → ((more : List (List ℕ)) → check_after h' (n' + 1) more ≡ check_after h (n + 1) (line ∷ more))
    → OnOk r (is_set_after h' [] ≡ true) → OnOk r (IsGood (check_ahead h n line []))
good_at_end (Ok v) h h' n n' line same set = subst IsGood (same [] ∙ line_last h n line) (refl, set)
good_at_end (Err e) h h' n n' line same set = tt

fault_after : (h h' : Option Limits) (n n' : ℕ) (line : List ℕ) (e : PlayFault)
    → ((more : List (List ℕ)) → check_after h' (n' + 1) more ≡ check_after h (n + 1) (line ∷ more))
    → IsFaultOf (check_after h' 1 []) e → IsFaultOf (check_ahead h n line []) e
fault_after h h' n n' line (BadLine k) same fault = absurd (cc)
fault_after h h' n n' line BadSettings same fault = ap
    (λ t. t.is_set) (sym (line_last h n line) ∙ sym (same [])) ∙ fault
fault_after h h' n n' line ReadFailed same fault = tt
fault_after h h' n n' line WriteFailed same fault = tt
fault_after h h' n n' line Memory same fault = tt

pub fault_at_end : {T : Type 0} (r : Result T PlayFault) (h h' : Option Limits) (n n' : ℕ) (line : List ℕ)
    → ((more : List (List ℕ)) → check_after h' (n' + 1) more ≡ check_after h (n + 1) (line ∷ more))
    → IfErr r (IsFaultOf (check_after h' 1 [])) → IfErr r (IsFaultOf (check_ahead h n line []))
fault_at_end (Ok v) h h' n n' line same fault = tt
fault_at_end (Err e) h h' n n' line same fault = fault_after h h' n n' line e same fault

-- a fault at an octet
pub at_octet : (block : List ℕ) (i : ℕ) (ahead after : List ℕ → Check) (e : PlayFault)
    → i < length block → ((rest : List ℕ) → after (drop i block ++ rest) ≡ ahead (block ++ rest))
    → ((rest : List ℕ) → IsFaultOf (after (get_or block i 0 ∷ rest)) e) → (rest : List ℕ)
    → IsFaultOf (ahead (block ++ rest)) e
at_octet block i ahead after e lt same is rest =
    subst (λ x. IsFaultOf x e) (ap (λ bs. after (bs ++ rest)) (sym (drop_more block i 0 lt)) ∙ same rest)
    (is (drop (i + 1) block ++ rest))

-- one octet on
pub octet_on : (block : List ℕ) (i : ℕ) (ahead before after : List ℕ → Check) → i < length block
    → ((rest : List ℕ) → before (drop i block ++ rest) ≡ ahead (block ++ rest))
    → ((rest : List ℕ) → after rest ≡ before (get_or block i 0 ∷ rest)) → (rest : List ℕ)
    → after (drop (i + 1) block ++ rest) ≡ ahead (block ++ rest)
octet_on block i ahead before after lt same next rest =
    next (drop (i + 1) block ++ rest) ∙ ap (λ bs. before (bs ++ rest)) (sym (drop_more block i 0 lt)) ∙ same rest

-- ---- limits are good where they set up a server

both : (a b : Bool) → (a && b) ≡ true → (a ≡ true) × (b ≡ true)
both true b e = (refl, e)
both false b e = absurd (let f : false ≡ true = e in cc)

within : (least most n : ℕ) → least ≤ n → n ≤ most → is_within least most n ≡ true
within least most n a b =
    let low : nat_le least n ≡ true = grind (arith, nat_tests) in
    let high : nat_le n most ≡ true = grind (arith, nat_tests) in
    ap (λ x. x && nat_le n most) low ∙ high

between : (least most n : ℕ) → is_within least most n ≡ true → (least ≤ n) × (n ≤ most)
between least most n e = let p = both (nat_le least n) (nat_le n most) e in let low = p.0 in let high = p.1 in
    (grind (arith, nat_tests), grind (arith, nat_tests))

well_set : (l : Limits) → are_good l ≡ true → IsWellSet (settings_of l) l.records l.workers l.sendq
unfolding host_shape
well_set l e =
    let p = both (is_within 1 1024 l.sessions) (is_within 1 10000000 l.records
    && (is_within 1 64 l.workers && (is_within 1 4096 l.sendq && is_motd (motd_of l.motd)))) e in
    let q = both (is_within 1 10000000 l.records)
    (is_within 1 64 l.workers && (is_within 1 4096 l.sendq && is_motd (motd_of l.motd))) p.1 in
    let r = both (is_within 1 64 l.workers) ((is_within 1 4096 l.sendq && is_motd (motd_of l.motd))) q.1 in
    let t = both (is_within 1 4096 l.sendq) (is_motd (motd_of l.motd)) r.1 in
    let sessions = between 1 1024 l.sessions p.0 in
    let records = between 1 10000000 l.records q.0 in
    let workers = between 1 64 l.workers r.0 in let items = between 1 4096 l.sendq t.0 in
    record {
      book = record {
        settings = record {
          some_sessions = sessions.0;
          few_sessions = sessions.1;
          server = refl;
          from_1970 = omega arith;
          to_9998 = omega arith;
          version = refl;
          info = refl;
          motd = t.1;
        };
        some_records = records.0;
        few_records = records.1;
      };
      some_workers = workers.0;
      few_workers = workers.1;
      some_items = items.0;
      few_items = items.1;
    }

pub good_by : (s : Settings) (l : Limits) → s ≡ settings_of l → IsWellSet s l.records l.workers l.sendq
    → are_good l ≡ true
good_by s l es i =
    let is : IsWellSet (settings_of l) l.records l.workers l.sendq = subst
    (λ (x : Settings). IsWellSet x l.records l.workers l.sendq) es i in
    let set = is.book.settings in
    ap (λ x. x && (is_within 1 10000000 l.records
    && (is_within 1 64 l.workers && (is_within 1 4096 l.sendq && is_motd (motd_of l.motd)))))
    (within 1 1024 l.sessions set.some_sessions set.few_sessions)
    ∙ ap (λ x. x && (is_within 1 64 l.workers && (is_within 1 4096 l.sendq && is_motd (motd_of l.motd))))
    (within 1 10000000 l.records is.book.some_records is.book.few_records)
    ∙ ap (λ x. x && (is_within 1 4096 l.sendq && is_motd (motd_of l.motd)))
    (within 1 64 l.workers is.some_workers is.few_workers)
    ∙ ap (λ x. x && is_motd (motd_of l.motd)) (within 1 4096 l.sendq is.some_items is.few_items)
    ∙ set.motd

isnt : (b : Bool) → (b ≡ true → ⊥) → b ≡ false
isnt true never = absurd (never refl)
isnt false never = refl

pub bad_by : (s : Settings) (l : Limits) → s ≡ settings_of l → (IsWellSet s l.records l.workers l.sendq → ⊥)
    → are_good l ≡ false
bad_by s l es never = isnt (are_good l)
    (λ e. never (subst (λ (x : Settings). IsWellSet x l.records l.workers l.sendq) (sym es) (well_set l e)))
