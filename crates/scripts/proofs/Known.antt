-- What is told of the known bytes of a reader stays true as they are read.
use Rattle.std.proofs.Common.{◌≡◌, ℕ, true, false, List, [], ◌++◌, Option, Some, None}
use Rattle.std.proofs.Common.{Result, Ok, Err, is_ok, refl, sym, ap, ◌∙◌, subst}
use Rattle.std.specs.Prelude.{IfSome, IfErr, OnOk}
use Rattle.std.specs.Option.{option_map}
use Rattle.std.specs.Io.KnownBytes.{Consumes, Keeps, IsAtEnd, Appends}
use Rattle.scripts.specs.declared.entry.PlayFault.{PlayFault}
use Rattle.scripts.specs.declared.entry.PlayFault.TheVariants.{WriteFailed}
use Rattle.scripts.specs.Headers.{default_limits}
use Rattle.scripts.specs.Lines.{text_before, lines_of, limits_after, Check, check_of, check_after, check_ahead}
use Rattle.scripts.specs.declared.header.Limits.{Limits}
use Rattle.scripts.specs.declared.reader.Stage.{Stage}
use Rattle.scripts.specs.declared.reader.Stage.TheVariants.{Head, Steps}
use Rattle.scripts.specs.Stages.{head_of}
use Rattle.scripts.specs.Printed.{steps_of, start_of, ArePerformed, PrintsAhead, IsPrinted}
use Rattle.scripts.specs.Faults.{IsFaultOf}
use Rattle.scripts.proofs.Ahead.{continued-nil}

pub read_more : (old new : Option (List ℕ)) (bs : List ℕ) (f after : List ℕ → Check) (x : Check) → Consumes old new bs
    → ((rest : List ℕ) → after rest ≡ f (bs ++ rest)) → option_map f old ≡ Some x → option_map after new ≡ Some x
read_more None new bs f after x read same is = cc
read_more (Some xs) None bs f after x read same is = absurd read
read_more (Some xs) (Some ys) bs f after x read same is = ap Some (same ys ∙ ap f (sym read)) ∙ is

pub read_none : (old new : Option (List ℕ)) (f : List ℕ → Check) (x : Check) → Keeps old new
    → option_map f old ≡ Some x → option_map f new ≡ Some x
read_none None new f x keeps is = cc
read_none (Some xs) None f x keeps is = absurd keeps
read_none (Some xs) (Some ys) f x keeps is = ap (λ bs. Some (f bs)) keeps ∙ is

pub at_end : (old new : Option (List ℕ)) (f : List ℕ → Check) (x : Check) → Consumes old new [] → IsAtEnd new
    → option_map f old ≡ Some x → f [] ≡ x
at_end None new f x read end is = cc
at_end (Some xs) None f x read end is = absurd read
at_end (Some xs) (Some ys) f x read end is = let same : Some (f [])
    ≡ Some x = ap (λ bs. Some (f bs)) (sym (read ∙ end)) ∙ is in cc

pub fault_at : (old new : Option (List ℕ)) (bs : List ℕ) (f : List ℕ → Check) (x : Check) (e : PlayFault)
    → Consumes old new bs → ((rest : List ℕ) → IsFaultOf (f (bs ++ rest)) e) → option_map f old ≡ Some x
    → IsFaultOf x e
fault_at None new bs f x e read fault is = absurd (cc)
fault_at (Some xs) None bs f x e read fault is = absurd read
fault_at (Some xs) (Some ys) bs f x e read fault is =
    let same : f (bs ++ ys)
    ≡ x = (let h : Some (f xs) ≡ Some x = is in let k : f (bs ++ ys) ≡ f xs = ap f (sym read) in cc) in
    subst (λ y. IsFaultOf y e) same (fault ys)

-- what was appended stays appended where nothing changes
pub appends_kept : (a b c : Option (List ℕ)) (bs : List ℕ) → Appends a b bs → Keeps b c → Appends a c bs
appends_kept None b c bs appended kept = tt
appends_kept (Some xs) None c bs appended kept = absurd appended
appends_kept (Some xs) (Some ys) None bs appended kept = absurd kept
appends_kept (Some xs) (Some ys) (Some zs) bs appended kept = kept ∙ appended

-- a play begins before the first line
pub start : (script : List ℕ) → check_ahead (Some default_limits) 0 [] script ≡ check_of script
start script = ap (check_after (Some default_limits) 1) (continued-nil (lines_of script))

pub if_known : (P : List ℕ → Type 0) (known : Option (List ℕ))
    → ((script : List ℕ) → known ≡ Some script → P script) → IfSome known P
if_known P None all = tt
if_known P (Some script) all = all script refl

-- ---- a whole script

pub told_from_start : (head : Option Limits) (ended : ℕ) (line : List ℕ) → head ≡ Some default_limits → ended ≡ 0
    → line ≡ [] → (script : List ℕ) → check_ahead head ended line script ≡ check_of script
told_from_start head ended line h e l script =
    ap (λ (x : Option Limits). check_ahead x ended line script) h ∙ ap
    (λ (n : ℕ). check_ahead (Some default_limits) n line script) e ∙ ap
    (λ (bs : List ℕ). check_ahead (Some default_limits) 0 bs script) l ∙ start script

pub printed_from_start : {L : Type 0} (stage : Stage L) (line : List ℕ) → head_of stage ≡ Some default_limits
    → line ≡ [] → (script text : List ℕ) → PrintsAhead stage line script text → IsPrinted script text
printed_from_start (Head k) line h l script text p =
    let ls = lines_of script in
    let same : k ≡ default_limits = (let f : Some k ≡ Some default_limits = h in cc) in
    subst (λ (xs : List (List ℕ)). ArePerformed (steps_of xs) [] (start_of (limits_after default_limits xs)) text)
    (continued-nil ls)
    (subst (λ (x : Limits). ArePerformed (steps_of (text_before [] ls)) []
    (start_of (limits_after x (text_before [] ls))) text) same
    (subst (λ (bs : List ℕ). ArePerformed (steps_of (text_before bs ls)) []
    (start_of (limits_after k (text_before bs ls))) text) l p))
printed_from_start (Steps player) line h l script text p = absurd (let f : None ≡ Some default_limits = h in cc)

-- ---- a script was played, and its writer flushed

-- who ends well played well
pub ok_too : {T E : Type 0} (X : Type 0) (r p : Result T E) → OnOk r (is_ok p ≡ true) → OnOk p X → OnOk r X
ok_too X (Ok u) (Ok v) e x = x
ok_too X (Ok u) (Err f) e x = absurd (let c : false ≡ true = e in cc)
ok_too X (Err f) p e x = tt

pub then_ok : {T E X Y : Type 0} (p : Result T E) → (X → Y) → OnOk p X → OnOk p Y
then_ok (Ok v) f x = f x
then_ok (Err e) f x = tt

-- the fault is that of playing, or that of the writer
pub err_too : {T : Type 0} (P : PlayFault → Type 0) (r p : Result T PlayFault) → P WriteFailed
    → IfErr r (λ e. IfErr p (λ f. e ≡ f)) → IfErr r (λ e. OnOk p (e ≡ WriteFailed)) → IfErr p P → IfErr r P
err_too P (Ok u) p w same write all = tt
err_too P (Err e) (Ok v) w same write all = subst P (sym write) w
err_too P (Err e) (Err f) w same write all = subst P (sym same) all

pub then_err : {T : Type 0} (A B : PlayFault → Type 0) (p : Result T PlayFault) → ((e : PlayFault) → A e → B e)
    → IfErr p A → IfErr p B
then_err A B (Ok v) f a = tt
then_err A B (Err e) f a = f e a
