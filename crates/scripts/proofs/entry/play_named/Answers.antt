use Rattle.std.proofs.Common.{◌≡◌, List, ℕ, Some, subst}
use Rattle.scripts.specs.declared.entry.PlayFault.{PlayFault}
use Rattle.scripts.specs.declared.entry.PlayFault.TheVariants.{WriteFailed}
use Rattle.std.specs.Prelude.{IfSome}
use Rattle.scripts.specs.Lines.{Check, check_of, check_ahead}
use Rattle.scripts.specs.Stages.{head_of}
use Rattle.scripts.specs.Faults.{IsFaultOf, IsGood}
use Rattle.scripts.specs.Printed.{IsPrinted}
use Rattle.scripts.proofs.Known.{if_known, appends_kept, told_from_start}
use Rattle.scripts.proofs.Known.{printed_from_start, ok_too, then_ok, err_too, then_err}
use Rattle.scripts.proofs.Caused.{given_on}
use Rattle.scripts.proofs.entry.play_named.Goals as goal

pub returns-clause-fault : goal.returns-clause-fault
returns-clause-fault g c =
    let r = c.new-reader.ensures in let new = c.new-reader.result in
    let known = g.R.Read.remaining c.args.input.now.inner in
    let told = λ (e : PlayFault). IfSome known (λ script. IsFaultOf (check_of script) e) in
    err_too told c.flush_after.result c.play_lines-played.result
    (if_known (λ script. IsFaultOf (check_of script) WriteFailed) known (λ script k. tt))
    c.flush_after.ensures.fault c.flush_after.ensures.write
    (then_err (λ e. (script : List ℕ) → known ≡ Some script
    → IsFaultOf (check_ahead (head_of new.stage) new.ended new.line.items script) e) told c.play_lines-played.result
    (λ e all. if_known (λ script. IsFaultOf (check_of script) e) known
    (λ script k. subst (λ (x : Check). IsFaultOf x e)
    (told_from_start _ new.ended new.line.items r.head r.ended r.line script) (all script k)))
    c.play_lines-played.ensures.fault)

pub returns-clause-good : goal.returns-clause-good
returns-clause-good g c =
    let r = c.new-reader.ensures in let new = c.new-reader.result in
    let known = g.R.Read.remaining c.args.input.now.inner in
    ok_too _ c.flush_after.result c.play_lines-played.result c.flush_after.ensures.played
    (then_ok c.play_lines-played.result
    (λ all. if_known (λ script. IsGood (check_of script)) known
    (λ script k. subst (λ (x : Check). IsGood x)
    (told_from_start _ new.ended new.line.items r.head r.ended r.line script) (all script k)))
    c.play_lines-played.ensures.good)

pub returns-clause-printed : goal.returns-clause-printed
returns-clause-printed g c =
    let r = c.new-reader.ensures in let new = c.new-reader.result in
    let known = g.R.Read.remaining c.args.input.now.inner in
    ok_too _ c.flush_after.result c.play_lines-played.result c.flush_after.ensures.played
    (then_ok c.play_lines-played.result
    (λ p. (
      p.0,
      appends_kept _ _ _ p.0 p.1 c.flush_after.ensures.keeps,
      if_known (λ script. IsPrinted script p.0) known
          (λ script k. printed_from_start new.stage new.line.items r.head r.line script p.0 (p.2 script k)),
    ))
    c.play_lines-played.ensures.printed)

pub returns-clause-cause : goal.returns-clause-cause
returns-clause-cause g c =
    given_on c.args.input.now c.play_lines-played.new.input c.args.output.now c.play_lines-played.new.output
    c.flush_after.new.output c.flush_after.result c.play_lines-played.result c.play_lines-played.ensures.cause
    c.play_lines-played.ensures.same c.flush_after.ensures.fault c.flush_after.ensures.write
    c.flush_after.ensures.grows c.flush_after.ensures.cause
