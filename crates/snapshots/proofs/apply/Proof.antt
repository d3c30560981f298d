-- `apply` changes no byte: at its end the snapshot is given the changed value. Assumes `Logic`.
use Rattle.std.proofs.Common.{List, [], ◌∷◌, refl}
use Rattle.std.proofs.raw_atomic.Walks.{proved}
use mir.Syntax.{Fn, a_type, named, Dict, dcons, dnil}
use mir.Val.{Val, vunit, vptr}
use mir.MapTy.{inst_fn}
use base.Fml.{ftrue, flft}
use types.Kit.{‵, raw, ◌⊛◌, ◌$◌, ◌∵◌, !, qed, done, move, keep, drop, split, join}
use types.Kit.{fsplit, fsplit3, fjoin, fjoin3, feq_i, suffices}
use types.Run.{enter, of_opd, unit_lit, returns}
use types.ByLocal.{alloc_all, pass_all, free_all, look_at, sets}
use denote.RattleType.{RattleType, owns}
use denote.Builtin.{RefOf}
use denote.Exit.{yes}
use denote.Param.{param, bounded}
use denote.Ref.{mut_vals, mut_Tells, shr_vals, shr_Tells}
use denote.Signature.{plain, types_at}
use denote.Steps.{nothing, opens, closes}
use denote.Triple.Walked.{Stays, walk_of, says, stay_ref, stay_dropped, Goes-ref, Goes-dropped, ends_at}
use Rattle.snapshots.specs.contracts.Snapshot as Snapshot
use Rattle.snapshots.specs.declared.GhostChange.{Ghosts}
use Rattle.snapshots.specs.contracts.apply as f
use Rattle.snapshots.proofs.apply.Statement.{statement}
use Rattle.snapshots.proofs.apply.Code as code

module _ (C T X : RattleType) (g : Ghosts C.Denot T.Denot X.Denot) (d : Dict) where
  abbrev R : RattleType
  R = Snapshot.the_row (param 1 T)

  abbrev S : RattleType
  S = param 2 X

  abbrev function : Fn
  function = inst_fn (bounded (a_type ∷ a_type ∷ a_type ∷ []) (C, (T, (X, tt))) (dcons d dnil)) code.function

  abbrev stayed : Stays (f.ended C T X g d).signature.params (f.ended C T X g d).kept
  stayed = (
    stay_ref (0 ∷ []) tt (plain (λ _. R)),
    (stay_dropped (RefOf (1 ∷ []) tt (plain (λ _. S)) (λ _. tt)) yes, tt),
  )

pub apply_spec : {M : Type 1} → statement M
apply_spec 𝓤 𝓛 𝓜 𝓡 wired C T X LC LT LX g d _ =
    let c = f.clauses C T X g d 𝓛 𝓜.mem 𝓡.returns in
    let F = f.ended C T X g d in
    let st = stayed C T X g d in let fn = function C T X g d in let W = walk_of 𝓛 F st c in let row = R C T X g d in
    proved 𝓛 F st c 𝓜 𝓡 (
      Goes-ref 𝓛 5 0 tt (plain (λ _. row)),
      (Goes-dropped 𝓛 5 (RefOf (1 ∷ []) tt (plain (λ _. S C T X g d)) (λ _. tt)) yes (λ κs x w. refl), tt),
    )
    (f.Key.name (bounded (a_type ∷ a_type ∷ a_type ∷ []) (C, (T, (X, tt))) (dcons d dnil))) fn
    (code.unfolded 𝓤 𝓛.H 𝓜 𝓡 wired (C, (T, (X, tt))) d)
    (λ κs. (mut_vals, (shr_vals, tt)))
    (λ κs. (mut_Tells (named 0) κs.0 row, (shr_Tells (named 1) κs.1.0 (S C T X g d), tt)))
    (λ κs qs bounds a _ are.
    let r = a.0 in
    let b = r.ref_ptr.0 in
    let o = r.ref_ptr.1 in let vss : List Val × (List Val × Unit {0}) = (mut_vals r, (shr_vals a.1.0, tt)) in
    let y : W.Ghost = ((κs, qs, bounds, a, vss), tt) in
    let new : row.Denot = record { marker = r.now.marker; value = g.changed r.now.value a.1.0.now } in
    qed 𝓛 (((‵ (flft κs.0 qs.0) ⊛ ‵ (flft κs.1.0 qs.1.0) ⊛ ‵ (flft κs.1.1.0 qs.1.1.0) ⊛ ‵
    (flft κs.1.1.1.0 qs.1.1.1.0) ⊛ ‵ (flft κs.1.1.1.1.0 qs.1.1.1.1.0) ⊛ ‵ ftrue) ⊛ ‵
    (owns (types_at F.signature.params κs) a vss)) ∷ raw ((c κs a).requires tt) ∷ []) ∵
    move ! (1 ∷ []) $ drop ! $ split ! $ split ! $ move ! (2 ∷ []) $ fsplit ! $ fsplit3 ! $ keep !
    (1 ∷ 2 ∷ 4 ∷ 5 ∷ []) $
    enter ! _ _ fn (vptr b o ∷ vptr a.1.0.ref_ptr.0 a.1.0.ref_ptr.1 ∷ []) _ $ alloc_all !
    (λ l. pass_all ! refl ((tt, tt), ((tt, tt), tt)) $
    -- [the `&mut`, in two parts; its token; the other tokens]
    opens ! tt row b o (λ us. closes ! tt row new us b o $
    sets ! (of_opd ! (unit_lit !)) refl (tt, tt) $ returns ! (look_at ! 0 refl) $ free_all ! refl $
    suffices ! _ (ends_at 𝓛 F st c y vunit tt (new, (tt, tt)) (tt, (tt, tt))) $ says ! refl $
    feq_i ! (List Val) (vptr b o ∷ []) (vptr b o ∷ []) refl $ fjoin3 ! $ nothing ! $ nothing ! $ fjoin ! $ move !
    (1 ∷ 0 ∷ []) $ fjoin ! $
    feq_i ! (List Val) (vunit ∷ []) (vunit ∷ []) refl $ move ! (1 ∷ 0 ∷ []) $ join ! $ move !
    (1 ∷ 2 ∷ []) $ join ! $ join ! $ done !)))
