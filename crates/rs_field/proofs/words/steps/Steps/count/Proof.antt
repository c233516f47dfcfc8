-- An empty body. The borrow is opened and closed at another ghost value.
use Rattle.rs_field.proofs.Walking.{refl, [], ◌∷◌, ◌+◌, proved, named, w64, id⊢, ftrue, flft, ‵, ◌⊛◌, ◌$◌, ◌∵◌, !, qed}
use Rattle.rs_field.proofs.Walking.{move, keep, use1, split, join, fsplit3, fjoin, feq_i, suffices, frame, group, done}
use Rattle.rs_field.proofs.Walking.{of_opd, returns, enter, alloc_all, pass_all, free_all, look_at, sets, usize, yes}
use Rattle.rs_field.proofs.Walking.{uint_vals, uint_Tells, owns, Valss, MutRef, mut_vals, mut_Tells, plain, opens}
use Rattle.rs_field.proofs.Walking.{closes, nothing, says, Stays, stay_dropped, walk_of, ends_at, Goes-dropped}
use mir.Val.{vunit}
use types.Run.{unit_lit}
use denote.Triple.Walked.{stay_ref, Goes-ref}
use Rattle.rs_field.specs.declared.words.steps.Steps.{Steps}
use Rattle.rs_field.specs.contracts.words.steps.Steps as T
use Rattle.rs_field.specs.contracts.words.steps.Steps.count as f
use Rattle.rs_field.proofs.words.steps.Steps.count.Statement.{statement}
use Rattle.rs_field.proofs.words.steps.Steps.count.Code as code

abbrev stayed : Stays f.ended.signature.params f.ended.kept
stayed = (
  stay_ref (0 ∷ []) tt (plain (λ _. T.the_row)),
  (stay_dropped _ yes, (stay_dropped _ yes, (stay_dropped _ yes, tt))),
)

pub count_spec : {M : Type 1} → statement M
count_spec 𝓤 𝓛 𝓜 𝓡 wired =
    let c = f.clauses 𝓛 𝓜.mem 𝓡.returns in let W = walk_of 𝓛 f.ended stayed c in
    let goes = Goes-dropped 𝓛 1 (plain (λ _. usize)) yes (λ κs x w. refl) in
    proved 𝓛 f.ended stayed c 𝓜 𝓡 (Goes-ref 𝓛 1 0 tt (plain (λ _. T.the_row)), (goes, (goes, (goes, tt))))
    f.Key.name code.function (code.unfolded 𝓤 𝓛.H 𝓜 𝓡 wired)
    (λ κs. (mut_vals, (uint_vals w64, (uint_vals w64, (uint_vals w64, tt)))))
    (λ κs. (mut_Tells (named 0) κs.0 T.the_row, (uint_Tells w64, (uint_Tells w64, (uint_Tells w64, tt)))))
    (λ κs qs bounds a _ are.
    let b = a.0.ref_ptr.0 in let o = a.0.ref_ptr.1 in let h : Steps = a.0.now in let vs = mut_vals a.0 in
    let after : Steps = record {
      marker = h.marker;
      row_steps = h.row_steps + a.1.0;
      pair_sums = h.pair_sums + a.1.1.0;
      products =
          h.products + a.1.1.1.0;
    } in
    let vals : Valss (usize ∷ usize ∷ usize ∷ []) =
    (uint_vals w64 a.1.0, (uint_vals w64 a.1.1.0, (uint_vals w64 a.1.1.1.0, tt))) in
    let y : W.Ghost = ((κs, qs, bounds, a, (vs, vals)), tt) in
    qed 𝓛 (((‵ (flft κs.0 qs.0) ⊛ ‵ ftrue) ⊛ ‵ ((MutRef (named 0) κs.0 T.the_row).own_val a.0 vs) ⊛ ‵
    (owns (usize ∷ usize ∷ usize ∷ []) a.1 vals)) ∷ ‵ ftrue ∷ []) ∵
    split ! $ split ! $ move ! (2 ∷ []) $ split ! $ keep ! (0 ∷ 2 ∷ []) $
    enter ! _ _ _ _ _ $
    alloc_all ! (λ l. pass_all ! refl (
      (tt, tt),
      (
        (tt, record { fits = are.1.0.1 }),
        ((tt, record { fits = are.1.1.0.1 }), ((tt, record { fits = are.1.1.1.0.1 }), tt)),
      ),
    ) $
    fsplit3 ! $ move ! (1 ∷ 2 ∷ 3 ∷ []) $ opens ! tt T.the_row {h = h} b o (λ us.
    sets ! (of_opd ! (unit_lit !)) refl (tt, tt) $
    move ! (1 ∷ []) $ use1 𝓛 (‵ ((T.the_row).own_val after us)) (id⊢ 𝓤 _) $ move !
    (1 ∷ 0 ∷ []) $ closes ! tt T.the_row after us b o $
    returns ! (look_at ! 0 refl) $ free_all ! refl $ move ! (3 ∷ []) $
    suffices ! _ (ends_at 𝓛 f.ended stayed c y vunit tt (after, (tt, (tt, (tt, tt)))) (tt, (tt, (tt, (tt, tt))))) $ says
    ! (refl, refl, refl) $
    group ! 3 $ nothing ! $ nothing ! $ fjoin ! $ nothing ! $ fjoin ! $ nothing ! $ fjoin ! $
    move ! (1 ∷ 0 ∷ []) $ join ! $ nothing ! $ move ! (2 ∷ 0 ∷ []) $ join ! $ frame ! $ frame ! $ feq_i ! _
    (vunit ∷ []) _ refl $ done !)))
