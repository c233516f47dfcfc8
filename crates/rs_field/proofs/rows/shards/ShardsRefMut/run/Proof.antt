use Rattle.rs_field.proofs.Walking.{◌≡◌, refl, ap, ◌+◌, ◌*◌, ◌^◌, ◌<◌, ◌≤◌, arith, [], ◌∷◌, length, take, drop_list}
use Rattle.rs_field.proofs.Walking.{named, w64, ftrue, flft, fact, tables, proved, ‵, ◌⊛◌, raw, some, later, at_ret}
use Rattle.rs_field.proofs.Walking.{◌$◌, ◌∵◌, !, qed, move, keep, split, split3, join, fjoin, use2, await, pick}
use Rattle.rs_field.proofs.Walking.{suffices, frame, done, rewrite, whole, sub, agg, stop, fld, hop, from, addr, bin}
use Rattle.rs_field.proofs.Walking.{of_opd, lit, first, blocks, exec, returns, enter, no_more, and_then, alloc_all}
use Rattle.rs_field.proofs.Walking.{pass_all, free_all, look_at, look_in_at, get, through, sets, sets_last, lands_as}
use Rattle.rs_field.proofs.Walking.{env, usize, yes, no, uint_vals, uint_Tells, owns, MutRef, mut_vals, mut_Tells}
use Rattle.rs_field.proofs.Walking.{plain, named_lft, Array, slice_val, mut_slice_vals, nothing, heard, framed, says}
use Rattle.rs_field.proofs.Walking.{Stays, stay_dropped, walk_of, ends_at, Goes-dropped, Goes-spent_ref}
use denote.Follow.{follows, follows_then}
use Rattle.rs_field.proofs.rows_lemmas.Runs.{run_of, run_lent, lends_run}
use Rattle.rs_field.proofs.rows_lemmas.Lenders.{calls_all}
use Rattle.rs_field.specs.rows.Rows.{Chunks}
use Rattle.rs_field.proofs.rows_lemmas.LentChunks.{E, Bare}
use Rattle.rs_field.specs.rows.Lending.{with_chunks, with_run}
use Rattle.rs_field.specs.contracts.rows.shards.ShardsRefMut.{the_row}
use Rattle.rs_field.specs.contracts.rows.shards.ShardsRefMut.run as f
use Rattle.rs_field.proofs.rows.shards.ShardsRefMut.run.Statement.{statement}
use Rattle.rs_field.proofs.rows.shards.ShardsRefMut.run.Code as code
use Rattle.rs_field.proofs.rows.shards.ShardsRefMut.all.Met.{met}

abbrev stayed : Stays f.ended.signature.params f.ended.kept
stayed = (stay_dropped _ no, (stay_dropped _ yes, (stay_dropped _ yes, tt)))

pub run_spec : {M : Type 1} → statement M
run_spec 𝓤 𝓛 𝓜 𝓡 wired =
    let c = f.clauses 𝓛 𝓜.mem 𝓡.returns in let W = walk_of 𝓛 f.ended stayed c in let 𝓣 = tables 𝓤 𝓛.H 𝓜 𝓡 𝓡.env in
    let goes = Goes-dropped 𝓛 2 (plain (λ _. usize)) yes (λ κs x w. refl) in
    proved 𝓛 f.ended stayed c 𝓜 𝓡
    (Goes-spent_ref 𝓛 2 (0 ∷ []) tt (plain (λ κs. the_row (named_lft 2 1 tt κs))), (goes, (goes, tt)))
    f.Key.name code.function (code.unfolded 𝓤 𝓛.H 𝓜 𝓡 wired)
    (λ κs. (mut_vals, (uint_vals w64, (uint_vals w64, tt))))
    (λ κs. (mut_Tells (named 0) κs.0 (the_row (named_lft 2 1 tt κs)), (uint_Tells w64, (uint_Tells w64, tt))))
    (λ κs qs bounds a _ are.
    let self = a.0 in let m = a.1.0 in let n = a.1.1.0 in
    let ch : Chunks = self.now.chunks.now in
    let vs = mut_vals self in
    let y : W.Ghost = ((κs, qs, bounds, a, (vs, (uint_vals w64 m, (uint_vals w64 n, tt)))), tt) in
    qed 𝓛 (((‵ (flft κs.0 qs.0) ⊛ ‵ (flft κs.1.0 qs.1.0) ⊛ ‵ ftrue) ⊛ ‵
    ((MutRef (named 0) κs.0 (the_row (named_lft 2 1 tt κs))).own_val self vs) ⊛ ‵
    (owns (usize ∷ usize ∷ []) a.1 (uint_vals w64 m, (uint_vals w64 n, tt)))) ∷ raw
    (fact 𝓤 (m + n ≤ length ch)) ∷ []) ∵
    move ! (1 ∷ []) $ heard ! _ (λ le. split ! $ split ! $ move ! (2 ∷ []) $ split ! $ keep ! (0 ∷ 2 ∷ 3 ∷ []) $
    -- [self; the token of the loan; the other tokens]
    enter ! _ _ _ _ _ $
    alloc_all ! (λ l. pass_all ! refl
    ((tt, tt), ((tt, record { fits = are.1.0.1 }), ((tt, record { fits = are.1.1.0.1 }), tt))) $
    sets ! (addr ! (through ! refl (stop !))) refl (tt, tt) $
    calls_all ! (framed 𝓤 𝓛.H 𝓜 𝓣)
    (met 𝓤 𝓛 𝓜 𝓡 (code.calls-rs_field::rows::shards::ShardsRefMut::all 𝓡.env wired)) κs qs bounds self
    (and_then ! (get ! refl) (no_more !)) (λ x v₁ ex ev rm.
    lands_as ! ev refl (tt, (tt, (record { fits = rm.0 }, tt))) $
    let same : length x.now ≡ length ch = ap length ex in
    let fit : length x.now * 64 < 2 ^ 63 = rm.1 in
    let fs : m * 64 < 2 ^ 64 = omega arith in
    let fn : n < 2 ^ 64 = are.1.1.0.1 in
    sets ! (addr ! (from ! (fld ! refl (hop ! (look_in_at ! 4 (sub ! 0 refl (whole !))) (stop !))))) refl (tt, tt) $
    first ! $ blocks ! $
    sets ! (bin ! (get ! refl) (lit ! tt) (record { fits = fs })) refl (tt, record { fits = fs }) $
    sets ! (bin ! (get ! refl) (get ! refl) tt) refl (tt, tt) $
    sets_last ! (agg ! (and_then ! (get ! refl) (and_then ! (get ! refl) (no_more !)))) refl
    (tt, (tt, (record { fits = fn }, tt))) $
    exec ! 𝓣.C 𝓣.Λ (env code.Mir.locals l) code.Mir.t-5 (at_ret _ (W.post y)) $
    sets ! (of_opd ! (get ! refl)) refl (tt, (tt, (record { fits = fn }, tt))) $
    use2 𝓛 (later (some (run_lent 𝓛 κs.0 qs.0 x m n (omega arith))))
    (lends_run 𝓛 κs.0 qs.0 x m n (omega arith) rm (mut_slice_vals x)) $ await ! tt $ pick ! (λ δ. split3 ! $
    -- [the run; the token of the loan; what the slice follows; the other tokens; what self follows; the locals]
    move ! (4 ∷ 2 ∷ []) $
    use2 𝓛 (‵ (follows Bare (Array E 0) self.ghost_name δ (λ w. with_chunks self.now (with_run x.now m n w))))
    (follows_then 𝓛 Bare (Array E 0) (Array E 0) (with_chunks self.now) (with_run x.now m n) self.ghost_name
    x.ghost_name δ) $
    rewrite ! 0 (λ (k : Chunks).
    ‵ (follows Bare (Array E 0) self.ghost_name δ (λ w. with_chunks self.now (with_run k m n w)))) ex refl $
    returns ! (look_at ! 0 refl) $ free_all ! refl $ move ! (1 ∷ []) $
    suffices ! _ (ends_at 𝓛 f.ended stayed c y (slice_val (run_of x m n δ).ref_ptr n) (run_of x m n δ)
    (tt, (tt, (tt, tt))) (tt, (tt, (tt, tt)))) $
    -- [the run; what self follows; the token of the loan; the other tokens]
    nothing ! $ nothing ! $ fjoin ! $ nothing ! $ fjoin ! $ nothing ! $ fjoin ! $ join ! $
    move ! (2 ∷ 3 ∷ []) $ join ! $ join ! $ frame ! $
    says ! (ap (λ (k : Chunks). take n (drop_list m k)) ex) $ done !)))))
