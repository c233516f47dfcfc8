use Rattle.rs_field.proofs.Walking.{refl, ℕ, ◌+◌, ◌*◌, ◌^◌, ◌<◌, ◌≤◌, arith, List, [], ◌∷◌, length, named, w64, Val}
use Rattle.rs_field.proofs.Walking.{vstruct, vcons, vnil, ftrue, flft, Lft, fact, tables, proved, ‵, ◌⊛◌, raw, some}
use Rattle.rs_field.proofs.Walking.{later, at_ret, ◌$◌, ◌∵◌, !, qed, move, keep, drop, split, split3, join, fsplit}
use Rattle.rs_field.proofs.Walking.{fjoin, use2, await, pick, suffices, frame, done, fpack, feq_i, whole, sub, agg}
use Rattle.rs_field.proofs.Walking.{stop, fld, hop, from, addr, bin, of_opd, lit, first, blocks, exec, returns, enter}
use Rattle.rs_field.proofs.Walking.{no_more, and_then, alloc_all, pass_all, free_all, look_at, look_in_at, get, sets}
use Rattle.rs_field.proofs.Walking.{sets_last, env, usize, yes, no, uint_vals, uint_Tells, RattleType, owns, Valss}
use Rattle.rs_field.proofs.Walking.{MutBor, plain, MutSlice, room, slice_val, mut_slice_vals, mut_slice_at, pure_l}
use Rattle.rs_field.proofs.Walking.{pure_i, nothing, heard, says, Stays, stay_dropped, walk_of, ends_at, Goes-dropped}
use Rattle.rs_field.proofs.Walking.{within, tuple_type, shape}
use denote.Slice.{mut_slice_Tells}
use base.Fml.{GName}
use denote.Triple.Walked.{Goes-spent_slice}
use Rattle.rs_field.proofs.rows_lemmas.Runs.{run_of, two_lent, lends_two}
use Rattle.rs_field.specs.rows.Rows.{Chunks}
use Rattle.rs_field.proofs.rows_lemmas.LentChunks.{E, Slice}
use Rattle.rs_field.specs.contracts.rows.shards.two_runs as f
use Rattle.rs_field.proofs.rows.shards.two_runs.Statement.{statement}
use Rattle.rs_field.proofs.rows.shards.two_runs.Code as code

abbrev Halves : Lft → List RattleType
Halves κ = MutSlice (named 0) κ E ∷ MutSlice (named 0) κ E ∷ []

abbrev stayed : Stays f.ended.signature.params f.ended.kept
stayed = (stay_dropped _ no, (stay_dropped _ yes, (stay_dropped _ yes, (stay_dropped _ yes, (stay_dropped _ yes, tt)))))

pub two_runs_spec : {M : Type 1} → statement M
two_runs_spec 𝓤 𝓛 𝓜 𝓡 wired =
    let c = f.clauses 𝓛 𝓜.mem 𝓡.returns in let W = walk_of 𝓛 f.ended stayed c in let 𝓣 = tables 𝓤 𝓛.H 𝓜 𝓡 𝓡.env in
    let goes = Goes-dropped 𝓛 1 (plain (λ _. usize)) yes (λ κs x w. refl) in
    proved 𝓛 f.ended stayed c 𝓜 𝓡
    (Goes-spent_slice 𝓛 1 (0 ∷ []) tt (plain (λ _. E)), (goes, (goes, (goes, (goes, tt)))))
    f.Key.name code.function (code.unfolded 𝓤 𝓛.H 𝓜 𝓡 wired)
    (λ κs. (mut_slice_vals, (uint_vals w64, (uint_vals w64, (uint_vals w64, (uint_vals w64, tt))))))
    (λ κs. (
      mut_slice_Tells (named 0) κs.0 E,
      (uint_Tells w64, (uint_Tells w64, (uint_Tells w64, (uint_Tells w64, tt)))),
    )) (λ κs qs bounds a _ are.
    let x : MutBor Chunks = a.0 in let i = a.1.0 in let n = a.1.1.0 in let j = a.1.1.1.0 in let m = a.1.1.1.1.0 in
    let xs : Chunks = x.now in let b = x.ref_ptr.0 in let o = x.ref_ptr.1 in
    let vs = mut_slice_vals x in
    let vals : Valss (usize ∷ usize ∷ usize ∷ usize ∷ []) =
    (uint_vals w64 i, (uint_vals w64 n, (uint_vals w64 j, (uint_vals w64 m, tt)))) in
    let y : W.Ghost = ((κs, qs, bounds, a, (vs, vals)), tt) in
    qed 𝓛 (((‵ (flft κs.0 qs.0) ⊛ ‵ ftrue) ⊛ ‵ (Slice κs.0 x vs) ⊛ ‵
    (owns (usize ∷ usize ∷ usize ∷ usize ∷ []) a.1 vals)) ∷
    (raw (fact 𝓤 (i + n ≤ j)) ⊛ raw (fact 𝓤 (j + m ≤ length xs))) ∷ []) ∵
    move ! (1 ∷ []) $ split ! $ heard ! _
    (λ apart. heard ! _ (λ le. split ! $ split ! $ move ! (2 ∷ []) $ split ! $ keep ! (0 ∷ 2 ∷ []) $
    -- [the slice; its token]
    fsplit ! $ fsplit ! $ drop ! $ pure_l ! (room E (length xs)) (λ rm.
    pure_i ! (mut_slice_at E x vs) (tt, (tt, tt)) (refl, rm) $ fjoin ! $
    let fit : length xs * 64 < 2 ^ 63 = rm.1 in
    let fi : i * 64 < 2 ^ 64 = omega arith in
    let fj : j * 64 < 2 ^ 64 = omega arith in
    let fn : n < 2 ^ 64 = are.1.1.0.1 in
    let fm : m < 2 ^ 64 = are.1.1.1.1.0.1 in
    let r : GName × GName → MutBor Chunks × MutBor Chunks = λ δ. (run_of x i n δ.0, run_of x j m δ.1) in
    let p₁ : ℕ = i * 64 + o in let p₂ : ℕ = j * 64 + o in
    let v : Val = vstruct (vcons (slice_val (b, p₁) n) (vcons (slice_val (b, p₂) m) vnil)) in
    enter ! _ _ _ _ _ $
    alloc_all ! (λ l. pass_all ! refl (
      (tt, (tt, (record { fits = rm.0 }, tt))),
      (
        (tt, record { fits = are.1.0.1 }),
        ((tt, record { fits = fn }), ((tt, record { fits = are.1.1.1.0.1 }), ((tt, record { fits = fm }), tt))),
      ),
    ) $
    sets ! (addr ! (from ! (fld ! refl (hop ! (look_in_at ! 1 (sub ! 0 refl (whole !))) (stop !))))) refl (tt, tt) $
    first ! $ blocks ! $
    sets ! (bin ! (get ! refl) (lit ! tt) (record { fits = fi })) refl (tt, record { fits = fi }) $
    sets ! (bin ! (get ! refl) (get ! refl) tt) refl (tt, tt) $
    sets ! (agg ! (and_then ! (get ! refl) (and_then ! (get ! refl) (no_more !)))) refl
    (tt, (tt, (record { fits = fn }, tt))) $
    sets ! (bin ! (get ! refl) (lit ! tt) (record { fits = fj })) refl (tt, record { fits = fj }) $
    sets ! (bin ! (get ! refl) (get ! refl) tt) refl (tt, tt) $
    sets ! (agg ! (and_then ! (get ! refl) (and_then ! (get ! refl) (no_more !)))) refl
    (tt, (tt, (record { fits = fm }, tt))) $
    sets_last ! (agg ! (and_then ! (get ! refl) (and_then ! (get ! refl) (no_more !)))) refl
    (tt, ((tt, (record { fits = fn }, tt)), ((tt, (record { fits = fm }, tt)), tt))) $
    exec ! 𝓣.C 𝓣.Λ (env code.Mir.locals l) code.Mir.t-3 (at_ret _ (W.post y)) $
    sets ! (of_opd ! (get ! refl)) refl
    (tt, ((tt, (record { fits = fn }, tt)), ((tt, (record { fits = fm }, tt)), tt))) $
    -- [the slice; its token; the locals]
    use2 𝓛 (later (some (two_lent 𝓛 κs.0 qs.0 x i n j m apart le))) (lends_two 𝓛 κs.0 qs.0 x i n j m apart le rm vs) $
    await ! tt $ pick ! (λ δ. split3 ! $
    -- [the first; the second; the token and what the slice follows; the locals]
    nothing ! $ move ! (2 ∷ 0 ∷ []) $ fjoin ! $ move ! (1 ∷ 0 ∷ []) $ fjoin ! $
    feq_i ! (List Val) (v ∷ []) (v ∷ []) refl $ fjoin ! $
    fpack ! (Valss (Halves κs.0)) (within (shape (tuple_type (Halves κs.0))) ((r δ).0, ((r δ).1, tt)) (v ∷ []))
    (slice_val (b, p₁) n ∷ [], (slice_val (b, p₂) m ∷ [], tt)) $
    move ! (1 ∷ []) $ split ! $
    -- [the token; what the slice follows; the pair]
    returns ! (look_at ! 0 refl) $ free_all ! refl $
    suffices ! _ (ends_at 𝓛 f.ended stayed c y v (r δ) (tt, (tt, (tt, (tt, (tt, tt)))))
    (tt, (tt, (tt, (tt, (tt, tt)))))) $
    keep ! (2 ∷ 0 ∷ 1 ∷ []) $
    nothing ! $ nothing ! $ fjoin ! $ nothing ! $ fjoin ! $ nothing ! $ fjoin ! $ nothing ! $ fjoin ! $ nothing ! $
    fjoin ! $ join ! $ nothing ! $ move ! (2 ∷ 0 ∷ []) $ join ! $ join ! $ frame ! $ says ! (refl, refl) $ done !))))))
