use Rattle.rs_field.proofs.Walking.{◌≡◌, refl, sym, ap, ◌∙◌, ◌+◌, ◌*◌, ◌<◌, ◌≤◌, arith, [], ◌∷◌, length, named, w64}
use Rattle.rs_field.proofs.Walking.{id⊢, emp, Lft, ftrue, flft, fact, fact_i, tables, proved, ‵, ◌⊛◌, raw, some, later}
use Rattle.rs_field.proofs.Walking.{◌$◌, ◌∵◌, !, qed, move, keep, drop, split, split3, join, fsplit, fjoin, feq_l}
use Rattle.rs_field.proofs.Walking.{feq_i, use0, use1, use2, await, pick, suffices, done, stop, addr, of_opd, returns}
use Rattle.rs_field.proofs.Walking.{enter, no_more, and_then, alloc_all, pass_all, free_all, look_at, get, through}
use Rattle.rs_field.proofs.Walking.{sets, lands_as, usize, yes, Is, shows, uint_vals, uint_Tells, uint_Makes}
use Rattle.rs_field.proofs.Walking.{RattleType, owns, Valss, MutBor, MutRef, mut_vals, mut_Tells, plain, named_lft}
use Rattle.rs_field.proofs.Walking.{Array, nothing, heard, only, peeks, owned, calls_at, lasts, triple_of, framed}
use Rattle.rs_field.proofs.Walking.{Stays, stay_dropped, walk_of, ends_at, says, Goes-dropped, use3, unit_lit, stay_ref}
use Rattle.rs_field.proofs.Walking.{Goes-ref, unit, fres, GName, vunit}
use base.Share
use denote.Follow.{both_by}
use Rattle.rs_field.proofs.rows_lemmas.LentChunks.{E, Bare, Pair, pair}
use Rattle.rs_examples.proofs.LentWalks.{meet_⊑_right, followed₂, mem, row-ended, code₀, Lent, lends, Back, gives_back}
use Rattle.rs_examples.proofs.LentRows.{row-long, swapped_rows, swapped}
use Rattle.rs_field.specs.rows.Rows.{Chunks}
use Rattle.rs_field.specs.rows.View.{row_at}
use Rattle.rs_field.specs.rows.Lending.{LendsTwoRows, with_chunks, with_two}
use Rattle.rs_field.specs.declared.rows.shards.ShardsRefMut.{ShardsRefMut}
use Rattle.rs_field.specs.contracts.rows.shards.ShardsRefMut.{the_row}
use Rattle.rs_examples.specs.contracts.lent_rows.swap_rows as f
use Rattle.rs_examples.proofs.lent_rows.swap_rows.Statement.{statement}
use Rattle.rs_examples.proofs.lent_rows.swap_rows.Code as code
use Rattle.rs_field.specs.contracts.rows.shards.ShardsRefMut.dist2_mut as g
use Rattle.rs_field.proofs.rows.shards.ShardsRefMut.dist2_mut.Met.{met}
use Rattle.rs_examples.specs.contracts.lent_rows.swap_two as g'
use Rattle.rs_examples.proofs.lent_rows.swap_two.Met.{met as met'}

abbrev stayed : Stays f.ended.signature.params f.ended.kept
stayed = (
  stay_ref (0 ∷ []) tt (plain (λ κs. the_row (named_lft 2 1 tt κs))),
  (stay_dropped _ yes, (stay_dropped _ yes, tt)),
)

pub swap_rows_spec : {M : Type 1} → statement M
unfolding both_by
swap_rows_spec 𝓤 𝓛 𝓜 𝓡 wired =
    let c = f.clauses 𝓛 𝓜.mem 𝓡.returns in let W = walk_of 𝓛 f.ended stayed c in let 𝓣 = tables 𝓤 𝓛.H 𝓜 𝓡 𝓡.env in
    let goes = Goes-dropped 𝓛 2 (plain (λ _. usize)) yes (λ κs x w. refl) in
    proved 𝓛 f.ended stayed c 𝓜 𝓡 (Goes-ref 𝓛 2 0 tt (plain (λ κs. the_row (named_lft 2 1 tt κs))), (goes, (goes, tt)))
    f.Key.name code.function (code.unfolded 𝓤 𝓛.H 𝓜 𝓡 wired)
    (λ κs. (mut_vals, (uint_vals w64, (uint_vals w64, tt))))
    (λ κs. (mut_Tells (named 0) κs.0 (the_row (named_lft 2 1 tt κs)), (uint_Tells w64, (uint_Tells w64, tt))))
    (λ κs qs bounds a _ are.
    let self = a.0 in let pos = a.1.0 in let dist = a.1.1.0 in
    let κ₀ : Lft = κs.0 in let κ₁ : Lft = κs.1.0 in let q₁ = qs.1.0 in
    let Row : RattleType = the_row (named_lft 2 1 tt κs) in
    let h : ShardsRefMut = self.now in let ch : Chunks = h.chunks.now in let n = h.shard_len_64 in
    let vs = mut_vals self in
    let vals : Valss (usize ∷ usize ∷ []) = (uint_vals w64 pos, (uint_vals w64 dist, tt)) in
    let y : W.Ghost = ((κs, qs, bounds, a, (vs, vals)), tt) in
    qed 𝓛 (((‵ (flft κ₀ qs.0) ⊛ ‵ (flft κ₁ q₁) ⊛ ‵ ftrue) ⊛ ‵ ((MutRef (named 0) κ₀ Row).own_val self vs) ⊛ ‵
    (owns (usize ∷ usize ∷ []) a.1 vals))
    ∷ (raw (fact 𝓤 (h.shard_count * n ≤ length ch)) ⊛ raw (fact 𝓤 (0 < dist)) ⊛ raw
    (fact 𝓤 (pos + dist < h.shard_count))) ∷ []) ∵
    move ! (1 ∷ []) $ split ! $ heard ! _
    (λ fits. split ! $ heard ! _ (λ apart. heard ! _ (λ within. split ! $ split3 ! $
    move ! (3 ∷ []) $ split ! $ keep ! (0 ∷ 2 ∷ 3 ∷ 4 ∷ []) $
    -- [self; its token; the list's; the other tokens]
    enter ! _ _ _ _ _ $
    alloc_all ! (λ l. pass_all ! refl
    ((tt, tt), ((tt, record { fits = are.1.0.1 }), ((tt, record { fits = are.1.1.0.1 }), tt))) $
    sets ! (addr ! (through ! refl (stop !))) refl (tt, tt) $
    move ! (2 ∷ 0 ∷ 1 ∷ []) $ use3 𝓛 (later (some (Lent 𝓛 Row κ₀ κ₁ qs.0 q₁ self)))
    (lends 𝓛 Row κ₀ κ₁ qs.0 q₁ self) $ await ! tt $ pick ! (λ loan. split3 ! $
    let κ : Lft = loan.0 ∷ κ₁ in let ql = Share.left q₁ in let qr = Share.right q₁ in let δ : GName = loan.1 in
    let lent : MutBor ShardsRefMut = record self { ghost_name = δ } in
    move ! (2 ∷ []) $ split ! $ move ! (2 ∷ 3 ∷ 0 ∷ 1 ∷ []) $
    -- [the loan; its token; what is left of the list's; what the lender keeps; the other tokens]
    let G = triple_of 𝓛 g.signature (g.spec 𝓛 𝓜.mem 𝓡.returns) in
    let z : G.Ghost = (
      (
        (κ, (κ₁, tt)),
        (ql, (qr, tt)),
        (meet_⊑_right (loan.0 ∷ []) κ₁, tt),
        (lent, (pos, (dist, tt))),
        (vs, vals),
      ),
      tt,
    ) in
    nothing ! $ owned ! usize _ (uint_Makes 𝓛 w64) dist _ (refl, are.1.1.0.1) $ fjoin ! $
    owned ! usize _ (uint_Makes 𝓛 w64) pos _ (refl, are.1.0.1) $ fjoin ! $
    move ! (1 ∷ 0 ∷ []) $ join ! $ nothing ! $ move ! (3 ∷ 0 ∷ []) $ join ! $ move ! (2 ∷ 0 ∷ []) $ join ! $ join ! $
    use0 𝓛 (raw (fact 𝓤 (pos + dist < h.shard_count))) (fact_i 𝓤 (pos + dist < h.shard_count) (emp 𝓤) within) $
    use0 𝓛 (raw (fact 𝓤 (0 < dist))) (fact_i 𝓤 (0 < dist) (emp 𝓤) apart) $ join ! $
    use0 𝓛 (raw (fact 𝓤 (h.shard_count * n ≤ length ch)))
    (fact_i 𝓤 (h.shard_count * n ≤ length ch) (emp 𝓤) fits) $ join ! $
    move ! (1 ∷ 0 ∷ []) $ use2 𝓛 (raw (G.pre z)) (id⊢ 𝓤 _) $
    calls_at ! (framed 𝓤 𝓛.H 𝓜 𝓣) G
    (met 𝓤 𝓛 𝓜 𝓡 (code.calls-rs_field::rows::shards::ShardsRefMut::dist2_mut 𝓡.env wired)) z
    (and_then ! (get ! refl) (and_then ! (get ! refl) (and_then ! (get ! refl) (no_more !)))) (λ v.
    use1 𝓛 (later (some (λ (x : MutBor Chunks × MutBor Chunks).
    ((‵ (flft κ ql) ⊛ ‵ (flft κ₁ qr) ⊛ ‵ ftrue) ⊛ ‵ ((Pair κ).own_val x (v ∷ []))) ⊛
    some (λ (ws : Unit {0} × (Unit {0} × (Unit {0} × Unit {0}))).
    ‵ (lasts g.ended z.0.0 z.0.3 ws) ⊛ ‵ (LendsTwoRows lent pos (pos + dist) x)
    ⊛ raw (fact 𝓤 (x.0.now ≡ row_at h pos)) ⊛ raw (fact 𝓤 (x.1.now ≡ row_at h (pos + dist))))))) (id⊢ 𝓤 _) $
    await ! tt $ pick ! (λ x.
    split ! $ split ! $ move ! (2 ∷ []) $ pick !
    (λ ws. split ! $ drop ! $ split ! $ move ! (1 ∷ []) $ split ! $ heard ! _
    (λ now₁. heard ! _ (λ now₂. move ! (2 ∷ []) $
    -- [the pair; what the loan follows; its tokens; what the lender keeps; the other tokens]
    peeks ! (Pair κ) (Is (Pair κ)) (shows 𝓛 (Pair κ)) x (v ∷ []) (λ shown.
    lands_as ! refl refl ((pair 𝓛 κ).typed x (v ∷ []) shown).0 $
    let G' = triple_of 𝓛 g'.signature (g'.spec 𝓛 𝓜.mem 𝓡.returns) in
    let z' : G'.Ghost = (((κ, tt), (ql, tt), tt, (x, tt), (v ∷ [], tt)), tt) in
    let as_long : length x.0.now ≡ length x.1.now = ap length now₁ ∙ row-long h pos fits (omega (arith, within))
    ∙ sym (ap length now₂ ∙ row-long h (pos + dist) fits within) in
    move ! (2 ∷ []) $ split3 ! $ move ! (0 ∷ 2 ∷ []) $ join ! $ nothing ! $ move ! (3 ∷ 0 ∷ []) $ join ! $ move !
    (1 ∷ 0 ∷ []) $ join ! $
    use0 𝓛 (raw (fact 𝓤 (length x.0.now ≡ length x.1.now)))
    (fact_i 𝓤 (length x.0.now ≡ length x.1.now) (emp 𝓤) as_long) $
    move ! (1 ∷ 0 ∷ []) $ use2 𝓛 (raw (G'.pre z')) (id⊢ 𝓤 _) $
    calls_at ! (framed 𝓤 𝓛.H 𝓜 𝓣) G' (met' 𝓤 𝓛 𝓜 𝓡 (code.calls-rs_examples::lent_rows::swap_two 𝓡.env wired)) z'
    (and_then ! (get ! refl) (no_more !)) (λ v'.
    use1 𝓛 (later (some (λ (u : Unit {0}). ((‵ (flft κ ql) ⊛ ‵ ftrue) ⊛ ‵ (unit.own_val u (v' ∷ []))) ⊛
    some (λ (ws' : (Chunks × (Chunks × Unit {0})) × Unit {0}). ‵ (lasts g'.ended z'.0.0 z'.0.3 ws')
    ⊛ raw (fact 𝓤 (ws'.0.0 ≡ x.1.now)) ⊛ raw (fact 𝓤 (ws'.0.1.0 ≡ x.0.now)))))) (id⊢ 𝓤 _) $
    await ! tt $ pick ! (λ u.
    split ! $ split ! $ move ! (1 ∷ []) $ feq_l ! (λ is_unit. lands_as ! (ap only is_unit) refl (tt, tt) $
    move ! (1 ∷ []) $ pick ! (λ ws'. split ! $ move ! (1 ∷ []) $ split ! $ heard ! _ (λ is₁. heard ! _ (λ is₂.
    fsplit ! $ fsplit ! $ fsplit ! $ fsplit ! $
    use1 𝓛 (‵ (fres x.0.ghost_name (code₀ (row_at h (pos + dist)))))
    (row-ended 𝓛 x.0.ghost_name ws'.0.0 (row_at h (pos + dist)) (is₁ ∙ now₂)) $
    move ! (3 ∷ []) $ fsplit ! $ fsplit ! $ fsplit ! $
    use1 𝓛 (‵ (fres x.1.ghost_name (code₀ (row_at h pos))))
    (row-ended 𝓛 x.1.ghost_name ws'.0.1.0 (row_at h pos) (is₂ ∙ now₁)) $
    let ends : Chunks → Chunks → ShardsRefMut = λ u t.
    with_chunks h (with_two ch (pos * n) n ((pos + dist) * n) n u t) in
    let end : ShardsRefMut = swapped_rows h pos (pos + dist) in
    move ! (4 ∷ 0 ∷ []) $ join ! $ move ! (0 ∷ 9 ∷ []) $
    use2 𝓛 (‵ (fres δ (Row.coded.code end)))
    (followed₂ 𝓛 (mem Bare) (mem (Array E 0)) (mem (Array E 0)) ends δ x.0.ghost_name x.1.ghost_name
    (row_at h (pos + dist)) (row_at h pos)) $
    move ! (7 ∷ []) $ split ! $ move ! (0 ∷ 9 ∷ []) $ join ! $ move ! (2 ∷ 0 ∷ 9 ∷ []) $
    use3 𝓛 (later (Back 𝓛 Row κ₀ κ₁ qs.0 q₁ self end))
    (gives_back 𝓛 Row κ₀ κ₁ qs.0 q₁ self loan.0 δ end) $ await ! tt $ split3 ! $
    -- [self; its token; the list's; the other tokens]
    sets ! (of_opd ! (unit_lit !)) refl (tt, tt) $
    returns ! (look_at ! 0 refl) $ free_all ! refl $ keep ! (0 ∷ 1 ∷ 2 ∷ 3 ∷ []) $
    suffices ! _ (ends_at 𝓛 f.ended stayed c y vunit tt (end, (tt, (tt, tt))) (tt, (tt, (tt, tt)))) $
    says ! (swapped h pos (pos + dist) fits (omega (arith, apart)) within) $
    move ! (2 ∷ 3 ∷ []) $ join ! $ move ! (2 ∷ 0 ∷ []) $ join ! $
    nothing ! $ nothing ! $ fjoin ! $ nothing ! $ fjoin ! $ move ! (2 ∷ 0 ∷ []) $ join ! $
    feq_i ! _ (vunit ∷ []) _ refl $ move ! (1 ∷ 0 ∷ []) $ join ! $ move !
    (1 ∷ 0 ∷ []) $ join ! $ done !))))))))))))))))))
