use Rattle.rs_field.proofs.Walking.{◌≡◌, refl, ap, ◌∙◌, ◌+◌, ◌*◌, ◌^◌, ◌<◌, ◌≤◌, arith, [], ◌∷◌, length, take}
use Rattle.rs_field.proofs.Walking.{drop_list, named, w64, ftrue, flft, fact, tables, proved, mul-le-mul_right, ‵, ◌⊛◌}
use Rattle.rs_field.proofs.Walking.{raw, ◌$◌, ◌∵◌, !, qed, move, keep, split, join, fjoin, use2, suffices, done, group}
use Rattle.rs_field.proofs.Walking.{whole, sub, look_in, stop, fld, addr, load, bin, of_opd, returns, enter, no_more}
use Rattle.rs_field.proofs.Walking.{and_then, alloc_all, pass_all, free_all, look_at, get, through, sets, lands_as}
use Rattle.rs_field.proofs.Walking.{usize, yes, no, uint_vals, uint_Tells, RattleType, owns, MutRef, mut_vals}
use Rattle.rs_field.proofs.Walking.{mut_Tells, plain, named_lft, Room, nothing, heard, framed, Stays, stay_dropped}
use Rattle.rs_field.proofs.Walking.{walk_of, ends_at, Goes-dropped, Goes-spent_ref, ℕ}
use Rattle.rs_field.specs.rows.Rows.{Chunks}
use Rattle.rs_field.specs.rows.View.{row_at}
use Rattle.rs_field.proofs.rows_lemmas.LentChunks.{E, pair}
use Rattle.rs_field.proofs.rows_lemmas.Lenders.{opens_self, closes_self, calls_all, calls_two, had, lends_runs}
use Rattle.rs_field.proofs.rows.shards.ShardsRefMut.all.Met.{met as met₁}
use Rattle.rs_field.proofs.rows.shards.two_runs.Met.{met as met₂}
use Rattle.rs_field.specs.rows.Lending.{LendsTwoRuns}
use Rattle.rs_field.specs.declared.rows.shards.ShardsRefMut.{ShardsRefMut}
use Rattle.rs_field.specs.contracts.rows.shards.ShardsRefMut.{the_row}
use Rattle.rs_field.specs.contracts.rows.shards.ShardsRefMut.dist2_mut as f
use Rattle.rs_field.proofs.rows.shards.ShardsRefMut.dist2_mut.Statement.{statement}
use Rattle.rs_field.proofs.rows.shards.ShardsRefMut.dist2_mut.Code as code

abbrev stayed : Stays f.ended.signature.params f.ended.kept
stayed = (stay_dropped _ no, (stay_dropped _ yes, (stay_dropped _ yes, tt)))

pub dist2_mut_spec : {M : Type 1} → statement M
dist2_mut_spec 𝓤 𝓛 𝓜 𝓡 wired =
    let c = f.clauses 𝓛 𝓜.mem 𝓡.returns in let W = walk_of 𝓛 f.ended stayed c in let 𝓣 = tables 𝓤 𝓛.H 𝓜 𝓡 𝓡.env in
    let goes = Goes-dropped 𝓛 2 (plain (λ _. usize)) yes (λ κs x w. refl) in
    proved 𝓛 f.ended stayed c 𝓜 𝓡
    (Goes-spent_ref 𝓛 2 (0 ∷ []) tt (plain (λ κs. the_row (named_lft 2 1 tt κs))), (goes, (goes, tt)))
    f.Key.name code.function (code.unfolded 𝓤 𝓛.H 𝓜 𝓡 wired)
    (λ κs. (mut_vals, (uint_vals w64, (uint_vals w64, tt))))
    (λ κs. (mut_Tells (named 0) κs.0 (the_row (named_lft 2 1 tt κs)), (uint_Tells w64, (uint_Tells w64, tt))))
    (λ κs qs bounds a _ are.
    let self = a.0 in let pos = a.1.0 in let dist = a.1.1.0 in
    let Row : RattleType = the_row (named_lft 2 1 tt κs) in
    let h : ShardsRefMut = self.now in
    let ch : Chunks = h.chunks.now in let n = h.shard_len_64 in
    let vs = mut_vals self in
    let y : W.Ghost = ((κs, qs, bounds, a, (vs, (uint_vals w64 pos, (uint_vals w64 dist, tt)))), tt) in
    qed 𝓛 (((‵ (flft κs.0 qs.0) ⊛ ‵ (flft κs.1.0 qs.1.0) ⊛ ‵ ftrue) ⊛ ‵
    ((MutRef (named 0) κs.0 Row).own_val self vs) ⊛ ‵
    (owns (usize ∷ usize ∷ []) a.1 (uint_vals w64 pos, (uint_vals w64 dist, tt)))) ∷
    (raw (fact 𝓤 (h.shard_count * n ≤ length ch)) ⊛ raw (fact 𝓤 (0 < dist)) ⊛ raw
    (fact 𝓤 (pos + dist < h.shard_count))) ∷ []) ∵
    move ! (1 ∷ []) $ split ! $ heard ! _
    (λ fits. split ! $ heard ! _
    (λ apart. heard ! _ (λ within. split ! $ split ! $ move ! (2 ∷ []) $ split ! $ keep ! (0 ∷ 2 ∷ 3 ∷ []) $
    -- [self; the token of the loan; the other tokens]
    enter ! _ _ _ _ _ $
    alloc_all ! (λ l. pass_all ! refl
    ((tt, tt), ((tt, record { fits = are.1.0.1 }), ((tt, record { fits = are.1.1.0.1 }), tt))) $
    opens_self ! tt κs self (λ us is.
    let sized : n < 2 ^ 64 = is.1.1.1.0.1 in
    let rm : Room E (length ch) = is.1.1.1.1.0.0.1 in
    let bytes : length ch * 64 < 2 ^ 63 = rm.1 in
    let pos_below : (pos + 1) * n ≤ (pos + dist) * n = mul-le-mul_right n (omega (arith, apart)) in
    let ends_below : (pos + dist + 1) * n ≤ h.shard_count * n = mul-le-mul_right n (omega (arith, within)) in
    let i : ℕ = pos * n in let j : ℕ = (pos + dist) * n in
    let runs : i + n ≤ j = omega arith in
    let last : j + n ≤ length ch = omega arith in
    let fi : i < 2 ^ 64 = omega arith in
    let fj : j < 2 ^ 64 = omega arith in
    let sum_fits : pos + dist < 2 ^ 64 = omega arith in
    sets ! (of_opd ! (load ! (through ! refl (fld ! refl (stop !))) (look_in ! 0 (sub ! 1 refl (whole !))))) refl
    (tt, record { fits = sized }) $
    closes_self ! tt κs self us is $
    sets ! (bin ! (get ! refl) (get ! refl) (record { fits = fi })) refl (tt, record { fits = fi }) $
    sets ! (bin ! (get ! refl) (get ! refl) (record { fits = sum_fits })) refl (tt, record { fits = sum_fits }) $
    sets ! (bin ! (get ! refl) (get ! refl) (record { fits = fj })) refl (tt, record { fits = fj }) $
    sets ! (addr ! (through ! refl (stop !))) refl (tt, tt) $
    calls_all ! (framed 𝓤 𝓛.H 𝓜 𝓣)
    (met₁ 𝓤 𝓛 𝓜 𝓡 (code.calls-rs_field::rows::shards::ShardsRefMut::all 𝓡.env wired)) κs qs bounds self
    (and_then ! (get ! refl) (no_more !)) (λ x v₁ ex ev rx.
    lands_as ! ev refl (tt, (tt, (record { fits = rx.0 }, tt))) $
    calls_two ! (framed 𝓤 𝓛.H 𝓜 𝓣) (met₂ 𝓤 𝓛 𝓜 𝓡 (code.calls-rs_field::rows::shards::two_runs 𝓡.env wired))
    κs.0 qs.0 x i n j n fi sized fj sized runs (let e : length x.now ≡ length ch = ap length ex in omega arith)
    (and_then ! (get ! refl)
    (and_then ! (get ! refl)
    (and_then ! (get ! refl) (and_then ! (get ! refl) (and_then ! (get ! refl) (no_more !)))))) (λ r v value shown.
    lands_as ! refl refl ((pair 𝓛 κs.0).typed r (v ∷ []) shown).0 $
    returns ! (look_at ! 0 refl) $ free_all ! refl $
    suffices ! _ (ends_at 𝓛 f.ended stayed c y v r (tt, (tt, (tt, tt))) (tt, (tt, (tt, tt)))) $
    move ! (4 ∷ 2 ∷ []) $ use2 𝓛 (‵ (LendsTwoRuns self i n j n r)) (lends_runs 𝓛 self x i n j n r ex) $
    move ! (1 ∷ []) $
    -- [the pair; what self follows; the tokens]
    nothing ! $ nothing ! $ fjoin ! $ nothing ! $ fjoin ! $ nothing ! $ fjoin ! $ join ! $
    move ! (2 ∷ 3 ∷ []) $ join ! $ join ! $
    had ! (r.1.now ≡ row_at h (pos + dist)) (value.1 ∙ ap (λ (l : Chunks). take n (drop_list j l)) ex) $
    had ! (r.0.now ≡ row_at h pos) (value.0 ∙ ap (λ (l : Chunks). take n (drop_list i l)) ex) $ join ! $
    move ! (1 ∷ 2 ∷ 0 ∷ []) $ group ! 3 $ done !))))))))
