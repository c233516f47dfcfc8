use Rattle.rs_field.proofs.Walking.{◌≡◌, refl, ap, ◌∙◌, ℕ, ◌+◌, ◌*◌, ◌^◌, ◌<◌, ◌≤◌, arith, [], ◌∷◌, length, named, w64}
use Rattle.rs_field.proofs.Walking.{ftrue, flft, fact, tables, proved, mul-le-mul_right, ‵, ◌⊛◌, raw, ◌$◌, ◌∵◌, !, qed}
use Rattle.rs_field.proofs.Walking.{move, keep, split, join, fjoin, use1, suffices, done, group, whole, sub, look_in}
use Rattle.rs_field.proofs.Walking.{stop, fld, addr, load, bin, lit, of_opd, returns, enter, no_more, and_then}
use Rattle.rs_field.proofs.Walking.{alloc_all, pass_all, free_all, look_at, get, through, sets, lands_as, usize, yes}
use Rattle.rs_field.proofs.Walking.{no, uint_vals, uint_Tells, RattleType, owns, MutRef, mut_vals, mut_Tells, plain}
use Rattle.rs_field.proofs.Walking.{named_lft, Room, nothing, heard, framed, Stays, stay_dropped, walk_of, ends_at}
use Rattle.rs_field.proofs.Walking.{Goes-dropped, Goes-spent_ref, agg, from, hop, look_in_at}
use Rattle.rs_field.specs.rows.Rows.{Chunks}
use Rattle.rs_field.proofs.rows_lemmas.LentChunks.{E, taken}
use Rattle.rs_field.proofs.rows_lemmas.Lenders.{opens_self, closes_self, calls_all, calls_two, had, parts, fours_made}
use Rattle.rs_field.proofs.rows_lemmas.Lenders.{four_val}
use types.ByLocal.{get_in}
use Rattle.std.proofs.Common.{lit<}
use Rattle.rs_field.specs.rows.View.{row_at}
use Rattle.rs_field.proofs.rows.shards.ShardsRefMut.all.Met.{met as met₁}
use Rattle.rs_field.proofs.rows.shards.two_runs.Met.{met as met₂}
use Rattle.rs_field.specs.rows.Lending.{LendsFourRuns}
use Rattle.rs_field.specs.declared.rows.shards.ShardsRefMut.{ShardsRefMut}
use Rattle.rs_field.specs.contracts.rows.shards.ShardsRefMut.{the_row}
use Rattle.rs_field.specs.contracts.rows.shards.ShardsRefMut.dist4_mut as f
use Rattle.rs_field.proofs.rows.shards.ShardsRefMut.dist4_mut.Statement.{statement}
use Rattle.rs_field.proofs.rows.shards.ShardsRefMut.dist4_mut.Code as code
use Rattle.rs_field.proofs.rows_lemmas.FourRuns.{two-rows, lends_four}

abbrev stayed : Stays f.ended.signature.params f.ended.kept
stayed = (stay_dropped _ no, (stay_dropped _ yes, (stay_dropped _ yes, tt)))

pub dist4_mut_spec : {M : Type 1} → statement M
dist4_mut_spec 𝓤 𝓛 𝓜 𝓡 wired =
    let c = f.clauses 𝓛 𝓜.mem 𝓡.returns in let W = walk_of 𝓛 f.ended stayed c in let 𝓣 = tables 𝓤 𝓛.H 𝓜 𝓡 𝓡.env in
    let goes = Goes-dropped 𝓛 2 (plain (λ _. usize)) yes (λ κs x w. refl) in
    proved 𝓛 f.ended stayed c 𝓜 𝓡
    (Goes-spent_ref 𝓛 2 (0 ∷ []) tt (plain (λ κs. the_row (named_lft 2 1 tt κs))), (goes, (goes, tt)))
    f.Key.name code.function (code.unfolded 𝓤 𝓛.H 𝓜 𝓡 wired)
    (λ κs. (mut_vals, (uint_vals w64, (uint_vals w64, tt))))
    (λ κs. (mut_Tells (named 0) κs.0 (the_row (named_lft 2 1 tt κs)), (uint_Tells w64, (uint_Tells w64, tt))))
    (λ κs qs bounds a _ are.
    let self = a.0 in let pos = a.1.0 in let dist = a.1.1.0 in
    let Row : RattleType = the_row (named_lft 2 1 tt κs) in
    let h : ShardsRefMut = self.now in
    let ch : Chunks = h.chunks.now in let n = h.shard_len_64 in
    let vs = mut_vals self in
    let y : W.Ghost = ((κs, qs, bounds, a, (vs, (uint_vals w64 pos, (uint_vals w64 dist, tt)))), tt) in
    qed 𝓛 (((‵ (flft κs.0 qs.0) ⊛ ‵ (flft κs.1.0 qs.1.0) ⊛ ‵ ftrue) ⊛ ‵
    ((MutRef (named 0) κs.0 Row).own_val self vs) ⊛ ‵
    (owns (usize ∷ usize ∷ []) a.1 (uint_vals w64 pos, (uint_vals w64 dist, tt)))) ∷
    (raw (fact 𝓤 (h.shard_count * n ≤ length ch)) ⊛ raw (fact 𝓤 (0 < dist)) ⊛ raw
    (fact 𝓤 (pos + 3 * dist < h.shard_count))) ∷ []) ∵
    move ! (1 ∷ []) $ split ! $ heard ! _
    (λ fits. split ! $ heard ! _
    (λ apart. heard ! _ (λ within. split ! $ split ! $ move ! (2 ∷ []) $ split ! $ keep ! (0 ∷ 2 ∷ 3 ∷ []) $
    -- [self; the token of the loan; the other tokens]
    enter ! _ _ _ _ _ $
    alloc_all ! (λ l. pass_all ! refl
    ((tt, tt), ((tt, record { fits = are.1.0.1 }), ((tt, record { fits = are.1.1.0.1 }), tt))) $
    opens_self ! tt κs self (λ us is.
    let counted : h.shard_count < 2 ^ 64 = is.1.1.0.1 in
    let sized : n < 2 ^ 64 = is.1.1.1.0.1 in
    let rm : Room E (length ch) = is.1.1.1.1.0.0.1 in
    let bytes : length ch * 64 < 2 ^ 63 = rm.1 in
    let i : ℕ = pos * n in let j : ℕ = (pos + dist) * n in let k : ℕ = (pos + 2 * dist) * n in let m : ℕ =
    (pos + 3 * dist) * n in
    let d : ℕ = dist * n in let s : ℕ = d + n in
    let one_row : 1 * n ≤ dist * n = mul-le-mul_right n apart in
    let ends_below : (pos + 3 * dist + 1) * n ≤ h.shard_count * n = mul-le-mul_right n (omega (arith, within)) in
    let row₀ : 0 + n ≤ d = omega arith in
    let apart₂ : i + s ≤ k = omega arith in
    let last : k + s ≤ length ch = omega arith in
    let fi : i < 2 ^ 64 = omega arith in let fk : k < 2 ^ 64 = omega arith in
    let fd : d < 2 ^ 64 = omega arith in let fs : s < 2 ^ 64 = omega arith in
    let f2 : 2 * dist < 2 ^ 64 = omega (arith, within, counted) in
    let fd2 : pos + 2 * dist < 2 ^ 64 = omega (arith, within, counted) in
    sets ! (of_opd ! (load ! (through ! refl (fld ! refl (stop !))) (look_in ! 0 (sub ! 1 refl (whole !))))) refl
    (tt, record { fits = sized }) $
    closes_self ! tt κs self us is $
    sets ! (bin ! (get ! refl) (get ! refl) (record { fits = fi })) refl (tt, record { fits = fi }) $
    sets ! (bin ! (lit ! tt) (get ! refl) (record { fits = f2 })) refl (tt, record { fits = f2 }) $
    sets ! (bin ! (get ! refl) (get ! refl) (record { fits = fd2 })) refl (tt, record { fits = fd2 }) $
    sets ! (bin ! (get ! refl) (get ! refl) (record { fits = fk })) refl (tt, record { fits = fk }) $
    sets ! (bin ! (get ! refl) (get ! refl) (record { fits = fd })) refl (tt, record { fits = fd }) $
    sets ! (bin ! (get ! refl) (get ! refl) (record { fits = fs })) refl (tt, record { fits = fs }) $
    sets ! (addr ! (through ! refl (stop !))) refl (tt, tt) $
    calls_all ! (framed 𝓤 𝓛.H 𝓜 𝓣)
    (met₁ 𝓤 𝓛 𝓜 𝓡 (code.calls-rs_field::rows::shards::ShardsRefMut::all 𝓡.env wired)) κs qs bounds self
    (and_then ! (get ! refl) (no_more !)) (λ x v₁ ex ev rx.
    lands_as ! ev refl (tt, (tt, (record { fits = rx.0 }, tt))) $
    let long : length x.now ≡ length ch = ap length ex in
    let met = met₂ 𝓤 𝓛 𝓜 𝓡 (code.calls-rs_field::rows::shards::two_runs 𝓡.env wired) in
    calls_two ! (framed 𝓤 𝓛.H 𝓜 𝓣) met κs.0 qs.0 x i s k s fi fs fk fs apart₂ (omega arith)
    (and_then ! (get ! refl)
    (and_then ! (get ! refl)
    (and_then ! (get ! refl) (and_then ! (get ! refl) (and_then ! (get ! refl) (no_more !)))))) (λ r v₂ value shown.
    parts ! κs.0 r v₂ (λ is₂ rm₀ rm₁.
    lands_as ! is₂ refl (tt, ((tt, (record { fits = rm₀.0 }, tt)), ((tt, (record { fits = rm₁.0 }, tt)), tt))) $
    let span₀ : length r.0.now ≡ s = ap length value.0 ∙ taken x.now i s (omega arith) in
    let span₁ : length r.1.now ≡ s = ap length value.1 ∙ taken x.now k s (omega arith) in
    sets ! (addr ! (from ! (fld ! refl (fld ! refl (hop ! (look_in_at ! 9 (sub ! 0 refl (sub ! 0 refl (whole !))))
    (stop !)))))) refl (tt, tt) $
    sets ! (agg ! (and_then ! (get ! refl) (and_then ! (get_in ! (fld ! refl (fld ! refl (stop !)))
    (sub ! 1 refl (sub ! 0 refl (whole !)))) (no_more !)))) refl (tt, (tt, (record { fits = rm₀.0 }, tt))) $
    move ! (0 ∷ 2 ∷ []) $
    calls_two ! (framed 𝓤 𝓛.H 𝓜 𝓣) met κs.0 qs.0 r.0 0 n d n (lit< tt) sized fd sized row₀ (omega (arith, span₀))
    (and_then ! (get ! refl)
    (and_then ! (lit ! tt)
    (and_then ! (get ! refl) (and_then ! (get ! refl) (and_then ! (get ! refl) (no_more !)))))) (λ p v₃ value₀ shown₀.
    parts ! κs.0 p v₃ (λ is₃ rp₀ rp₁.
    lands_as ! is₃ refl (tt, ((tt, (record { fits = rp₀.0 }, tt)), ((tt, (record { fits = rp₁.0 }, tt)), tt))) $
    sets ! (addr ! (from ! (fld ! refl (fld ! refl (hop ! (look_in_at ! 9 (sub ! 0 refl (sub ! 1 refl (whole !))))
    (stop !)))))) refl (tt, tt) $
    sets ! (agg ! (and_then ! (get ! refl) (and_then ! (get_in ! (fld ! refl (fld ! refl (stop !)))
    (sub ! 1 refl (sub ! 1 refl (whole !)))) (no_more !)))) refl (tt, (tt, (record { fits = rm₁.0 }, tt))) $
    move ! (4 ∷ 2 ∷ []) $
    calls_two ! (framed 𝓤 𝓛.H 𝓜 𝓣) met κs.0 qs.0 r.1 0 n d n (lit< tt) sized fd sized row₀ (omega (arith, span₁))
    (and_then ! (get ! refl)
    (and_then ! (lit ! tt)
    (and_then ! (get ! refl) (and_then ! (get ! refl) (and_then ! (get ! refl) (no_more !)))))) (λ q v₄ value₁ shown₁.
    parts ! κs.0 q v₄ (λ is₄ rq₀ rq₁.
    lands_as ! is₄ refl (tt, ((tt, (record { fits = rq₀.0 }, tt)), ((tt, (record { fits = rq₁.0 }, tt)), tt))) $
    sets ! (addr ! (from ! (fld ! refl (fld ! refl (hop ! (look_in_at ! 10 (sub ! 0 refl (sub ! 0 refl (whole !))))
    (stop !)))))) refl (tt, tt) $
    sets ! (agg ! (and_then ! (get ! refl) (and_then ! (get_in ! (fld ! refl (fld ! refl (stop !)))
    (sub ! 1 refl (sub ! 0 refl (whole !)))) (no_more !)))) refl (tt, (tt, (record { fits = rp₀.0 }, tt))) $
    sets ! (addr ! (from ! (fld ! refl (fld ! refl (hop ! (look_in_at ! 10 (sub ! 0 refl (sub ! 1 refl (whole !))))
    (stop !)))))) refl (tt, tt) $
    sets ! (agg ! (and_then ! (get ! refl) (and_then ! (get_in ! (fld ! refl (fld ! refl (stop !)))
    (sub ! 1 refl (sub ! 1 refl (whole !)))) (no_more !)))) refl (tt, (tt, (record { fits = rp₁.0 }, tt))) $
    sets ! (addr ! (from ! (fld ! refl (fld ! refl (hop ! (look_in_at ! 11 (sub ! 0 refl (sub ! 0 refl (whole !))))
    (stop !)))))) refl (tt, tt) $
    sets ! (agg ! (and_then ! (get ! refl) (and_then ! (get_in ! (fld ! refl (fld ! refl (stop !)))
    (sub ! 1 refl (sub ! 0 refl (whole !)))) (no_more !)))) refl (tt, (tt, (record { fits = rq₀.0 }, tt))) $
    sets ! (addr ! (from ! (fld ! refl (fld ! refl (hop ! (look_in_at ! 11 (sub ! 0 refl (sub ! 1 refl (whole !))))
    (stop !)))))) refl (tt, tt) $
    sets ! (agg ! (and_then ! (get ! refl) (and_then ! (get_in ! (fld ! refl (fld ! refl (stop !)))
    (sub ! 1 refl (sub ! 1 refl (whole !)))) (no_more !)))) refl (tt, (tt, (record { fits = rq₁.0 }, tt))) $
    sets ! (agg ! (and_then ! (get ! refl) (and_then ! (get ! refl) (and_then ! (get ! refl) (and_then ! (get ! refl)
    (no_more !)))))) refl (
      tt,
      (
        (tt, (record { fits = rp₀.0 }, tt)),
        (
          (tt, (record { fits = rp₁.0 }, tt)),
          ((tt, (record { fits = rq₀.0 }, tt)), ((tt, (record { fits = rq₁.0 }, tt)), tt)),
        ),
      ),
    ) $
    move ! (9 ∷ 7 ∷ 6 ∷ 3 ∷ []) $ group ! 4 $
    use1 𝓛 (‵ (LendsFourRuns self i j k m n (p.0, p.1, q.0, q.1)))
    (lends_four 𝓛 self x i j k m n d r p q ex value.0 value.1 (omega arith) (omega arith)) $
    -- [what self follows; the third; the fourth; the token of the loan; the first; the second; the other tokens]
    move ! (4 ∷ 5 ∷ 1 ∷ 2 ∷ []) $ fours_made ! κs.0 p q $
    returns ! (look_at ! 0 refl) $ free_all ! refl $
    suffices ! _ (ends_at 𝓛 f.ended stayed c y (four_val p q) (p.0, p.1, q.0, q.1) (tt, (tt, (tt, tt)))
    (tt, (tt, (tt, tt)))) $
    nothing ! $ nothing ! $ fjoin ! $ nothing ! $ fjoin ! $ nothing ! $ fjoin ! $ join ! $
    move ! (2 ∷ 3 ∷ []) $ join ! $ join ! $
    let rows₁ = two-rows x.now i n d ch r.0.now p.0.now p.1.now j ex (omega arith) value.0 value₀ in
    let rows₂ = two-rows x.now k n d ch r.1.now q.0.now q.1.now m ex (omega arith) value.1 value₁ in
    had ! (q.1.now ≡ row_at h (pos + 3 * dist)) rows₂.1 $ had ! (q.0.now ≡ row_at h (pos + 2 * dist)) rows₂.0 $ join ! $
    had ! (p.1.now ≡ row_at h (pos + dist)) rows₁.1 $ join ! $ had ! (p.0.now ≡ row_at h pos) rows₁.0 $ join ! $
    move ! (1 ∷ 2 ∷ 0 ∷ []) $ group ! 3 $ done !)))))))))))))
