use Rattle.rs_field.proofs.Walking.{◌≡◌, refl, sym, ap, ◌∙◌, ℕ, ◌+◌, ◌*◌, ◌-◌, ◌^◌, ◌<◌, ◌≤◌, arith, [], ◌∷◌, length}
use Rattle.rs_field.proofs.Walking.{take, drop_list, named, w64, id⊢, Lft, ftrue, flft, fact, tables, proved, ‵, ◌⊛◌}
use Rattle.rs_field.proofs.Walking.{raw, some, later, ◌$◌, ◌∵◌, !, qed, move, keep, drop, split, join, fjoin, use1}
use Rattle.rs_field.proofs.Walking.{use2, await, pick, suffices, done, rewrite, group, whole, sub, look_in, stop, fld}
use Rattle.rs_field.proofs.Walking.{addr, load, bin, lit, of_opd, returns, enter, no_more, and_then, alloc_all}
use Rattle.rs_field.proofs.Walking.{pass_all, free_all, look_at, get, through, sets, lands_as, usize, yes, no, Is}
use Rattle.rs_field.proofs.Walking.{shows, uint_vals, uint_Tells, uint_Makes, RattleType, owns, Valss, MutRef, mut_vals}
use Rattle.rs_field.proofs.Walking.{mut_Tells, plain, named_lft, Array, Room, nothing, heard, peeks, owned}
use Rattle.rs_field.proofs.Walking.{follows_both, row, tuple_type, calls_at, lasts, triple_of, framed, Stays}
use Rattle.rs_field.proofs.Walking.{stay_dropped, walk_of, ends_at, Goes-dropped, Goes-spent_ref}
use base.Fml.{GName, Fml}
use Rattle.std.proofs.Common.{lit<}
use denote.Struct.Tuple.{tuple_laws}
use Rattle.rs_field.specs.rows.Rows.{Chunks}
use Rattle.rs_field.proofs.rows_lemmas.LentChunks.{E, Bare, pair, taken}
use Rattle.rs_field.proofs.rows_lemmas.Lenders.{opens_self, closes_self, calls_all, calls_two, had, lends_runs}
use Rattle.rs_field.proofs.rows.shards.ShardsRefMut.all.Met.{met as met₁}
use Rattle.rs_field.proofs.rows.shards.two_runs.Met.{met as met₂}
use Rattle.rs_field.specs.rows.View.{HasRows, IsListOf}
use Rattle.rs_field.specs.rows.Lending.{LendsTwoRuns, with_chunks, with_two}
use Rattle.rs_field.specs.declared.rows.shards.ShardsRefMut.{ShardsRefMut}
use Rattle.rs_field.specs.contracts.rows.shards.ShardsRefMut.{the_row}
use Rattle.rs_field.proofs.rows.shards.ShardsRefMut.TheLaws.{the_row_laws}
use Rattle.rs_field.specs.contracts.rows.shards.ShardsRefMut.split_at_mut as f
use Rattle.rs_field.proofs.rows.shards.ShardsRefMut.split_at_mut.Statement.{statement}
use Rattle.rs_field.proofs.rows.shards.ShardsRefMut.split_at_mut.Code as code
use Rattle.rs_field.specs.contracts.rows.shards.two_lists as g'
use Rattle.rs_field.proofs.rows.shards.two_lists.Met.{met as met'}

abbrev Rows : Lft → RattleType
Rows κ = the_row (record { mir = named 0; lft = κ })

abbrev Lists : Lft → RattleType
Lists κ = row (tuple_type (Rows κ ∷ Rows κ ∷ []))

abbrev stayed : Stays f.ended.signature.params f.ended.kept
stayed = (stay_dropped _ no, (stay_dropped _ yes, tt))

parted : (m r c n : ℕ) → m + r ≡ c → m * n + r * n ≡ c * n
parted m r c n e = let products : (m + r) * n ≡ c * n = ap (λ k. k * n) e in omega arith

pub split_at_mut_spec : {M : Type 1} → statement M
split_at_mut_spec 𝓤 𝓛 𝓜 𝓡 wired =
    let c = f.clauses 𝓛 𝓜.mem 𝓡.returns in let W = walk_of 𝓛 f.ended stayed c in let 𝓣 = tables 𝓤 𝓛.H 𝓜 𝓡 𝓡.env in
    let goes = Goes-dropped 𝓛 2 (plain (λ _. usize)) yes (λ κs x w. refl) in
    proved 𝓛 f.ended stayed c 𝓜 𝓡
    (Goes-spent_ref 𝓛 2 (0 ∷ []) tt (plain (λ κs. the_row (named_lft 2 1 tt κs))), (goes, tt))
    f.Key.name code.function (code.unfolded 𝓤 𝓛.H 𝓜 𝓡 wired)
    (λ κs. (mut_vals, (uint_vals w64, tt)))
    (λ κs. (mut_Tells (named 0) κs.0 (the_row (named_lft 2 1 tt κs)), (uint_Tells w64, tt)))
    (λ κs qs bounds a _ are.
    let self = a.0 in let mid = a.1.0 in
    let Row : RattleType = the_row (named_lft 2 1 tt κs) in
    let h : ShardsRefMut = self.now in
    let ch : Chunks = h.chunks.now in let n = h.shard_len_64 in let rest = h.shard_count - mid in
    let vs = mut_vals self in
    let y : W.Ghost = ((κs, qs, bounds, a, (vs, (uint_vals w64 mid, tt))), tt) in
    qed 𝓛 (((‵ (flft κs.0 qs.0) ⊛ ‵ (flft κs.1.0 qs.1.0) ⊛ ‵ ftrue) ⊛ ‵
    ((MutRef (named 0) κs.0 Row).own_val self vs) ⊛ ‵ (owns (usize ∷ []) a.1 (uint_vals w64 mid, tt))) ∷
    (raw (fact 𝓤 (h.shard_count * n ≤ length ch)) ⊛ raw (fact 𝓤 (mid ≤ h.shard_count))) ∷ []) ∵
    move ! (1 ∷ []) $ split ! $ heard ! _
    (λ fits. heard ! _ (λ within. split ! $ split ! $ move ! (2 ∷ []) $ split ! $ keep ! (0 ∷ 2 ∷ 3 ∷ []) $
    -- [self; the token of the loan; the other tokens]
    enter ! _ _ _ _ _ $
    alloc_all ! (λ l. pass_all ! refl ((tt, tt), ((tt, record { fits = are.1.0.1 }), tt)) $
    opens_self ! tt κs self (λ us is.
    let counted : h.shard_count < 2 ^ 64 = is.1.1.0.1 in
    let sized : n < 2 ^ 64 = is.1.1.1.0.1 in
    let rm : Room E (length ch) = is.1.1.1.1.0.0.1 in
    let bytes : length ch * 64 < 2 ^ 63 = rm.1 in
    let whole_rows : mid + rest ≡ h.shard_count = omega (arith, within) in
    let sum : mid * n + rest * n ≡ h.shard_count * n = parted mid rest h.shard_count n whole_rows in
    let i : ℕ = mid * n in let m : ℕ = rest * n in
    let fi : i < 2 ^ 64 = omega arith in
    let fm : m < 2 ^ 64 = omega arith in
    let rest_fits : rest < 2 ^ 64 = omega arith in
    let last : i + m ≤ length ch = omega arith in
    let apart : 0 + i ≤ i = omega arith in
    sets ! (of_opd ! (load ! (through ! refl (fld ! refl (stop !))) (look_in ! 0 (sub ! 1 refl (whole !))))) refl
    (tt, record { fits = sized }) $
    sets ! (of_opd ! (load ! (through ! refl (fld ! refl (stop !))) (look_in ! 0 (sub ! 0 refl (whole !))))) refl
    (tt, record { fits = counted }) $
    closes_self ! tt κs self us is $
    sets ! (bin ! (get ! refl) (get ! refl) within) refl (tt, record { fits = rest_fits }) $
    sets ! (bin ! (get ! refl) (get ! refl) (record { fits = fi })) refl (tt, record { fits = fi }) $
    sets ! (addr ! (through ! refl (stop !))) refl (tt, tt) $
    calls_all ! (framed 𝓤 𝓛.H 𝓜 𝓣)
    (met₁ 𝓤 𝓛 𝓜 𝓡 (code.calls-rs_field::rows::shards::ShardsRefMut::all 𝓡.env wired)) κs qs bounds self
    (and_then ! (get ! refl) (no_more !)) (λ x v₁ ex ev rx.
    lands_as ! ev refl (tt, (tt, (record { fits = rx.0 }, tt))) $
    sets ! (bin ! (get ! refl) (get ! refl) (record { fits = fm })) refl (tt, record { fits = fm }) $
    let long : length x.now ≡ length ch = ap length ex in
    calls_two ! (framed 𝓤 𝓛.H 𝓜 𝓣) (met₂ 𝓤 𝓛 𝓜 𝓡 (code.calls-rs_field::rows::shards::two_runs 𝓡.env wired))
    κs.0 qs.0 x 0 i i m (lit< tt) fi fi fm apart (omega arith)
    (and_then ! (get ! refl)
    (and_then ! (lit ! tt)
    (and_then ! (get ! refl) (and_then ! (get ! refl) (and_then ! (get ! refl) (no_more !)))))) (λ r v value shown.
    lands_as ! refl refl ((pair 𝓛 κs.0).typed r (v ∷ []) shown).0 $
    move ! (4 ∷ 2 ∷ []) $ use2 𝓛 (‵ (LendsTwoRuns self 0 i i m r)) (lends_runs 𝓛 self x 0 i i m r ex) $
    move ! (1 ∷ []) $
    -- [the pair; what self follows; the token of the loan; the other tokens]
    let first_taken : length r.0.now ≡ i = ap length value.0 ∙ taken x.now 0 i (omega arith) in
    let second_taken : length r.1.now ≡ m = ap length value.1 ∙ taken x.now i m (omega arith) in
    let G' = triple_of 𝓛 g'.signature (g'.spec 𝓛 𝓜.mem 𝓡.returns) in
    let args : Valss (usize ∷ usize ∷ usize ∷ []) = (uint_vals w64 mid, (uint_vals w64 rest, (uint_vals w64 n, tt))) in
    let z' : G'.Ghost = (((κs.0, tt), (qs.0, tt), tt, (r, (mid, (rest, (n, tt)))), (v ∷ [], args)), tt) in
    nothing ! $ owned ! usize _ (uint_Makes 𝓛 w64) n _ (refl, sized) $ fjoin ! $
    owned ! usize _ (uint_Makes 𝓛 w64) rest _ (refl, rest_fits) $ fjoin ! $
    owned ! usize _ (uint_Makes 𝓛 w64) mid _ (refl, are.1.0.1) $ fjoin ! $ move ! (1 ∷ 0 ∷ []) $ join ! $
    nothing ! $ move ! (3 ∷ 0 ∷ []) $ join ! $ join ! $ had ! (m ≤ length r.1.now) (omega (arith, second_taken)) $
    had ! (i ≤ length r.0.now) (omega (arith, first_taken)) $ join ! $ move ! (1 ∷ 0 ∷ []) $ join ! $
    use1 𝓛 (raw (G'.pre z')) (id⊢ 𝓤 _) $
    calls_at ! (framed 𝓤 𝓛.H 𝓜 𝓣) G' (met' 𝓤 𝓛 𝓜 𝓡 (code.calls-rs_field::rows::shards::two_lists 𝓡.env wired)) z'
    (and_then ! (get ! refl) (and_then ! (get ! refl) (and_then ! (get ! refl) (and_then ! (get ! refl) (no_more !)))))
    (λ v'.
    use1 𝓛 (later (some (λ (halves : ShardsRefMut × ShardsRefMut).
    ((‵ (flft κs.0 qs.0) ⊛ ‵ ftrue) ⊛ ‵ ((Lists κs.0).own_val halves (v' ∷ []))) ⊛
    some (λ (ws' : (Unit {0} × (Unit {0} × Unit {0})) × (Unit {0} × (Unit {0} × (Unit {0} × Unit {0})))).
    ‵ (lasts g'.ended z'.0.0 z'.0.3 ws')
    ⊛ raw (fact 𝓤 (IsListOf halves.0 r.0 mid n)) ⊛ raw (fact 𝓤 (IsListOf halves.1 r.1 rest n)))))) (id⊢ 𝓤 _) $
    await ! tt $ pick ! (λ halves.
    split ! $ split ! $ move ! (2 ∷ []) $ pick !
    (λ ws'. split ! $ drop ! $ split ! $ heard ! _ (λ front. heard ! _ (λ back. move ! (1 ∷ []) $
    -- [the lists; the token of the loan; what self follows; the other tokens; the locals]
    peeks ! (Lists κs.0) (Is (Lists κs.0)) (shows 𝓛 (Lists κs.0)) halves (v' ∷ []) (λ lists.
    let laws = the_row_laws (record { mir = named 0; lft = κs.0 }) in
    lands_as ! refl refl
    (((tuple_laws (Rows κs.0 ∷ Rows κs.0 ∷ []) (laws, (laws, tt))).lawful 𝓛).typed halves (v' ∷ []) lists).0 $
    returns ! (look_at ! 0 refl) $ free_all ! refl $
    suffices ! _ (ends_at 𝓛 f.ended stayed c y v' halves (tt, (tt, tt)) (tt, (tt, tt))) $
    let ends : GName → GName → Fml = λ γ γ'. follows_both Bare (Array E 0) (Array E 0) self.ghost_name γ γ'
    (λ (one two : Chunks). with_chunks h (with_two ch 0 i i m one two)) in
    rewrite ! 2 (λ (γ : GName). ‵ (ends γ r.1.ghost_name)) (sym front.name) refl $
    rewrite ! 2 (λ (γ : GName). ‵ (ends halves.0.chunks.ghost_name γ)) (sym back.name) refl $
    let from : 0 ≡ 0 * n = omega arith in
    let first : HasRows h 0 mid halves.0 = record {
      count = front.count;
      len_64 = front.len_64;
      chunks = front.now ∙ value.0 ∙ ap (λ (k : Chunks). take i (drop_list 0 k)) ex
          ∙ ap (λ (k : ℕ). take i (drop_list k ch)) from;
    } in
    let second : HasRows h mid rest halves.1 = record {
      count = back.count;
      len_64 = back.len_64;
      chunks = back.now ∙ value.1 ∙ ap (λ (k : Chunks). take m (drop_list i k)) ex;
    } in
    nothing ! $ nothing ! $ fjoin ! $ nothing ! $ fjoin ! $ join ! $ move ! (1 ∷ []) $ split ! $ move ! (0 ∷ 4 ∷ []) $
    join ! $ move ! (1 ∷ []) $ drop ! $ join ! $ had ! (HasRows h mid rest halves.1) second $
    had ! (HasRows h 0 mid halves.0) first $ join ! $ move ! (1 ∷ 2 ∷ 0 ∷ []) $ group ! 3 $ done !)))))))))))))
