-- Steps of the proofs of functions that lend rows: a list of rows is read, its chunks are lent, and two runs of chunks
-- are lent from them.
use Rattle.std.proofs.Common.{rules, ap₂}
use Rattle.rs_field.proofs.Walking.{◌≡◌, ap, ◌∙◌, ℕ, ◌+◌, ◌^◌, ◌<◌, ◌≤◌, List, [], ◌∷◌, length, take, drop_list, refl}
use Rattle.rs_field.proofs.Walking.{vcons, vnil, only, feq_i, fpack, within, shape, tuple_type, sym, named, w64, Val}
use Rattle.rs_field.proofs.Walking.{vstruct, of_list, full_share, Lft, ftrue, flft, fact, fact_i, emp, ‵, ◌⊛◌, raw}
use Rattle.rs_field.proofs.Walking.{some, later, ◌$◌, move, drop, split, join, fsplit, fsplit3, fjoin, fjoin3, use0}
use Rattle.rs_field.proofs.Walking.{await, pick, rewrite, feq_l, usize, Is, shows, cell_at, uint_vals, uint_Makes}
use Rattle.rs_field.proofs.Walking.{RattleType, owns, Valss, flat, MutBor, MutRef, mut_vals, named_lft, Array, MutSlice}
use Rattle.rs_field.proofs.Walking.{Room, room, slice_val, mut_slice_vals, mut_slice_at, pure_l, pure_i, nothing, heard}
use Rattle.rs_field.proofs.Walking.{opens, closes, peeks, owned, fields, lasts, qed, use2, fres, wand, ◌∵◌, !, use1}
use Rattle.rs_field.proofs.Walking.{id⊢}
use seplogic.Ra.Ura.{Ura}
use base.Fml.{fsep, Share, Fml, fobs, fauth, fobor}
use base.Logic.{ent, sep}
use types.Logic.{Logic, sem}
use types.Kit.{by, each, assume, fpick, Item, Goal, Soaks, Seq, Step, step, Post, lands, runs}
use types.SemTy.{Body as Borrowed}
use mir.Syntax.{Callee, Place, Opd, Body, seq, call}
use prog.Wp.{Env, Calls, Loops}
use sound.WpLaws.{FmC}
use types.Run.{Opds}
use denote.Triple.Call.{calls_from}
use denote.Triple.Statement.{Contract, Triple}
use mir.Val.{vint}
use denote.Triple.Spec.{triple_of}
use contract.Lifetimes.{Lfts, Shares, AllOutlive}
use denote.Memory.{mem}
use denote.Follow.{both_by, followed}
use types.Follow.{followed₂}
use denote.Ref.{mut_at}
use Rattle.rs_field.specs.rows.Rows.{Chunks}
use Rattle.rs_field.specs.rows.Lending.{LendsAll, LendsParts, LendsTwoRuns, with_chunks, with_two}
use Rattle.rs_field.specs.declared.rows.shards.ShardsRefMut.{ShardsRefMut}
use Rattle.rs_field.specs.contracts.rows.shards.ShardsRefMut.{the_row, the_type}
use Rattle.rs_field.specs.contracts.rows.shards.ShardsRefMut.all as all
use Rattle.rs_field.specs.contracts.rows.shards.two_runs as two
use Rattle.rs_field.proofs.rows_lemmas.LentChunks.{E, Bare, Slice, Pair, Fours}

abbrev Row : Lfts 2 → RattleType
Row κs = the_row (named_lft 2 1 tt κs)

module _ (κs : Lfts 2) (h : ShardsRefMut) (us : List Val) (is : Is (Row κs) h us) where
  -- The machine value of the list of rows, with the numbers written out.
  abbrev held : List Val
  held = vstruct (of_list (flat (fields (the_type (named_lft 2 1 tt κs)))
      (uint_vals w64 h.shard_count, (uint_vals w64 h.shard_len_64, is.0.1.1)))) ∷ []

  is_held : us ≡ held
  is_held = search rules

-- The list of rows is open: its machine value lies at its place.
abbrev Opened : {M : Type 1} {𝓤 : Ura M} → Lfts 2 → MutBor ShardsRefMut → Share → List Val → List Val → List (Item 𝓤)
    → List (Item 𝓤)
Opened κs self q ws us Γ =
    let b = self.ref_ptr.0 in let o = self.ref_ptr.1 in let code = (Row κs).coded.code self.now in
    ‵ (cell_at full_share (Row κs).mir ws b o) ∷ ‵ ((Row κs).own_val self.now us) ∷ ‵
    (fobor κs.0 q (Borrowed (mem (Row κs)) b o self.ghost_name)) ∷ ‵ (fobs self.ghost_name code) ∷ ‵
    (fauth self.ghost_name code) ∷ ‵ (mut_at self (mut_vals self)) ∷ Γ

abbrev Self : Lfts 2 → MutBor ShardsRefMut → Fml
Self κs self = (MutRef (named 0) κs.0 (Row κs)).own_val self (mut_vals self)

-- What `all` takes, and what `two_runs` takes.
abbrev Alive : {M : Type 1} {𝓤 : Ura M} → (κs : Lfts 2) → Shares 2 → Item 𝓤
Alive κs qs = ‵ (flft κs.0 qs.0) ⊛ ‵ (flft κs.1.0 qs.1.0) ⊛ ‵ ftrue

abbrev AllTaken : {M : Type 1} {𝓤 : Ura M} → Lfts 2 → Shares 2 → MutBor ShardsRefMut → Item 𝓤
AllTaken κs qs self =
    (Alive κs qs ⊛ (‵ (Self κs self) ⊛ ‵ ftrue)) ⊛ ‵ ftrue

abbrev Numbers : List RattleType
Numbers = usize ∷ usize ∷ usize ∷ usize ∷ []

abbrev numbers : (i n j m : ℕ) → Valss Numbers
numbers i n j m = (uint_vals w64 i, (uint_vals w64 n, (uint_vals w64 j, (uint_vals w64 m, tt))))

abbrev TwoTaken : {M : Type 1} {𝓤 : Ura M} → Lft → Share → MutBor Chunks → ℕ → ℕ → ℕ → ℕ → Item 𝓤
TwoTaken {𝓤 = 𝓤} κ q x i n j m = ((‵ (flft κ q) ⊛ ‵ ftrue) ⊛ ‵ (Slice κ x (mut_slice_vals x)) ⊛ ‵
    (owns Numbers (i, (n, (j, (m, tt)))) (numbers i n j m))) ⊛
    (raw (fact 𝓤 (i + n ≤ j)) ⊛ raw (fact 𝓤 (j + m ≤ length x.now)))

module _ {M : Type 1} {𝓤 : Ura M} {𝓛 : Logic 𝓤} {K : Type 0} {Γ : List (Item 𝓤)} {G : Goal 𝓤 𝓛.H} where
  -- A fact is put into the context.
  pub had : K → (φ : Type 0) → φ → Step K 𝓛 (raw (fact 𝓤 φ) ∷ Γ) G Γ G
  had t φ p = use0 𝓛 (raw (fact 𝓤 φ)) (fact_i 𝓤 φ (emp 𝓤) p)

  -- The machine values of a slice are known, and its bytes fit the memory.
  knows : K → (κ : Lft) (x : MutBor Chunks) (us : List Val) → (us ≡ mut_slice_vals x → Room E (length x.now)
      → Seq K 𝓛 (‵ (Slice κ x (mut_slice_vals x)) ∷ Γ) G) → Seq K 𝓛 (‵ (Slice κ x us) ∷ Γ) G
  knows t κ x us k = fsplit t $ fsplit t $ feq_l t (λ ev. pure_l t (room E (length x.now)) (λ rm.
      pure_i t (mut_slice_at E x (mut_slice_vals x)) (tt, (tt, tt)) (refl, rm) $ fjoin t $ k ev rm))

abbrev pub four_val : MutBor Chunks × MutBor Chunks → MutBor Chunks × MutBor Chunks → Val
four_val p q = let val = λ (x : MutBor Chunks). slice_val x.ref_ptr (length x.now) in
    vstruct (vcons (val p.0) (vcons (val p.1) (vcons (val q.0) (vcons (val q.1) vnil))))

abbrev pub pair_val : MutBor Chunks × MutBor Chunks → Val
pair_val r = vstruct (vcons (slice_val r.0.ref_ptr (length r.0.now))
    (vcons (slice_val r.1.ref_ptr (length r.1.now)) vnil))

module _ {M : Type 1} {𝓤 : Ura M} {𝓛 : Logic 𝓤} {K : Type 0} {Γ : List (Item 𝓤)} {G : Goal 𝓤 𝓛.H} where
  pub opens_self : K → Soaks G → (κs : Lfts 2) (self : MutBor ShardsRefMut) {q : Share}
      → ((us : List Val) → (is : Is (Row κs) self.now us)
      → Seq K 𝓛 (Opened κs self q (held κs self.now us is) us Γ) G)
      → Seq K 𝓛 (‵ (Self κs self) ∷ ‵ (flft κs.0 q) ∷ Γ) G
  opens_self t soaks κs self k = let b = self.ref_ptr.0 in let o = self.ref_ptr.1 in
      fsplit3 t $ move t (1 ∷ 2 ∷ 3 ∷ []) $ opens t soaks (Row κs) {h = self.now} b o (λ us.
      move t (1 ∷ []) $ peeks t (Row κs) (Is (Row κs)) (shows 𝓛 (Row κs)) self.now us (λ is. move t (1 ∷ []) $
      rewrite t 0 (λ (ws : List Val). ‵ (cell_at full_share (Row κs).mir ws b o)) (is_held κs self.now us is) refl $
      k us is))

  pub closes_self : K → Soaks G → (κs : Lfts 2) (self : MutBor ShardsRefMut) {q : Share} (us : List Val)
      (is : Is (Row κs) self.now us)
      → Step K 𝓛 (‵ (Self κs self) ∷ ‵ (flft κs.0 q) ∷ Γ) G
      (Opened κs self q (held κs self.now us is) us Γ) G
  closes_self t soaks κs self us is = step (λ s. let b = self.ref_ptr.0 in let o = self.ref_ptr.1 in
      rewrite t 0 (λ (ws : List Val). ‵ (cell_at full_share (Row κs).mir ws b o))
      (sym (is_held κs self.now us is)) refl $
      closes t soaks (Row κs) self.now us b o $ move t (3 ∷ 0 ∷ 1 ∷ []) $ fjoin3 t $ s)

  -- A pair of slices is taken apart.
  pub parts : K → (κ : Lft) (r : MutBor Chunks × MutBor Chunks) (v : Val)
      → (v ≡ pair_val r → Room E (length r.0.now) → Room E (length r.1.now)
      → Seq K 𝓛 (‵ (Slice κ r.0 (mut_slice_vals r.0)) ∷ ‵ (Slice κ r.1 (mut_slice_vals r.1)) ∷ Γ) G)
      → Seq K 𝓛 (‵ ((Pair κ).own_val r (v ∷ [])) ∷ Γ) G
  parts t κ r v k = fpick t (λ vss. fsplit t $ feq_l t (λ e. fsplit t $ move t (1 ∷ []) $ fsplit t $ move t (1 ∷ []) $
      drop t $ knows t κ r.1 vss.1.0 (λ e₁ rm₁. move t (1 ∷ []) $ knows t κ r.0 vss.0 (λ e₀ rm₀.
      let S = MutSlice (named 0) κ E in
      k (ap only e ∙ ap₂ (λ a b. vstruct (of_list (flat (S ∷ S ∷ []) (a, (b, tt)))))
      e₀ e₁) rm₀ rm₁))))

  -- Four slices become a tuple.
  pub fours_made : K → (κ : Lft) (p q : MutBor Chunks × MutBor Chunks)
      → Step K 𝓛 (‵ ((Fours κ).own_val (p.0, p.1, q.0, q.1) (four_val p q ∷ [])) ∷ Γ) G
      (‵ (Slice κ p.0 (mut_slice_vals p.0)) ∷ ‵ (Slice κ p.1 (mut_slice_vals p.1)) ∷ ‵
      (Slice κ q.0 (mut_slice_vals q.0)) ∷ ‵ (Slice κ q.1 (mut_slice_vals q.1)) ∷ Γ) G
  fours_made t κ p q = step (λ s.
      let S = MutSlice (named 0) κ E in let parts : List RattleType = S ∷ S ∷ S ∷ S ∷ [] in
      nothing t $ move t (4 ∷ 0 ∷ []) $ fjoin t $ move t (3 ∷ 0 ∷ []) $ fjoin t $ move t (2 ∷ 0 ∷ []) $ fjoin t $
      move t (1 ∷ 0 ∷ []) $ fjoin t $ feq_i t (List Val) (four_val p q ∷ []) (four_val p q ∷ []) refl $ fjoin t $
      fpack t (Valss parts) (within (shape (tuple_type parts)) (p.0, (p.1, (q.0, (q.1, tt)))) (four_val p q ∷ []))
      (mut_slice_vals p.0, (mut_slice_vals p.1, (mut_slice_vals q.0, (mut_slice_vals q.1, tt)))) $ s)

-- The contracts of `all` and of `two_runs`, which use neither the memory nor other functions.
abbrev AllCall : {M : Type 1} {𝓤 : Ura M} → Logic 𝓤 → Contract 𝓤
AllCall {𝓤 = 𝓤} 𝓛 = triple_of 𝓛 all.signature (all.spec 𝓛 (λ _. emp 𝓤) (λ _ _ _. emp 𝓤))

abbrev TwoCall : {M : Type 1} {𝓤 : Ura M} → Logic 𝓤 → Contract 𝓤
TwoCall {𝓤 = 𝓤} 𝓛 = triple_of 𝓛 two.signature (two.spec 𝓛 (λ _. emp 𝓤) (λ _ _ _. emp 𝓤))

-- The calls of `all` and of `two_runs`.
module _ {M : Type 1} {𝓤 : Ura M} {𝓛 : Logic 𝓤} {K : Type 0} {Γ : List (Item 𝓤)} {E' : Env 𝓤 𝓛.H} {C : Calls 𝓤 𝓛.H}
    {f : Callee} {xs : List Opd} {Λ : Loops 𝓤 𝓛.H} {q' : Post 𝓤 𝓛.H} {d : Place} {rest : Body} where
  pub calls_all : (t : K) → FmC 𝓤 𝓛.H 𝓛.laws C → Triple 𝓤 (C f) (AllCall 𝓛)
      → (κs : Lfts 2) (qs : Shares 2) → (bounds : AllOutlive 2 all.signature.outlives κs) → (self : MutBor ShardsRefMut)
      → Opds K 𝓛 (AllTaken κs qs self ∷ Γ) E' xs (mut_vals self)
      → ((x : MutBor Chunks) → (v : Val) → x.now ≡ self.now.chunks.now → v ≡ slice_val x.ref_ptr (length x.now)
      → Room E (length x.now)
      → Seq K 𝓛 (‵ (Slice κs.0 x (mut_slice_vals x)) ∷ ‵ (flft κs.0 qs.0) ∷ (‵ (flft κs.1.0 qs.1.0) ⊛ ‵ ftrue) ∷ ‵
      (LendsAll self x) ∷ Γ) (lands C Λ E' d v rest q'))
      → Seq K 𝓛 (‵ (Self κs self) ∷ ‵ (flft κs.0 qs.0) ∷
      (‵ (flft κs.1.0 qs.1.0) ⊛ ‵ ftrue) ∷ Γ) (runs C Λ E' (seq (call f xs d) rest) q')
  calls_all t fm met κs qs bounds self os k =
      let G = AllCall 𝓛 in let z : G.Ghost = ((κs, qs, bounds, (self, tt), (mut_vals self, tt)), tt) in
      nothing t $ move t (1 ∷ 0 ∷ []) $ join t $ move t (1 ∷ 2 ∷ 0 ∷ []) $ join t $ join t $ nothing t $
      move t (1 ∷ 0 ∷ []) $ join t $
      calls_from t fm (AllTaken κs qs self) (mut_vals self) (G.post z) (met z) os (λ v.
      use1 𝓛 (later (some (λ (x : MutBor Chunks). (Alive κs qs ⊛ ‵ (Slice κs.0 x (v ∷ []))) ⊛
      some (λ (ws : Unit {0} × Unit {0}). ‵ (lasts all.ended κs (self, tt) ws) ⊛ ‵ (LendsAll self x) ⊛
      raw (fact 𝓤 (x.now ≡ self.now.chunks.now)))))) (id⊢ 𝓤 _) $
      await t tt $ pick t (λ x. split t $ split t $ move t (2 ∷ []) $ pick t (λ ws.
      split t $ drop t $ split t $ move t (1 ∷ []) $ heard t _ (λ ex. move t (2 ∷ []) $
      knows t κs.0 x (v ∷ []) (λ ev rm.
      move t (2 ∷ []) $ split t $ move t (2 ∷ 0 ∷ 1 ∷ []) $ k x v ex (ap only ev) rm)))))

  pub calls_two : (t : K) → FmC 𝓤 𝓛.H 𝓛.laws C → Triple 𝓤 (C f) (TwoCall 𝓛) → (κ : Lft) (q : Share) (x : MutBor Chunks)
      (i n j m : ℕ) → i < 2 ^ 64 → n < 2 ^ 64 → j < 2 ^ 64 → m < 2 ^ 64 → i + n ≤ j → j + m ≤ length x.now
      → Opds K 𝓛 (TwoTaken κ q x i n j m ∷ Γ) E' xs
      (slice_val x.ref_ptr (length x.now) ∷ vint w64 i ∷ vint w64 n ∷ vint w64 j ∷ vint w64 m ∷ [])
      → ((r : MutBor Chunks × MutBor Chunks) → (v : Val)
      → (r.0.now ≡ take n (drop_list i x.now)) × (r.1.now ≡ take m (drop_list j x.now)) → Is (Pair κ) r (v ∷ [])
      → Seq K 𝓛 (‵ ((Pair κ).own_val r (v ∷ [])) ∷ ‵ (flft κ q) ∷ ‵ (LendsParts x i n j m r) ∷ Γ)
      (lands C Λ E' d v rest q'))
      → Seq K 𝓛 (‵ (Slice κ x (mut_slice_vals x)) ∷ ‵ (flft κ q) ∷ Γ) (runs C Λ E' (seq (call f xs d) rest) q')
  calls_two t fm met κ q x i n j m fi fn fj fm' apart within os k =
      let G = TwoCall 𝓛 in let z : G.Ghost =
      (((κ, tt), (q, tt), tt, (x, (i, (n, (j, (m, tt))))), (mut_slice_vals x, numbers i n j m)), tt) in
      nothing t $ owned t usize _ (uint_Makes 𝓛 w64) m _ (refl, fm') $ fjoin t $
      owned t usize _ (uint_Makes 𝓛 w64) j _ (refl, fj) $ fjoin t $
      owned t usize _ (uint_Makes 𝓛 w64) n _ (refl, fn) $ fjoin t $
      owned t usize _ (uint_Makes 𝓛 w64) i _ (refl, fi) $ fjoin t $ move t (1 ∷ 0 ∷ []) $ join t $
      nothing t $ move t (2 ∷ 0 ∷ []) $ join t $ join t $ had t (j + m ≤ length x.now) within $
      had t (i + n ≤ j) apart $ join t $ move t (1 ∷ 0 ∷ []) $ join t $
      calls_from t fm (TwoTaken κ q x i n j m) (G.args z) (G.post z) (met z) os (λ v.
      use1 𝓛 (later (some (λ (r : MutBor Chunks × MutBor Chunks).
      ((‵ (flft κ q) ⊛ ‵ ftrue) ⊛ ‵ ((Pair κ).own_val r (v ∷ []))) ⊛
      some (λ (ws : Unit {0} × (Unit {0} × (Unit {0} × (Unit {0} × (Unit {0} × Unit {0}))))).
      ‵ (lasts two.ended (κ, tt) z.0.3 ws) ⊛ ‵ (LendsParts x i n j m r) ⊛
      raw (fact 𝓤 ((r.0.now ≡ take n (drop_list i x.now)) × (r.1.now ≡ take m (drop_list j x.now)))))))) (id⊢ 𝓤 _) $
      await t tt $ pick t (λ r. split t $ split t $ move t (2 ∷ []) $ pick t (λ ws.
      split t $ drop t $ split t $ move t (1 ∷ []) $ heard t _ (λ value. move t (2 ∷ []) $
      peeks t (Pair κ) (Is (Pair κ)) (shows 𝓛 (Pair κ)) r (v ∷ []) (λ shown. move t (2 ∷ []) $ split t $
      move t (1 ∷ []) $ drop t $ move t (1 ∷ 0 ∷ []) $ k r v value shown)))))

-- Two runs of all chunks are two runs of the list of rows.
pub lends_runs : {M : Type 1} {𝓤 : Ura M} (𝓛 : Logic 𝓤) (self : MutBor ShardsRefMut) (x : MutBor Chunks) (i n j m : ℕ)
    (r : MutBor Chunks × MutBor Chunks) → x.now ≡ self.now.chunks.now
    → ent 𝓤 (sep 𝓤 (sem 𝓛 (LendsAll self x)) (sem 𝓛 (LendsParts x i n j m r))) (sem 𝓛 (LendsTwoRuns self i n j m r))
unfolding both_by
lends_runs {𝓤 = 𝓤} 𝓛 self x i n j m r ex =
    let A = Array E 0 in let Ends : Chunks × Chunks → Fml = λ w.
    fsep (fres r.0.ghost_name (A.coded.code w.0)) (fres r.1.ghost_name (A.coded.code w.1)) in
    let whole : Chunks → Chunks × Chunks → ShardsRefMut = λ c w. with_chunks self.now (with_two c i n j m w.0 w.1) in
    qed 𝓛 (‵ (LendsAll self x) ∷ ‵ (LendsParts x i n j m r) ∷ []) ∵
    each ! (λ (w : Chunks × Chunks). wand 𝓤 (sem 𝓛 (Ends w))
    (sem 𝓛 (fres self.ghost_name (Bare.coded.code (whole self.now.chunks.now w)))))
    (λ w. assume ! (‵ (Ends w)) $ move ! (0 ∷ 2 ∷ []) $
    use2 𝓛 (‵ (fres x.ghost_name (A.coded.code (with_two x.now i n j m w.0 w.1))))
    (followed₂ 𝓛 (mem A) (mem A) (mem A) (with_two x.now i n j m) x.ghost_name r.0.ghost_name r.1.ghost_name w.0 w.1) $
    rewrite ! 0 (λ (c : Chunks). ‵ (fres x.ghost_name (A.coded.code (with_two c i n j m w.0 w.1)))) ex refl $
    move ! (1 ∷ 0 ∷ []) $ by ! (followed 𝓛 Bare A (with_chunks self.now) self.ghost_name x.ghost_name
    (with_two self.now.chunks.now i n j m w.0 w.1)))
