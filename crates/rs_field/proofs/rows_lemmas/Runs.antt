-- A run of a slice's chunks is lent as a slice, and two runs are lent as two slices.
use Rattle.rs_field.proofs.Walking.{use3, keep, List, ◌-◌, ◌≡◌, refl, sym, ap, ◌∙◌, ℕ, ◌+◌, ◌*◌, ◌≤◌, arith, [], ◌∷◌}
use Rattle.rs_field.proofs.Walking.{◌++◌, length, take, drop_list, take-append-drop, drop-drop, length-take-le}
use Rattle.rs_field.proofs.Walking.{length-drop, Val, Lft, flft, ‵, ◌⊛◌, ◌$◌, ◌∵◌, !, qed, named, move, drop, fsplit}
use Rattle.rs_field.proofs.Walking.{fsplit3, fjoin, await, later, some, use1, use2, group, pick, done, split, split3}
use Rattle.rs_field.proofs.Walking.{rewrite, feq_l, feq_i, join, MutBor, RattleType, Array, Room, slice_val}
use Rattle.rs_field.proofs.Walking.{follows_both, fres, at, at_mul}
use Rattle.std.proofs.Common.{ap₂}
use Rattle.std.proofs.lemmas.List.{append_assoc}
use Rattle.std.proofs.lemmas.Slice.{between_is}
use lib.ListN.{length-append}
use lib.Seq.{take-take}
use seplogic.Ra.Ura.{Ura}
use base.Logic.{SProp, ent, sep, ex, wand}
use base.Stored.{Gv, coded_list}
use base.Fml.{GName, Share, fobs, fbor, fsep}
use types.Logic.{Logic, sem}
use types.Kit.{Item, each, assume, updating, now, show, mean}
use types.SemTy.{cells, Arr, Body}
use types.Follow.{after₂, takes_part, followed₂}
use types.Mut.{open_ref}
use denote.Memory.{mem}
use denote.Follow.{both_by, followed}
use denote.FollowSlice.{heres_id, slice_of}
use borrow.Table.Elements.{cut_app, join_app}
use borrow.Rule.Slice.Followed.{splits}
use Rattle.rs_field.specs.rows.Rows.{Chunks}
use Rattle.rs_field.specs.rows.Lending.{with_run, with_two, LendsChunks, LendsParts}
use Rattle.rs_field.proofs.rows_lemmas.LentChunks.{E, Slice, taken}

abbrev A : RattleType
A = Array E 0

abbrev code : Chunks → Gv
code = A.coded.code

-- The n chunks from a on, as a slice.
abbrev pub run_of : MutBor Chunks → ℕ → ℕ → GName → MutBor Chunks
run_of x a n δ =
    record { ref_ptr = (x.ref_ptr.0, a * 64 + x.ref_ptr.1); ghost_name = δ; now = take n (drop_list a x.now) }

module _ {M : Type 1} {𝓤 : Ura M} (𝓛 : Logic 𝓤) (κ : Lft) (q : Share) (x : MutBor Chunks) (a n : ℕ)
    (within : a + n ≤ length x.now) where
  open 𝓛 use {H}

  abbrev b : ℕ
  b = x.ref_ptr.0

  abbrev o : ℕ
  o = x.ref_ptr.1

  abbrev p : ℕ
  p = a * 64 + o

  abbrev front : Chunks
  front = take a x.now

  abbrev mid : Chunks
  mid = take n (drop_list a x.now)

  abbrev back : Chunks
  back = drop_list n (drop_list a x.now)

  cut : x.now ≡ front ++ (mid ++ back)
  cut = sym (take-append-drop a x.now)
      ∙ ap (λ (l : Chunks). front ++ l) (sym (take-append-drop n (drop_list a x.now)))

  on : at o 64 (length front) ≡ p
  on = at_mul o 64 (length front) ∙ ap (λ (k : ℕ). k * 64 + o) (length-take-le a x.now (omega arith))

  abbrev Others : SProp 𝓤
  Others = sep 𝓤 (sem 𝓛 (cells (mem E) front b o)) (sem 𝓛 (cells (mem E) back b (at p 64 (length mid))))

  put_run : (ws : Chunks) → ent 𝓤 (sep 𝓤 (sem 𝓛 ((Arr (mem E) (length mid)).own_at ws b p)) Others)
      (sem 𝓛 ((Arr (mem E) (length x.now)).own_at (with_run x.now a n ws) b o))
  put_run ws = qed 𝓛 (‵ ((Arr (mem E) (length mid)).own_at ws b p) ∷ ‵ (cells (mem E) front b o) ∷ ‵
      (cells (mem E) back b (at p 64 (length mid))) ∷ []) ∵
      fsplit ! $ feq_l ! (λ e.
      let whole : length x.now ≡ length front + length (mid ++ back) =
      ap length cut ∙ length-append front (mid ++ back) in
      let inner : length (mid ++ back) ≡ length mid + length back = length-append mid back in
      let now_whole : length (with_run x.now a n ws) ≡ length front + length (ws ++ back) =
      length-append front (ws ++ back) in
      let now_inner : length (ws ++ back) ≡ length ws + length back = length-append ws back in
      rewrite ! 2 (λ (k : ℕ). ‵ (cells (mem E) back b (at p 64 k))) (sym e) refl $ move ! (0 ∷ 2 ∷ []) $
      use2 𝓛 (‵ (cells (mem E) (ws ++ back) b p)) (join_app 𝓛 (mem E) ws back b p) $
      rewrite ! 0 (λ (k : ℕ). ‵ (cells (mem E) (ws ++ back) b k)) (sym on) refl $ move ! (1 ∷ 0 ∷ []) $
      use2 𝓛 (‵ (cells (mem E) (with_run x.now a n ws) b o)) (join_app 𝓛 (mem E) front (ws ++ back) b o) $
      feq_i ! ℕ (length (with_run x.now a n ws)) (length x.now) (omega arith) $ fjoin ! $ done !)

  abbrev pub run_lent : GName → Item 𝓤
  run_lent δ = ‵ (Slice κ (run_of x a n δ) (slice_val (b, p) n ∷ [])) ⊛ ‵ (flft κ q) ⊛ ‵
      (LendsChunks x a n (run_of x a n δ))

  pub lends_run : Room E (length x.now) → (vs : List Val) → ent 𝓤 (sep 𝓤 (sem 𝓛 (Slice κ x vs)) (sem 𝓛 (flft κ q)))
      (H.⇛ (ex 𝓤 (λ δ. mean 𝓛 (run_lent δ))))
  lends_run rm vs =
      let long : length mid ≡ n = taken x.now a n within in
      qed 𝓛 (‵ (Slice κ x vs) ∷ ‵ (flft κ q) ∷ []) ∵
      updating ! $ fsplit3 ! $ drop ! $
      rewrite ! 0 (λ (l : Chunks). ‵ (fobs x.ghost_name ((coded_list E.coded).code l))) (heres_id E x.now) refl $
      open_ref ! tt (Arr (mem E) (length x.now)) {b = b} {o = o} $ fsplit ! $ drop ! $
      rewrite ! 0 (λ (l : Chunks). ‵ (cells (mem E) l b o)) cut refl $
      use1 𝓛 (‵ (cells (mem E) front b o) ⊛ ‵ (cells (mem E) (mid ++ back) b (at o 64 (length front))))
      (cut_app 𝓛 (mem E) front (mid ++ back) b o) $ split ! $ move ! (1 ∷ []) $
      rewrite ! 0 (λ (k : ℕ). ‵ (cells (mem E) (mid ++ back) b k)) on refl $
      use1 𝓛 (‵ (cells (mem E) mid b p) ⊛ ‵ (cells (mem E) back b (at p 64 (length mid))))
      (cut_app 𝓛 (mem E) mid back b p) $ split ! $
      feq_i ! ℕ (length mid) (length mid) refl $ fjoin ! $ move ! (2 ∷ 1 ∷ []) $ join ! $ move !
      (2 ∷ 3 ∷ 4 ∷ 1 ∷ 0 ∷ []) $ group ! 5 $
      use1 𝓛 (later (some (λ (δ : GName).
      ‵ (fobs δ ((coded_list E.coded).code mid)) ⊛ ‵ (fbor κ (Body (Arr (mem E) (length mid)) b p δ)) ⊛ ‵
      (flft κ q) ⊛ ‵ (LendsChunks x a n (run_of x a n δ)))))
      (takes_part 𝓛 (Arr (mem E) (length x.now)) (Arr (mem E) (length mid)) (with_run x.now a n) κ q b o b p
      x.ghost_name Others put_run ((coded_list E.coded).code x.now) ((coded_list E.coded).code x.now) mid) $
      await ! tt $ pick ! (λ δ. split3 ! $
      use2 𝓛 (‵ (Slice κ (run_of x a n δ) (slice_val (b, p) (length mid) ∷ [])))
      (slice_of 𝓛 E (named 0) κ b p δ mid (omega arith, omega arith)) $
      rewrite ! 0 (λ (k : ℕ). ‵ (Slice κ (run_of x a n δ) (slice_val (b, p) k ∷ []))) long refl $
      now ! $ show ! (λ δ. mean 𝓛 (run_lent δ)) δ $ done !)

-- Replacing a run in the chunks before chunk j and a run in the chunks from chunk j on replaces both in all chunks.
both-written : (xs : Chunks) (i n j m : ℕ) → i + n ≤ j → (u v : Chunks)
    → with_run (take j xs) i n u ++ with_run (drop_list j xs) 0 m v ≡ with_two xs i n j m u v
both-written xs i n j m apart u v =
    append_assoc (take i (take j xs)) (u ++ drop_list n (drop_list i (take j xs))) _
    ∙ ap₂ ◌++◌ (take-take i j xs (omega arith))
    (append_assoc u (drop_list n (drop_list i (take j xs))) _ ∙ ap (λ (l : Chunks). u ++ l)
    (ap₂ (λ (g l : Chunks). g ++ (v ++ l)) (drop-drop n i (take j xs) ∙ sym (between_is xs (i + n) j))
    (drop-drop m j xs)))

module _ {M : Type 1} {𝓤 : Ura M} (𝓛 : Logic 𝓤) (κ : Lft) (q : Share) (x : MutBor Chunks) (i n j m : ℕ)
    (apart : i + n ≤ j) (within : j + m ≤ length x.now) where
  open 𝓛 use {H}

  abbrev pub first_of : GName × GName → MutBor Chunks
  first_of δ = run_of x i n δ.0

  abbrev pub second_of : GName × GName → MutBor Chunks
  second_of δ = run_of x j m δ.1

  abbrev pub two_lent : GName × GName → Item 𝓤
  two_lent δ = ‵ (Slice κ (first_of δ) (slice_val (first_of δ).ref_ptr n ∷ [])) ⊛ ‵
      (Slice κ (second_of δ) (slice_val (second_of δ).ref_ptr m ∷ [])) ⊛ ‵ (flft κ q) ⊛ ‵
      (LendsParts x i n j m (first_of δ, second_of δ))

  written : (y z : MutBor Chunks) (δ : GName × GName) → y.now ≡ take j x.now → z.now ≡ drop_list j x.now
      → ent 𝓤 (sep 𝓤 (sem 𝓛 (follows_both A A A x.ghost_name y.ghost_name z.ghost_name ◌++◌))
      (sep 𝓤 (sem 𝓛 (LendsChunks y i n (run_of y i n δ.0))) (sem 𝓛 (LendsChunks z 0 m (run_of z 0 m δ.1)))))
      (sem 𝓛 (LendsParts x i n j m (first_of δ, second_of δ)))
  unfolding both_by
  written y z δ is is' =
      let parts = λ (w : Chunks × Chunks). with_run y.now i n w.0 ++ with_run z.now 0 m w.1 in
      qed 𝓛 (‵ (follows_both A A A x.ghost_name y.ghost_name z.ghost_name ◌++◌) ∷ ‵
      (LendsChunks y i n (run_of y i n δ.0)) ∷ ‵ (LendsChunks z 0 m (run_of z 0 m δ.1)) ∷ []) ∵
      each ! (λ (w : Chunks × Chunks). wand 𝓤 (sem 𝓛 (fsep (fres δ.0 (code w.0)) (fres δ.1 (code w.1))))
      (sem 𝓛 (fres x.ghost_name (code (with_two x.now i n j m w.0 w.1)))))
      (λ w. assume ! (‵ (fres δ.0 (code w.0)) ⊛ ‵ (fres δ.1 (code w.1))) $ split ! $
      move ! (3 ∷ 0 ∷ []) $ use2 𝓛 (‵ (fres y.ghost_name (code (with_run y.now i n w.0))))
      (followed 𝓛 A A (with_run y.now i n) y.ghost_name δ.0 w.0) $
      move ! (3 ∷ 1 ∷ []) $ use2 𝓛 (‵ (fres z.ghost_name (code (with_run z.now 0 m w.1))))
      (followed 𝓛 A A (with_run z.now 0 m) z.ghost_name δ.1 w.1) $ move ! (1 ∷ 0 ∷ []) $ join ! $
      use2 𝓛 (‵ (fres x.ghost_name (code (parts w))))
      (followed₂ 𝓛 (mem A) (mem A) (mem A) ◌++◌ x.ghost_name y.ghost_name z.ghost_name (with_run y.now i n w.0)
      (with_run z.now 0 m w.1)) $
      rewrite ! 0 (λ (l : Chunks). ‵ (fres x.ghost_name (code l)))
      (ap₂ (λ (c d : Chunks). with_run c i n w.0 ++ with_run d 0 m w.1) is is'
      ∙ both-written x.now i n j m apart w.0 w.1)
      refl $ done !)

  pub lends_two : Room E (length x.now) → (vs : List Val) → ent 𝓤 (sep 𝓤 (sem 𝓛 (Slice κ x vs)) (sem 𝓛 (flft κ q)))
      (H.⇛ (ex 𝓤 (λ δ. mean 𝓛 (two_lent δ))))
  unfolding both_by
  lends_two rm vs =
      let b = x.ref_ptr.0 in let o = x.ref_ptr.1 in
      let front : Chunks = take j x.now in let back : Chunks = drop_list j x.now in
      let lf : length front ≡ j = length-take-le j x.now (omega arith) in
      let lb : length back ≡ length x.now - j = length-drop j x.now in
      let p = at o 64 (length front) in
      let on : p ≡ j * 64 + o = at_mul o 64 (length front) ∙ ap (λ (k : ℕ). k * 64 + o) lf in
      let y : GName → MutBor Chunks = λ γ. record { ref_ptr = (b, o); ghost_name = γ; now = front } in
      let z : GName → MutBor Chunks = λ γ. record { ref_ptr = (b, p); ghost_name = γ; now = back } in
      qed 𝓛 (‵ (Slice κ x vs) ∷ ‵ (flft κ q) ∷ []) ∵ updating ! $
      rewrite ! 0 (λ (l : Chunks). ‵ (Slice κ (record x { now = l }) vs)) (sym (take-append-drop j x.now)) refl $
      use2 𝓛 (later (some (λ (γ : GName × GName). ‵ (Slice κ (y γ.0) (slice_val (b, o) (length front) ∷ [])) ⊛ ‵
      (Slice κ (z γ.1) (slice_val (b, p) (length back) ∷ [])) ⊛ ‵ (flft κ q) ⊛ ‵
      (after₂ (Arr (mem E) 0) (Arr (mem E) 0) (Arr (mem E) 0) x.ghost_name γ.0 γ.1 ◌++◌))))
      (splits 𝓛 E (named 0) κ q b o x.ghost_name front back (omega arith, omega arith) (omega arith, omega arith) vs) $
      await ! tt $ pick ! (λ γ. split3 ! $ move ! (2 ∷ []) $ split ! $
      let inner : (i + n ≤ length front) × (0 + m ≤ length back) = (omega arith, omega arith) in
      let first_now : take n (drop_list i front) ≡ take n (drop_list i x.now) =
      ap (take n) (sym (between_is x.now i j)) ∙ take-take n (j - i) (drop_list i x.now) (omega arith) in
      let second_at : 0 * 64 + p ≡ j * 64 + o = omega arith in
      -- [the token; what x follows; the front; the back]
      move ! (2 ∷ 0 ∷ []) $ use2 𝓛 (later (some (run_lent 𝓛 κ q (y γ.0) i n inner.0)))
      (lends_run 𝓛 κ q (y γ.0) i n inner.0 (omega arith, omega arith) (slice_val (b, o) (length front) ∷ [])) $
      await ! tt $ pick ! (λ δ. split3 ! $ move ! (4 ∷ 1 ∷ []) $
      use2 𝓛 (later (some (run_lent 𝓛 κ q (z γ.1) 0 m inner.1)))
      (lends_run 𝓛 κ q (z γ.1) 0 m inner.1 (omega arith, omega arith) (slice_val (b, p) (length back) ∷ [])) $
      await ! tt $ pick ! (λ δ'. split3 ! $
      -- [the second run; the token; what the back follows; the first run; what the front follows; what x follows]
      rewrite ! 3 (λ (l : Chunks). ‵ (Slice κ (record (run_of x i n δ) { now = l })
      (slice_val (b, i * 64 + o) n ∷ []))) first_now refl $
      rewrite ! 0 (λ (h : ℕ). ‵ (Slice κ (record { ref_ptr = (b, h); ghost_name = δ'; now = take m back })
      (slice_val (b, h) m ∷ []))) second_at refl $ move ! (5 ∷ 4 ∷ 2 ∷ []) $
      use3 𝓛 (‵ (LendsParts x i n j m (run_of x i n δ, run_of x j m δ'))) (written (y γ.0) (z γ.1) (δ, δ') refl refl) $
      now ! $ show ! (λ δ. mean 𝓛 (two_lent δ)) (δ, δ') $ keep ! (3 ∷ 1 ∷ 2 ∷ 0 ∷ []) $ done !)))
