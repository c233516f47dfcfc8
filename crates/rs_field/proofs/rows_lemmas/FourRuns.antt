-- Four runs of chunks are lent: two runs from each of two runs.
use Rattle.std.proofs.Common.{rules, ap₂}
use Rattle.rs_field.proofs.Walking.{◌≡◌, refl, sym, ap, ◌∙◌, ℕ, ◌+◌, ◌-◌, arith, [], ◌∷◌, ◌++◌, take, drop_list}
use Rattle.rs_field.proofs.Walking.{drop-drop, ‵, ◌⊛◌, raw, ◌$◌, ◌∵◌, !, qed, move, join, split, use1, use2, rewrite}
use Rattle.rs_field.proofs.Walking.{MutBor, RattleType, Array, fres}
use seplogic.Ra.Ura.{Ura}
use lib.Seq.{take-take}
use base.Stored.{Gv}
use types.SemTy.{SemTy}
use base.Logic.{SProp, ent, sep, wand, all_e, apply∗}
use types.Logic.{Logic, sem}
use types.Kit.{by, each, assume}
use types.Follow.{followed₂}
use denote.Memory.{mem}
use denote.Follow.{both_by, followed}
use Rattle.std.proofs.lemmas.List.{append_assoc}
use Rattle.std.proofs.lemmas.Slice.{between_is}
use Rattle.rs_field.specs.rows.Rows.{Chunks}
use Rattle.rs_field.specs.rows.Lending.{between, with_chunks, with_two, with_four, LendsAll, LendsParts, LendsFour}
use Rattle.rs_field.specs.rows.Lending.{LendsFourRuns}
use Rattle.rs_field.specs.declared.rows.shards.ShardsRefMut.{ShardsRefMut}
use Rattle.rs_field.proofs.rows_lemmas.LentChunks.{E, Bare}

-- The first n chunks and the last n chunks of a run of d + n chunks are replaced.
module _ (xs : Chunks) (i n d : ℕ) where
  gap : between (0 + n) d (take (d + n) (drop_list i xs)) ≡ between (i + n) (i + d) xs
  gap = let e : d - (0 + n) ≡ (i + d) - (i + n) = omega arith in let from : i + (0 + n) ≡ i + n = omega arith in
      between_is (take (d + n) (drop_list i xs)) (0 + n) d
      ∙ ap (drop_list (0 + n)) (take-take d (d + n) (drop_list i xs) (omega arith))
      ∙ sym (between_is (drop_list i xs) (0 + n) d)
      ∙ ap₂ take e (drop-drop (0 + n) i xs ∙ ap (λ k. drop_list k xs) from)

  none : drop_list (d + n) (take (d + n) (drop_list i xs)) ≡ []
  none = let e : (d + n) - (d + n) ≡ 0 = omega arith in
      sym (between_is (drop_list i xs) (d + n) (d + n)) ∙ ap (λ k. take k (drop_list (d + n) (drop_list i xs))) e

  -- They are rows of the list.
  pub two-rows : (ch c u v : Chunks) (j : ℕ) → xs ≡ ch → i + d ≡ j → c ≡ take (d + n) (drop_list i xs)
      → (u ≡ take n (drop_list 0 c)) × (v ≡ take n (drop_list d c))
      → (u ≡ take n (drop_list i ch)) × (v ≡ take n (drop_list j ch))
  two-rows ch c u v j ex to is now = (
    now.0 ∙ ap (take n) is ∙ take-take n (d + n) (drop_list i xs) (omega arith) ∙ ap (λ l. take n (drop_list i l)) ex,
    now.1 ∙ ap (λ l. take n (drop_list d l)) is ∙ ap (take n) (sym (between_is (drop_list i xs) d (d + n)))
        ∙ take-take n ((d + n) - d) (drop_list d (drop_list i xs)) (omega arith)
        ∙ ap (take n) (drop-drop d i xs ∙ ap₂ drop_list to ex),
  )

  ends_of : (u v : Chunks) → with_two (take (d + n) (drop_list i xs)) 0 n d n u v
      ≡ u ++ (between (i + n) (i + d) xs ++ (v ++ []))
  ends_of u v = ap₂ (λ g b. u ++ (g ++ (v ++ b))) gap none

joined : (a b c z : Chunks) → (a ++ (b ++ (c ++ []))) ++ z ≡ a ++ (b ++ (c ++ z))
joined a b c z = search (rules, append_assoc)

pub four-runs : (xs : Chunks) (i k n d : ℕ) (u v w z : Chunks)
    → with_two xs i (d + n) k (d + n) (with_two (take (d + n) (drop_list i xs)) 0 n d n u v)
    (with_two (take (d + n) (drop_list k xs)) 0 n d n w z)
    ≡ with_four xs i (i + d) k (k + d) n u v w z
four-runs xs i k n d u v w z = search (rules, ends_of, joined)

abbrev pub Four : Type 0 → Type 0
Four X = X × X × X × X

module _ {M : Type 1} {𝓤 : Ura M} (𝓛 : Logic 𝓤) (R T : RattleType) (s : MutBor R.Denot) (r : Four (MutBor T.Denot))
    (F : T.Denot → T.Denot → T.Denot → T.Denot → R.Denot) where
  open 𝓛 use {A}

  abbrev Last : Four T.Denot → SProp 𝓤
  Last v = sep 𝓤 (sep 𝓤 (A.res r.0.ghost_name (T.coded.code v.0)) (A.res r.1.ghost_name (T.coded.code v.1)))
      (sep 𝓤 (A.res r.2.ghost_name (T.coded.code v.2)) (A.res r.3.ghost_name (T.coded.code v.3)))

  abbrev Ends : Four T.Denot → SProp 𝓤
  Ends v = wand 𝓤 (Last v) (A.res s.ghost_name (R.coded.code (F v.0 v.1 v.2 v.3)))

  pub followed₄ : (v : Four T.Denot) → ent 𝓤 (sep 𝓤 (Last v) (sem 𝓛 (LendsFour R T s r F)))
      (A.res s.ghost_name (R.coded.code (F v.0 v.1 v.2 v.3)))
  followed₄ v = qed 𝓛 (raw (Last v) ∷ ‵ (LendsFour R T s r F) ∷ []) ∵ move ! (1 ∷ []) $
      use1 𝓛 (raw (Ends v)) (all_e 𝓤 Ends v) $ move ! (1 ∷ 0 ∷ []) $ by !
      (apply∗ 𝓤 (Last v) (A.res s.ghost_name (R.coded.code (F v.0 v.1 v.2 v.3))))

-- A list of rows lends all chunks, they lend two runs, and each of these lends two runs.
module _ {M : Type 1} {𝓤 : Ura M} (𝓛 : Logic 𝓤) (self : MutBor ShardsRefMut) (x : MutBor Chunks) (i j k l n d : ℕ)
    (r p q : MutBor Chunks × MutBor Chunks) (ex : x.now ≡ self.now.chunks.now)
    (first : r.0.now ≡ take (d + n) (drop_list i x.now)) (last : r.1.now ≡ take (d + n) (drop_list k x.now))
    (to : i + d ≡ j) (on : k + d ≡ l) where
  open 𝓛 use {A}

  abbrev ch : Chunks
  ch = self.now.chunks.now

  abbrev code : Chunks → Gv
  code = (Array E 0).coded.code

  abbrev L : SemTy
  L = mem (Array E 0)

  whole : (u v w z : Chunks) → with_two x.now i (d + n) k (d + n) (with_two r.0.now 0 n d n u v)
      (with_two r.1.now 0 n d n w z) ≡ with_four ch i j k l n u v w z
  whole u v w z = search (rules, four-runs)

  pub lends_four : ent 𝓤 (sep 𝓤 (sem 𝓛 (LendsAll self x)) (sep 𝓤 (sem 𝓛 (LendsParts x i (d + n) k (d + n) r))
      (sep 𝓤 (sem 𝓛 (LendsParts r.0 0 n d n p)) (sem 𝓛 (LendsParts r.1 0 n d n q)))))
      (sem 𝓛 (LendsFourRuns self i j k l n (p.0, p.1, q.0, q.1)))
  unfolding both_by
  lends_four = qed 𝓛 (‵ (LendsAll self x) ∷ ‵ (LendsParts x i (d + n) k (d + n) r) ∷ ‵ (LendsParts r.0 0 n d n p) ∷ ‵
      (LendsParts r.1 0 n d n q) ∷ []) ∵
      each ! (Ends 𝓛 Bare (Array E 0) self (p.0, p.1, q.0, q.1)
      (λ u v w z. with_chunks self.now (with_four ch i j k l n u v w z))) (λ v.
      assume ! ((‵ (fres p.0.ghost_name (code v.0)) ⊛ ‵ (fres p.1.ghost_name (code v.1))) ⊛
      (‵ (fres q.0.ghost_name (code v.2)) ⊛ ‵ (fres q.1.ghost_name (code v.3)))) $ split ! $
      -- [the last values of p; those of q; what self follows; what x follows; what r.0 follows; what r.1 follows]
      let front = with_two r.0.now 0 n d n v.0 v.1 in let back = with_two r.1.now 0 n d n v.2 v.3 in
      move ! (0 ∷ 4 ∷ []) $ use2 𝓛 (‵ (fres r.0.ghost_name (code front)))
      (followed₂ 𝓛 L L L (with_two r.0.now 0 n d n) r.0.ghost_name p.0.ghost_name p.1.ghost_name v.0 v.1) $
      move ! (1 ∷ 4 ∷ []) $ use2 𝓛 (‵ (fres r.1.ghost_name (code back)))
      (followed₂ 𝓛 L L L (with_two r.1.now 0 n d n) r.1.ghost_name q.0.ghost_name q.1.ghost_name v.2 v.3) $
      move ! (1 ∷ 0 ∷ []) $ join ! $ move ! (0 ∷ 2 ∷ []) $
      use2 𝓛 (‵ (fres x.ghost_name (code (with_two x.now i (d + n) k (d + n) front back))))
      (followed₂ 𝓛 L L L (with_two x.now i (d + n) k (d + n)) x.ghost_name r.0.ghost_name r.1.ghost_name front back) $
      rewrite ! 0 (λ (c : Chunks). ‵ (fres x.ghost_name (code c))) (whole v.0 v.1 v.2 v.3) refl $ move ! (1 ∷ 0 ∷ []) $
      by ! (followed 𝓛 Bare (Array E 0) (with_chunks self.now) self.ghost_name x.ghost_name
      (with_four ch i j k l n v.0 v.1 v.2 v.3)))
