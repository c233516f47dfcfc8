-- A list of rows is lent for a call, and the list is known again after the call.
use Rattle.rs_field.proofs.Walking.{ℕ, refl, [], ◌∷◌, named, Lft, flft, full_share, wand, apply∗, GName, fdead, fres}
use Rattle.rs_field.proofs.Walking.{RattleType, MutBor, MutRef, mut_vals, ‵, ◌⊛◌, raw, some, later, ◌$◌, ◌∵◌, !, ◌≡◌}
use Rattle.rs_field.proofs.Walking.{rewrite, qed, move, keep, split, await, pick, done, use1, use2, use3}
use seplogic.Ra.Ura.{Ura}
use base.Share
use base.Logic.{ent, sep}
use base.Fml.{Fml, Share}
pub use contract.BorrowLft.{meet_⊑_right}
pub use types.Follow.{followed₂}
pub use denote.Memory.{mem}
use contract.BorrowLft.{meet_⊑_left}
use types.Logic.{Logic, sem}
use types.Kit.{Item, mean, updating, now, show}
use types.Tokens.{lft_new, lft_end}
use base.Stored.{Gv}
use denote.Array.{Array}
use denote.Slice.{finally}
use denote.FollowSlice.{finally-res}
use Rattle.rs_field.specs.rows.Rows.{Chunks}
use Rattle.rs_field.proofs.rows_lemmas.LentChunks.{E}
use denote.Lend.{lends_again, comes_back, LentAgain}

abbrev pub code₀ : Chunks → Gv
code₀ = (Array E 0).coded.code

-- The last chunks of a lent row.
module _ {M : Type 1} {𝓤 : Ura M} (𝓛 : Logic 𝓤) (γ : GName) (last : Chunks) where
  pub row-ended : (end : Chunks) → last ≡ end → ent 𝓤 (sem 𝓛 (finally E γ last)) (sem 𝓛 (fres γ (code₀ end)))
  row-ended end is = qed 𝓛 (‵ (finally E γ last) ∷ []) ∵ use1 𝓛 (‵ (fres γ (code₀ last))) (finally-res 𝓛 E γ last) $
      rewrite ! 0 (λ (k : Chunks). ‵ (fres γ (code₀ k))) is refl $ done !

module _ {M : Type 1} {𝓤 : Ura M} (𝓛 : Logic 𝓤) (Row : RattleType) (κ₀ κ₁ : Lft) (q₀ q₁ : Share)
    (self : MutBor Row.Denot) where
  open 𝓛 use {H, A}

  abbrev Ref : Lft → MutBor Row.Denot → Fml
  Ref κ x = (MutRef (named 0) κ Row).own_val x (mut_vals self)

  -- The part of the loan that the lender keeps, for the lifetime and the name of the loan.
  abbrev pub Kept : ℕ → GName → Item 𝓤
  Kept α δ = ‵ (LentAgain Row κ₀ (α ∷ κ₁) q₀ self.ghost_name self.ref_ptr.0 self.ref_ptr.1 δ self.now)
      ⊛ raw (wand 𝓤 (A.lft (α ∷ []) (Share.left q₁)) (A.lft (α ∷ []) full_share))

  -- The loan, the tokens of the loan, and the part that the lender keeps.
  abbrev pub Lent : ℕ × GName → Item 𝓤
  Lent v = ‵ (Ref (v.0 ∷ κ₁) (record self { ghost_name = v.1 })) ⊛
      (‵ (flft (v.0 ∷ κ₁) (Share.left q₁)) ⊛ (‵ (flft κ₁ (Share.right q₁)) ⊛ Kept v.0 v.1))

  pub lends : ent 𝓤 (sep 𝓤 (sem 𝓛 (flft κ₁ q₁)) (sep 𝓤 (sem 𝓛 (Ref κ₀ self)) (sem 𝓛 (flft κ₀ q₀))))
      (H.⇛ (mean 𝓛 (some Lent)))
  lends =
      let ql = Share.left q₁ in let qr = Share.right q₁ in
      qed 𝓛 (‵ (flft κ₁ q₁) ∷ ‵ (Ref κ₀ self) ∷ ‵ (flft κ₀ q₀) ∷ []) ∵ updating ! $ lft_new ! tt (λ α.
      use1 𝓛 (‵ (flft (α ∷ []) ql) ⊛ raw (wand 𝓤 (A.lft (α ∷ []) ql) (A.lft (α ∷ []) full_share)))
      (𝓛.lfts.lft_carve α ql) $ split ! $
      move ! (2 ∷ []) $ use1 𝓛 (‵ (flft κ₁ ql) ⊛ ‵ (flft κ₁ qr)) (𝓛.lfts.lft_split κ₁ q₁) $ split ! $
      move ! (2 ∷ 0 ∷ []) $ use2 𝓛 (‵ (flft (α ∷ κ₁) ql)) (𝓛.lfts.lft_meet (α ∷ []) κ₁ ql) $
      -- [the token of the loan; what is left of the list's; the rest of the new one; self; its token]
      move ! (3 ∷ 4 ∷ []) $
      use2 𝓛 (later (some (λ (δ : GName).
      ‵ (Ref (α ∷ κ₁) (record self { ghost_name = δ })) ⊛ ‵
      (LentAgain Row κ₀ (α ∷ κ₁) q₀ self.ghost_name self.ref_ptr.0 self.ref_ptr.1 δ self.now))))
      (lends_again 𝓛 Row (named 0) κ₀ (α ∷ κ₁) q₀ self.ghost_name self.ref_ptr.0 self.ref_ptr.1 (named 0) self.now) $
      await ! tt $ pick ! (λ δ. split ! $
      now ! $ show ! (λ v. mean 𝓛 (Lent v)) (α, δ) $ keep ! (0 ∷ 2 ∷ 3 ∷ 1 ∷ 4 ∷ []) $ done !))

  -- The reference `self` and its tokens after the call.
  abbrev pub Back : Row.Denot → Item 𝓤
  Back end = ‵ (Ref κ₀ (record self { now = end })) ⊛ (‵ (flft κ₀ q₀) ⊛ ‵ (flft κ₁ q₁))

  pub gives_back : (α : ℕ) (δ : GName) (end : Row.Denot)
      → ent 𝓤 (sep 𝓤 (sem 𝓛 (fres δ (Row.coded.code end)))
      (sep 𝓤 (mean 𝓛 (‵ (flft (α ∷ κ₁) (Share.left q₁)) ⊛ ‵ (flft κ₁ (Share.right q₁)))) (mean 𝓛 (Kept α δ))))
      (H.⇛ (mean 𝓛 (Back end)))
  gives_back α δ end =
      let ql = Share.left q₁ in let qr = Share.right q₁ in
      qed 𝓛 (‵ (fres δ (Row.coded.code end)) ∷ (‵ (flft (α ∷ κ₁) ql) ⊛ ‵ (flft κ₁ qr)) ∷ Kept α δ ∷ []) ∵ updating ! $
      move ! (2 ∷ []) $ split ! $ move ! (3 ∷ []) $ split ! $ use1 𝓛 (‵ (flft (α ∷ []) ql) ⊛ ‵ (flft κ₁ ql))
      (𝓛.lfts.lft_unmeet (α ∷ []) κ₁ ql) $ split ! $
      -- [the token of the new lifetime; two of the list's; what the lender keeps; the rest of the new token; the last
      -- value]
      move ! (0 ∷ 4 ∷ []) $ use2 𝓛 (‵ (flft (α ∷ []) full_share))
      (apply∗ 𝓤 (A.lft (α ∷ []) ql) (A.lft (α ∷ []) full_share)) $
      lft_end ! tt $ use1 𝓛 (‵ (fdead (α ∷ κ₁))) (𝓛.lfts.dead-incl (α ∷ κ₁) (α ∷ []) (meet_⊑_left (α ∷ []) κ₁)) $
      move ! (1 ∷ 2 ∷ []) $ use2 𝓛 (‵ (flft κ₁ q₁)) (𝓛.lfts.lft_join κ₁ q₁) $
      move ! (1 ∷ 2 ∷ 3 ∷ []) $ use3 𝓛 (later (‵ (Ref κ₀ (record self { now = end })) ⊛ ‵ (flft κ₀ q₀)))
      (comes_back 𝓛 Row (named 0) κ₀ (α ∷ κ₁) q₀ self.ghost_name self.ref_ptr.0 self.ref_ptr.1 δ self.now end) $ await !
      tt $ split ! $
      now ! $ done !
