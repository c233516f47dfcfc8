use Rattle.std.proofs.Common.{◌≡◌, ℕ, ◌*◌, ◌/◌, length, refl, ap, ◌∙◌, subst, sym, inl, inr, arith}
use Rattle.std.specs.Prelude.{slice_index}
use Rattle.rs_field.specs.code.Column.{shard_at}
use Rattle.reed_solomon_simd.specs.Rooms.{bytes_in}
use Rattle.reed_solomon_simd.specs.Updated.{IsChangedStrip}
use Rattle.reed_solomon_simd.proofs.ChunkChanges.{all-changed}
use Rattle.reed_solomon_simd.proofs.updating.add_to_all.Goals as goal
use Rattle.reed_solomon_simd.proofs.updating.add_to_all.Goals.{then-end-gt0, else-end-gt0}

pub returns-then-end-old-clause-changed : goal.returns-then-end-old-clause-changed
returns-then-end-old-clause-changed g c i h =
    let end : ℕ = length c.args.old.now / 64 * 64 in
    let log : ℕ = slice_index c.args.factors.now i in
    let before = shard_at (bytes_in c.args.recovery.now) i in
    let count : length c.if-end-gt0.recovery ≡ length c.args.recovery.now = elim c.if-end-gt0.branch [
      | then-end-gt0 w ↦ ap length w.recovery-is ∙ w.add_to_chunks.ensures.number
      | else-end-gt0 w ↦ ap length w.recovery-is
    ] in
    all-changed c.args.old.now c.args.new.now log before (shard_at (bytes_in c.if-end-gt0.recovery) i)
    (shard_at (bytes_in c.add_to_tails.new.recovery) i) c.requires.some (c.requires.fit i h) c.requires.same
    (elim c.if-end-gt0.branch [
      | then-end-gt0 w ↦
          inr (subst (λ r. IsChangedStrip 0 end c.args.old.now c.args.new.now log before (shard_at (bytes_in r) i))
          (sym w.recovery-is) (w.add_to_chunks.ensures.changed i h))
      | else-end-gt0 w ↦
          inl (omega (arith, w.if-end-gt0.false), ap (λ r. shard_at (bytes_in r) i) w.recovery-is)
    ])
    (inr (c.add_to_tails.ensures.changed i (omega (arith, h, count))))

pub returns-else-end-old-clause-changed : goal.returns-else-end-old-clause-changed
returns-else-end-old-clause-changed g c i h =
    let end : ℕ = length c.args.old.now / 64 * 64 in
    let log : ℕ = slice_index c.args.factors.now i in
    let before = shard_at (bytes_in c.args.recovery.now) i in
    all-changed c.args.old.now c.args.new.now log before (shard_at (bytes_in c.if-end-gt0.recovery) i)
    (shard_at (bytes_in c.if-end-gt0.recovery) i) c.requires.some (c.requires.fit i h) c.requires.same
    (elim c.if-end-gt0.branch [
      | then-end-gt0 w ↦
          inr (subst (λ r. IsChangedStrip 0 end c.args.old.now c.args.new.now log before (shard_at (bytes_in r) i))
          (sym w.recovery-is) (w.add_to_chunks.ensures.changed i h))
      | else-end-gt0 w ↦
          inl (omega (arith, w.if-end-gt0.false), ap (λ r. shard_at (bytes_in r) i) w.recovery-is)
    ])
    (inl (omega (arith, c.if-end-old.false), refl))
