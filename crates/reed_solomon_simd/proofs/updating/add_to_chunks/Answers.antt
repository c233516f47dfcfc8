use Rattle.std.proofs.Common.{◌≡◌, ℕ, ◌*◌, ◌/◌, ◌<◌, [], All, length, sym, ap, ◌∙◌, subst, arith}
use Rattle.std.specs.Prelude.{slice_index}
use Rattle.std.proofs.lemmas.List.{length-map}
use Rattle.rs_field.specs.code.Column.{shard_at}
use Rattle.reed_solomon_simd.specs.Rooms.{bytes_in}
use Rattle.reed_solomon_simd.specs.Updated.{IsChangedStrip}
use Rattle.reed_solomon_simd.proofs.ChunkChanges.{chunks-changed, rest-at}
use Rattle.reed_solomon_simd.proofs.updating.add_to_chunks.Goals as goal

pub returns-clause-changed : goal.returns-clause-changed
returns-clause-changed g c i h =
    let n : ℕ = length c.args.old.now / 64 in
    let kept = c.rooms_are_bytes.ensures.kept in
    let rest = rw c.as_chunks.ensures.front_len at c.change_chunks.ensures.rest in
    let (long, after) = rest-at n c.change_chunks.new.recovery c.args.recovery.now i rest h in
    let count : length (bytes_in c.rooms_are_bytes.new.rooms) ≡ length c.rooms_are_bytes.new.rooms =
    length-map c.rooms_are_bytes.new.rooms (λ room. room.now) in
    let many : length c.change_chunks.new.recovery ≡ length c.args.recovery.now =
    sym (length-map c.change_chunks.new.recovery (λ room. (room.ref_ptr, room.ghost_name)))
    ∙ ap length c.change_chunks.ensures.kept
    ∙ length-map c.args.recovery.now (λ room. (room.ref_ptr, room.ghost_name)) in
    subst (λ rooms. IsChangedStrip 0 (n * 64) c.args.old.now c.args.new.now (slice_index c.args.factors.now i)
    (shard_at (bytes_in c.args.recovery.now) i) (shard_at (bytes_in rooms) i)) (sym kept)
    (chunks-changed n c.args.old.now c.args.new.now (slice_index c.args.factors.now i)
    (shard_at (bytes_in c.args.recovery.now) i) (shard_at (bytes_in c.change_chunks.new.recovery) i)
    (c.requires.small i h) (omega arith) c.requires.same (c.requires.fit i h) long
    (subst (λ rooms. All (λ b. b < 256) (shard_at (bytes_in rooms) i)) kept
    (c.rooms_are_bytes.ensures.bytes i [] (omega (arith, h, count, ap length kept, many))))
    after
    (λ k s few inside.
    let plain = c.change_chunks.ensures.words.changed k s i
    (subst (λ m. k < m) (sym c.as_chunks.ensures.front_len) few) inside (omega arith)
    (omega (arith, h, c.requires.number)) in
    rw (c.as_chunks.ensures.front, c.as_chunks-2.ensures.front, c.requires.same) at plain))
