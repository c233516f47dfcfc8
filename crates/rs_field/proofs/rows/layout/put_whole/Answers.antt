use Rattle.std.proofs.Common.{rules, ◌≡◌, ℕ, ◌+◌, ◌*◌, ◌/◌, ◌<◌, ◌≤◌, List, [], length, take, get_or, ap, ◌∙◌, arith}
use Rattle.std.proofs.Common.{sym, get_or-set_same}
use lib.ListN.{set}
use Rattle.std.specs.Simd.{first_chunks}
use Rattle.std.proofs.lemmas.List.{get_or_append_left, get_or-take}
use Rattle.rs_field.proofs.rows_lemmas.LayoutLemmas.{byte_of_chunk}
use Rattle.rs_field.proofs.rows.layout.put_whole.Goals as goal

-- Byte b of chunk k of the first bytes of a shard is byte 64 k + b of the shard.
byte_of_shard : (count k b : ℕ) (shard : List ℕ) (chunks : List (List ℕ))
    → chunks ≡ first_chunks 64 (length (take (count * 64) shard) / 64) (take (count * 64) shard)
    → count * 64 ≤ length shard → k < count → b < 64 → get_or (get_or chunks k []) b 0 ≡ get_or shard (k * 64 + b) 0
byte_of_shard count k b shard chunks are within h hb = search (rules, byte_of_chunk, get_or-take)

pub returns-then-whole-eq1 : goal.returns-then-whole-eq1
returns-then-whole-eq1 c k b h hb =
    let row = c.args.row.now in
    let x = get_or c.as_chunks.result.0.now 0 [] in
    let first : k ≡ 0 = omega arith in
    let some : 0 < length row = omega arith in
    let laid : get_or (set row 0 x) k [] ≡ x =
    ap (λ i. get_or (set row 0 x) i []) first ∙ get_or-set_same row 0 x [] some in
    let put = byte_of_shard c.args.whole 0 b c.args.shard.now c.as_chunks.result.0.now c.as_chunks.ensures.front
    c.requires.within (omega arith) hb in
    ap (λ chunk. get_or chunk b 0) laid ∙ put ∙ ap (λ i. get_or c.args.shard.now (i * 64 + b) 0) (sym first)

pub returns-else-whole-eq1 : goal.returns-else-whole-eq1
returns-else-whole-eq1 c k b h hb = search (rules, get_or_append_left, byte_of_shard)
