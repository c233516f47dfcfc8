use Rattle.std.proofs.Common.{rules, ◌≡◌, ℕ, ◌<◌, List, [], length, get_or, MutBor, refl, sym, ap, ◌∙◌, inl, inr, arith}
use Rattle.std.proofs.lemmas.Bool.{cases_eq}
use Rattle.std.proofs.lemmas.List.{get_or-map, length-map}
use Rattle.rs_field.specs.code.Column.{shard_at}
use Rattle.rs_field.specs.rows.Rows.{byte_symbol}
use Rattle.reed_solomon_simd.specs.Rooms.{bytes_in, loans_of}
use Rattle.reed_solomon_simd.proofs.UpdateLemmas.{shard-set, shard-kept}
use Rattle.reed_solomon_simd.proofs.room_chunks.RoomChunksChangeRows.put_chunk.Goals as goal

-- The bytes of the room with this index.
held : (rooms : List (MutBor (List ℕ))) (index : ℕ) → index < length rooms
    → (get_or rooms index (record { ref_ptr = (0, 0); ghost_name = 0; now = [] })).now ≡ shard_at (bytes_in rooms) index
held rooms index inside = search (rules, get_or-map)

pub returns-clause-here : goal.returns-clause-here
returns-clause-here c s small =
    let rooms : List (MutBor (List ℕ)) = c.args.self.now.rooms.now in
    let count : length (loans_of c.args.self.now.rooms.now) ≡ length c.args.self.now.rooms.now =
    length-map rooms (λ room. (room.ref_ptr, room.ghost_name)) in
    ap (λ x. byte_symbol x c.args.k s)
    (shard-set rooms c.args.row c.args.row _ (omega (arith, count, c.requires.0)) refl)
    ∙ c.put_chunk.ensures.value s small

pub returns-clause-others : goal.returns-clause-others
returns-clause-others c j s i small apart =
    let rooms : List (MutBor (List ℕ)) = c.args.self.now.rooms.now in
    let count : length (loans_of c.args.self.now.rooms.now) ≡ length c.args.self.now.rooms.now =
    length-map rooms (λ room. (room.ref_ptr, room.ghost_name)) in
    elim (cases_eq i c.args.row) [
      | inl same ↦
          ap (λ x. byte_symbol x j s) (shard-set rooms c.args.row i _ (omega (arith, count, c.requires.0)) same)
          ∙ c.put_chunk.ensures.others j s small (elim apart [
            | inl other ↦ other
            | inr away ↦ λ _. away same
          ])
          ∙ ap (λ x. byte_symbol x j s)
          (held rooms c.args.row (omega (arith, count, c.requires.0)) ∙ ap (shard_at (bytes_in rooms)) (sym same))
      | inr away ↦ ap (λ x. byte_symbol x j s) (shard-kept rooms c.args.row i _ away)
    ]
