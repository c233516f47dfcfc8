use Rattle.std.proofs.lemmas.Grind.{common_steps}
use Rattle.std.proofs.Common.{ℕ, ◌+◌, ◌*◌, ◌<◌, ◌≤◌, List, [], ◌++◌, length, take, drop, sym, ap, ◌∙◌, inl, inr, arith}
use Rattle.std.proofs.lemmas.Bool.{cases_lt}
use Rattle.std.proofs.lemmas.List.{get_or_past}
use Rattle.rs_ffi.specs.Buffers.{shards_in_buffer}
use Rattle.rs_ffi.proofs.CutLemmas.{cut-length, cut-at, put-here, put-other}
use Rattle.rs_ffi.proofs.buffer_rooms.BufferRoomsRooms.put.Goals.{After-put}
use Rattle.rs_ffi.proofs.buffer_rooms.BufferRoomsRooms.put.Goals as goal

pub put-requires : goal.put-requires
put-requires c = grind (arith, common_steps, cut-length, cut-at)

pub returns-then-not-is_empty-clause-number : goal.returns-then-not-is_empty-clause-number
returns-then-not-is_empty-clause-number c =
    cut-length c.args.self.now.count c.args.self.now.size c.put.new.buffer
    ∙ sym (cut-length c.args.self.now.count c.args.self.now.size c.args.self.now.bytes.now)

-- The index is that of a room, and the piece is inside the room and inside the buffer.
placed : (c : After-put) → let x = c.args.self.now in let many = length c.args.piece.now in
    (c.args.index < x.count) × (c.args.start + many ≤ x.size)
    × (c.args.index * x.size + c.args.start + many ≤ length x.bytes.now)
placed c = grind (arith, common_steps, cut-length, cut-at)

pub returns-then-not-is_empty-clause-here : goal.returns-then-not-is_empty-clause-here
returns-then-not-is_empty-clause-here c =
    let n = c.args.self.now.count in let size = c.args.self.now.size in let bytes = c.args.self.now.bytes.now in
    let (inside, fits, within) = placed (goal.at.returns-then-not-is_empty-clause-here c).After-put in
    cut-at n size c.put.new.buffer c.args.index inside
    ∙ ap (λ (l : List ℕ). take c.args.self.now.size (drop (c.args.index * c.args.self.now.size) l)) c.put.ensures
    ∙ put-here size c.args.index c.args.start bytes c.args.piece.now fits within
    ∙ ap (λ (s : List ℕ). take c.args.start s ++ (c.args.piece.now ++ drop (c.args.start + length c.args.piece.now) s))
    (sym (cut-at n size bytes c.args.index inside))

pub returns-then-not-is_empty-clause-others : goal.returns-then-not-is_empty-clause-others
returns-then-not-is_empty-clause-others c = λ i other.
    let n : ℕ = c.args.self.now.count in let size : ℕ = c.args.self.now.size in let bytes : List ℕ =
    c.args.self.now.bytes.now in
    let (inside, fits, within) = placed (goal.at.returns-then-not-is_empty-clause-others c).After-put in
    let all = cut-length n size bytes in
    let now = cut-length n size c.put.new.buffer in
    elim (cases_lt i n) [
      | inl below ↦
          cut-at n size c.put.new.buffer i below
          ∙ ap (λ (l : List ℕ). take c.args.self.now.size (drop (i * c.args.self.now.size) l)) c.put.ensures
          ∙ put-other size c.args.index c.args.start bytes c.args.piece.now fits within i other
          ∙ sym (cut-at n size bytes i below)
      | inr past ↦ get_or_past (shards_in_buffer n size c.put.new.buffer) i [] (omega (arith, now, past))
          ∙ sym (get_or_past (shards_in_buffer n size bytes) i [] (omega (arith, all, past)))
    ]
