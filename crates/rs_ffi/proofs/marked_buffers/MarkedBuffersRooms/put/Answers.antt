use Rattle.std.proofs.lemmas.Grind.{common_steps}
use Rattle.std.proofs.Common.{◌≡◌, ℕ, ◌+◌, ◌*◌, ◌<◌, ◌≤◌, List, [], ◌++◌, length, map, take, drop, get_or, sym, ap, ap₂}
use Rattle.std.proofs.Common.{subst, ◌∙◌, inl, inr, arith}
use Rattle.std.proofs.lemmas.Bool.{cases_lt}
use Rattle.std.proofs.lemmas.List.{get_or_past, get_or-map, length-map}
use Rattle.rs_field.specs.code.Given.{Shards}
use Rattle.rs_field.specs.code.OneCall.{default_of}
use Rattle.rs_ffi.specs.Buffers.{marked_map, shard_place}
use Rattle.rs_ffi.proofs.CutLemmas.{put-here, put-other, put-long}
use Rattle.rs_ffi.proofs.LostLemmas.{lost-mark, lost-grow, grow-apart}
use Rattle.rs_ffi.proofs.MarkedState.{map-put}
use Rattle.rs_ffi.proofs.marked_buffers.MarkedBuffersRooms.put.Goals.{After-put}
use Rattle.rs_ffi.proofs.marked_buffers.MarkedBuffersRooms.put.Goals as goal

-- The index is that of a lost shard, and the piece is inside the place of this shard and inside the buffer.
placed : (c : After-put) → let x = c.args.self.now in let many = length c.args.piece.now in
    (c.args.index < length x.lost.now) × (c.args.start + many ≤ x.size)
    × (get_or x.lost.now c.args.index 0 * x.size + c.args.start + many ≤ length x.originals.now)
placed c = grind (arith, common_steps)

pub returns-then-not-is_empty-clause-here : goal.returns-then-not-is_empty-clause-here
returns-then-not-is_empty-clause-here c =
    let size : ℕ = c.args.self.now.size in let bytes : List ℕ = c.args.self.now.originals.now in
    let (inside, fits, within) = placed (goal.at.returns-then-not-is_empty-clause-here c).After-put in
    let place : ℕ = get_or c.args.self.now.lost.now c.args.index 0 in
    let was = get_or-map (λ (i : ℕ). shard_place size bytes i) c.args.self.now.lost.now c.args.index 0 [] inside in
    get_or-map (λ (i : ℕ). shard_place size c.put.new.buffer i) c.args.self.now.lost.now c.args.index 0 [] inside
    ∙ ap (λ (l : List ℕ). shard_place c.args.self.now.size l (get_or c.args.self.now.lost.now c.args.index 0))
    c.put.ensures
    ∙ put-here size place c.args.start bytes c.args.piece.now fits within
    ∙ ap (λ (s : List ℕ). take c.args.start s ++ (c.args.piece.now ++ drop (c.args.start + length c.args.piece.now) s))
    (sym was)

pub returns-then-not-is_empty-clause-others : goal.returns-then-not-is_empty-clause-others
returns-then-not-is_empty-clause-others c = λ i other.
    let size : ℕ = c.args.self.now.size in let bytes : List ℕ = c.args.self.now.originals.now in
    let lost : List ℕ = c.args.self.now.lost.now in
    let (inside, fits, within) = placed (goal.at.returns-then-not-is_empty-clause-others c).After-put in
    let many = length-map c.args.self.now.lost.now
    (λ (i : ℕ). shard_place c.args.self.now.size c.args.self.now.originals.now i) in
    let now = length-map c.args.self.now.lost.now (λ (i : ℕ). shard_place c.args.self.now.size c.put.new.buffer i) in
    let place : ℕ = get_or c.args.self.now.lost.now c.args.index 0 in
    elim (cases_lt i (length lost)) [
      | inl there ↦
          let apart : get_or c.args.self.now.lost.now i 0 ≡ (get_or c.args.self.now.lost.now c.args.index 0) → ⊥ =
          (λ same. grow-apart lost
          (subst (λ (l : List ℕ). (n m : ℕ) → n < m → m < length l → get_or l n 0 < get_or l m 0)
          (sym c.args.self.now.listed) (lost-grow 0 c.args.self.now.original_marks.now))
          i c.args.index there inside other same) in
          get_or-map (λ (i : ℕ). shard_place size c.put.new.buffer i) c.args.self.now.lost.now i 0 [] there
          ∙ ap (λ (l : List ℕ). shard_place c.args.self.now.size l (get_or c.args.self.now.lost.now i 0)) c.put.ensures
          ∙ put-other size place c.args.start bytes c.args.piece.now fits within (get_or lost i 0) apart
          ∙ sym (get_or-map (λ (i : ℕ). shard_place size bytes i) c.args.self.now.lost.now i 0 [] there)
      | inr past ↦
          get_or_past (map (λ (i : ℕ). shard_place size c.put.new.buffer i) lost) i [] (omega (arith, now, past))
          ∙ sym (get_or_past (map (λ (i : ℕ). shard_place size bytes i) lost) i [] (omega (arith, many, past)))
    ]

pub returns-then-not-is_empty-clause-places : goal.returns-then-not-is_empty-clause-places
returns-then-not-is_empty-clause-places c =
    let size : ℕ = c.args.self.now.size in let bytes : List ℕ = c.args.self.now.originals.now in
    let marks : List ℕ = c.args.self.now.original_marks.now in
    let (inside, fits, within) = placed (goal.at.returns-then-not-is_empty-clause-places c).After-put in
    let place : ℕ = get_or c.args.self.now.lost.now c.args.index 0 in
    let (j, (same, below, zero_here)) =
    lost-mark 0 marks c.args.index
    (subst (λ (l : List ℕ). c.args.index < length l) c.args.self.now.listed inside) in
    let at : (get_or c.args.self.now.lost.now c.args.index 0) ≡ j =
    ap (λ (l : List ℕ). get_or l c.args.index 0) c.args.self.now.listed ∙ same
    ∙ (let e : 0 + j ≡ j = omega arith in e) in
    let lost : get_or c.args.self.now.original_marks.now (get_or c.args.self.now.lost.now c.args.index 0) 0 ≡ 0 =
    ap (λ (i : ℕ). get_or c.args.self.now.original_marks.now i 0) at ∙ zero_here in
    let map_same : marked_map c.args.self.now.size c.args.self.now.original_marks.now c.put.new.buffer
    ≡ marked_map c.args.self.now.size c.args.self.now.original_marks.now c.args.self.now.originals.now =
    ap (marked_map c.args.self.now.size c.args.self.now.original_marks.now) c.put.ensures
    ∙ map-put size place c.args.start marks bytes c.args.piece.now fits within lost in
    let long : length c.put.new.buffer ≡ length c.args.self.now.originals.now =
    ap length c.put.ensures ∙ put-long size place c.args.start bytes c.args.piece.now fits within in
    ap₂ (λ (own : Shards) (n : ℕ). (
      record {
        configuration = default_of c.args.self.now.counts.original_count c.args.self.now.counts.recovery_count
            c.args.self.now.size;
        originals = own;
        recovery = marked_map c.args.self.now.size c.args.self.now.recovery_marks.now c.args.self.now.recovery.now;
      },
      c.args.self.now.original_marks.now,
      c.args.self.now.lost.now,
      n,
    )) map_same long
