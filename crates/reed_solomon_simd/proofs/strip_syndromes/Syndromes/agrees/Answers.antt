use Rattle.std.proofs.Common.{rules, ◌≡◌, ◌-◌, ◌<◌, ℕ, [], ◌∷◌, length, refl, sym, ap, ◌∙◌, subst, arith, pow_mono}
use Rattle.std.specs.Prelude.{true, false, not, is_some, slice_index, ◌↔◌, IsTrue}
use Rattle.std.proofs.lemmas.List.{get_or_past}
use Rattle.rs_field.specs.declared.code.frame.Frame.{Frame}
use Rattle.rs_field.specs.code.Column.{Shard, shard_at}
use Rattle.rs_field.specs.code.Decoder.{DecoderState}
use Rattle.rs_field.specs.code.Frame.{recovery_row, frame_at, row_count}
use Rattle.rs_field.specs.code.PieceStates.{state_of_pieces}
use Rattle.rs_field.specs.rows.MarkedRows.{is_marked}
use Rattle.rs_field.proofs.code_lemmas.Given.{some_of}
use Rattle.rs_rate.specs.objects.StripView.{coded_shards}
use Rattle.reed_solomon_simd.specs.StripSums.{sum_at}
use Rattle.rs_rate.proofs.passes_lemmas.ChangeLemmas.{distinct_rows_of}
use Rattle.rs_rate.proofs.rows_lemmas.AddedShards.{none_of}
use Rattle.reed_solomon_simd.specs.Syndromes.{IsSyndromeSum}
use Rattle.reed_solomon_simd.proofs.BaseLemmas.{frame_same}
use Rattle.reed_solomon_simd.proofs.BaseMarks.{some-copied}
use Rattle.reed_solomon_simd.proofs.SyndromeChecks.{sums-one, none-agrees, early-agrees}
use Rattle.reed_solomon_simd.proofs.SyndromeRounds.{lent-count}
use Rattle.reed_solomon_simd.proofs.strip_syndromes.Syndromes.agrees.Goals as goal

pub recovery_row-row-requires : goal.recovery_row-row-requires
recovery_row-row-requires g c =
    let f = distinct_rows_of c.counts.result.framed c.counts.result.supported in
    let room = pow_mono f.few in
    omega (arith, f.recovery, room, c.requires.index, c.counts.ensures.recovery)

pub returns-then-is_none : goal.returns-then-is_none
returns-then-is_none g c =
    let s : DecoderState = g.P.Pieces.received c.args.received.now in
    let ready = c.requires.ready in
    let missing : is_some ((state_of_pieces c.args.start c.args.end
    (g.P.Pieces.received c.args.received.now)).recovery c.args.index) ≡ false =
    sym (ap is_some c.piece.ensures) ∙ some-copied c.piece.result ∙ c.is_none.ensures ∙ ap not c.if-is_none.true in (
      λ is. none-agrees s ready.set_up c.args.start c.args.end ready.strip c.args.self.now.base ready.based
          (coded_shards c.args.self.now.encoder) ready.made c.args.index
          (none_of ((state_of_pieces c.args.start c.args.end s).recovery c.args.index) missing),
      λ agrees. refl,
    )

pub returns-then-row-self : goal.returns-then-row-self
returns-then-row-self g c =
    let s : DecoderState = g.P.Pieces.received c.args.received.now in
    let ready = c.requires.ready in
    let frame = frame_same s ready.set_up c.counts.result.framed c.counts.ensures.originals c.counts.ensures.recovery in
    let row : c.recovery_row-row.result
    ≡ recovery_row (frame_at (g.P.Pieces.received c.args.received.now).configuration) c.args.index =
    c.recovery_row-row.ensures ∙ ap (λ (f : Frame). recovery_row f c.args.index) frame in (
      λ is. early-agrees s ready.set_up c.args.start c.args.end ready.strip c.args.self.now.base ready.based
          (coded_shards c.args.self.now.encoder) ready.made c.args.index c.requires.index
          (omega (arith, row, c.if-row-self.true)),
      λ agrees. refl,
    )

-- The row of a recovery shard is a row of the decoder.
pub sum_rows-requires-clause-inside : goal.sum_rows-requires-clause-inside
sum_rows-requires-clause-inside g c d first =
    let s : DecoderState = g.P.Pieces.received c.args.received.now in
    let ready = c.requires.ready in
    let f = distinct_rows_of c.counts.result.framed c.counts.result.supported in
    let only : slice_index (c.recovery_row-row.result ∷ []) d ≡ c.recovery_row-row.result =
    ap (slice_index (c.recovery_row-row.result ∷ [])) (let e : d ≡ 0 = omega (arith, first) in e) in
    subst (λ (x : ℕ). x < row_count (frame_at (g.P.Pieces.received c.args.received.now).configuration)) (sym only)
    (subst (λ (f : Frame). c.recovery_row-row.result < row_count f)
    (frame_same s ready.set_up c.counts.result.framed c.counts.ensures.originals c.counts.ensures.recovery)
    (omega (arith, c.recovery_row-row.ensures, f.recovery, c.requires.index, c.counts.ensures.recovery)))

pub sum_rows-requires-clause-outside : goal.sum_rows-requires-clause-outside
sum_rows-requires-clause-outside g c d first =
    ap (λ i. is_marked c.args.self.now.base.marks.now (slice_index (c.recovery_row-row.result ∷ []) i))
    (let e : d ≡ 0 = omega (arith, first) in e)
    ∙ get_or_past c.args.self.now.base.marks.now c.recovery_row-row.result false (omega (arith, c.if-row-self.false))

pub sum_at-requires : goal.sum_at-requires
sum_at-requires g c =
    let same : length c.sum_rows.new.x ≡ length c.args.x.now = search rules in
    omega (arith, same, c.requires.room)

pub syndrome_at-requires : goal.syndrome_at-requires
syndrome_at-requires g c =
    let s : DecoderState = g.P.Pieces.received c.args.received.now in
    let t : DecoderState = state_of_pieces c.args.start c.args.end s in
    let count = lent-count c.args.self.now.encoder t.configuration c.requires.ready.code in
    omega (arith, count, c.requires.index)

pub returns : goal.returns
returns g c =
    let s : DecoderState = g.P.Pieces.received c.args.received.now in
    let ready = c.requires.ready in
    let base = c.args.self.now.base in
    let shards = coded_shards c.args.self.now.encoder in
    let n : ℕ = c.args.index in
    let frame = frame_same s ready.set_up c.counts.result.framed c.counts.ensures.originals c.counts.ensures.recovery in
    let row : c.recovery_row-row.result
    ≡ recovery_row (frame_at (g.P.Pieces.received c.args.received.now).configuration) c.args.index =
    c.recovery_row-row.ensures ∙ ap (λ (f : Frame). recovery_row f c.args.index) frame in
    let sum : IsSyndromeSum (state_of_pieces c.args.start c.args.end (g.P.Pieces.received c.args.received.now))
    c.args.self.now.base (coded_shards c.args.self.now.encoder)
    (recovery_row (frame_at (g.P.Pieces.received c.args.received.now).configuration) c.args.index)
    (sum_at c.sum_rows.new.x (c.args.end - c.args.start) 0) =
    subst (λ (y : ℕ). IsSyndromeSum
    (state_of_pieces c.args.start c.args.end (g.P.Pieces.received c.args.received.now)) c.args.self.now.base
    (coded_shards c.args.self.now.encoder) y (sum_at c.sum_rows.new.x (c.args.end - c.args.start) 0))
    row (c.sum_rows.ensures 0 (omega arith)) in
    let outside : is_marked c.args.self.now.base.marks.now
    (recovery_row (frame_at (g.P.Pieces.received c.args.received.now).configuration) c.args.index) ≡ false =
    get_or_past c.args.self.now.base.marks.now _ false (omega (arith, row, c.if-row-self.false)) in
    let there : is_some ((state_of_pieces c.args.start c.args.end
    (g.P.Pieces.received c.args.received.now)).recovery c.args.index) ≡ true =
    sym (ap is_some c.piece.ensures) ∙ some-copied c.piece.result ∙ c.is_none.ensures ∙ ap not c.if-is_none.false in
    let equal : IsTrue c.eq.result ↔ (c.sum_at.result.now ≡ c.syndrome_at.result.now) = search rules in (
      λ is shard e not.
          subst (λ (p : Shard). IsSyndromeSum
          (state_of_pieces c.args.start c.args.end (g.P.Pieces.received c.args.received.now)) c.args.self.now.base
          (coded_shards c.args.self.now.encoder)
          (recovery_row (frame_at (g.P.Pieces.received c.args.received.now).configuration) c.args.index) p)
          (sym c.sum_at.ensures ∙ equal.0 is ∙ c.syndrome_at.ensures) sum,
      λ agrees.
          let (piece, found) = some_of ((state_of_pieces c.args.start c.args.end s).recovery n) there in
          equal.1 (c.sum_at.ensures
          ∙ sums-one s ready.set_up c.args.start c.args.end ready.strip base ready.based shards ready.made
          (recovery_row (frame_at s.configuration) n)
          (sum_at c.sum_rows.new.x (c.args.end - c.args.start) 0) (shard_at shards n) sum
          (agrees piece found outside) ∙ sym c.syndrome_at.ensures),
    )
