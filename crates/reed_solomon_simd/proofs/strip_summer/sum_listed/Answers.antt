use Rattle.std.proofs.Common.{rules, ◌≡◌, ◌<◌, List, ℕ, Bool, length, take, sym, ap, subst, arith, pow_mono}
use Rattle.std.specs.Prelude.{is_some}
use Rattle.rs_field.specs.declared.code.frame.Frame.{Frame}
use Rattle.rs_field.specs.code.Decoder.{DecoderState}
use Rattle.rs_field.specs.code.DirectLaws.{shard_in_row}
use Rattle.rs_field.specs.code.Frame.{frame_at}
use Rattle.rs_field.specs.rows.MarkedRows.{is_marked}
use Rattle.rs_rate.specs.passes.Decoding.{IsLocatorOf}
use Rattle.rs_rate.specs.passes.Sums.{ListsMarked}
use Rattle.rs_rate.proofs.passes_lemmas.ChangeLemmas.{distinct_rows_of}
use Rattle.reed_solomon_simd.specs.Base.{MarkBase}
use Rattle.reed_solomon_simd.proofs.BaseLemmas.{decoder_frame, frame_same}
use Rattle.reed_solomon_simd.proofs.BaseMarks.{enough-marked, first-marks, first-exact}
use Rattle.reed_solomon_simd.proofs.strip_summer.sum_listed.Goals as goal

pub list_base-end-requires-clause-few : goal.list_base-end-requires-clause-few
list_base-end-requires-clause-few g c = search (rules, decoder_frame, pow_mono)

pub list_base-end-requires-clause-enough : goal.list_base-end-requires-clause-enough
list_base-end-requires-clause-enough g c = search (rules, enough-marked)

pub locate_base-requires : goal.locate_base-requires
locate_base-requires g c = (distinct_rows_of c.counts-counts.result.framed c.counts-counts.result.supported).few

pub sum_strips-requires-clause-based : goal.sum_strips-requires-clause-based
sum_strips-requires-clause-based g c =
    let s : DecoderState = g.S.Pieces.received c.args.store.now in
    let can = c.requires.can in
    let marks : List Bool = c.in_ok-received.received.items in
    let end = c.list_base-end.result in
    let lent : c.deref-2.result.now ≡ c.in_ok-received.received.items = search rules in
    let given : c.deref.result.now ≡ c.in_ok-received.received.items = search rules in
    let rows : length c.list_base-end.new.rows ≡ (g.S.Pieces.received c.args.store.now).configuration.original_count =
    search rules in
    let locator : c.deref-4.result.now ≡ c.in_ok-factors.factors.locator.items = search rules in
    let frame = frame_same s can.set_up c.counts-counts.result.framed c.counts-counts.ensures.originals
    c.counts-counts.ensures.recovery in
    record {
      marked = subst (λ (m : List Bool). MarkBase (g.S.Pieces.received c.args.store.now) (take end m)) (sym lent)
          (first-marks s can.set_up marks end c.list_base-end.new.rows c.in_ok-received.ensures.marks
          (omega (arith, c.list_base-end.ensures.end, ap length given))
          (subst (λ (m : List Bool). ListsMarked (take end m) (length m) c.list_base-end.new.rows) given
          c.list_base-end.ensures.listed) rows);
      exact = subst (λ (m : List Bool). (x : ℕ) → x < length (take end m)
          → is_marked (take end m) x ≡ is_some (shard_in_row (g.S.Pieces.received c.args.store.now) x)) (sym lent)
          (first-exact s can.set_up marks end c.in_ok-received.ensures.marks
          (omega (arith, c.list_base-end.ensures.end, ap length given)));
      located = subst (λ (l : List ℕ). IsLocatorOf (frame_at (g.S.Pieces.received c.args.store.now).configuration)
          (take end c.deref-2.result.now) l) (sym locator)
          (subst (λ (f : Frame). IsLocatorOf f (take end c.deref-2.result.now)
          c.in_ok-factors.factors.locator.items) frame
          c.in_ok-factors.ensures.located);
    }
