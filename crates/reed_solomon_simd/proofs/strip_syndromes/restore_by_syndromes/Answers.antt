use Rattle.std.proofs.Common.{rules, ◌≡◌, ◌<◌, ◌≤◌, List, ℕ, Bool, length, take, sym, ap, ◌∙◌, subst, arith, pow_mono}
use Rattle.std.proofs.Common.{All}
use Rattle.std.specs.Prelude.{is_some, max, min}
use Rattle.std.proofs.Math.Nat.{mul-le-mul}
use Rattle.rs_field.specs.rows.Layout.{row_len}
use Rattle.reed_solomon_simd.specs.StripSums.{sum_stride, chunks_of_sums}
use Rattle.rs_field.specs.declared.code.frame.Frame.{Frame}
use Rattle.rs_field.specs.code.Decoder.{DecoderState}
use Rattle.rs_field.specs.code.Frame.{frame_at, recovery_row}
use Rattle.rs_field.specs.rows.MarkedRows.{is_marked}
use Rattle.rs_rate.specs.passes.Decoding.{IsLocatorOf}
use Rattle.rs_rate.specs.passes.Sums.{ListsMarked}
use Rattle.rs_rate.specs.rows.Marks.{how_many}
use Rattle.rs_rate.proofs.passes_lemmas.ChangeLemmas.{distinct_rows_of}
use Rattle.reed_solomon_simd.specs.declared.shard_index.ShardIndex.{ShardIndex}
use Rattle.reed_solomon_simd.specs.Reconstructed.{CanBeRebuilt}
use Rattle.reed_solomon_simd.specs.Syndromes.{AddsOriginals}
use Rattle.reed_solomon_simd.proofs.BaseLemmas.{decoder_frame, frame_same}
use Rattle.reed_solomon_simd.proofs.MissingLemmas.{names-all, missing-rebuilt, makes-missing}
use Rattle.reed_solomon_simd.proofs.SyndromeBases.{OnlyCoded, first-same, enough-coded, marks-only, all-base}
use Rattle.reed_solomon_simd.proofs.strip_syndromes.restore_by_syndromes.Goals as goal

pub list_base-end-requires-clause-few : goal.list_base-end-requires-clause-few
list_base-end-requires-clause-few g c = search (rules, decoder_frame, pow_mono)

pub list_base-end-requires-clause-enough : goal.list_base-end-requires-clause-enough
list_base-end-requires-clause-enough g c =
    let s : DecoderState = g.S.Pieces.received c.args.store.now in
    let marks : List Bool = c.in_ok-recovery.recovery.items in
    let rows : length c.deref_mut.result.now ≡ length c.in_ok-wanted.wanted.items = search rules in
    let given : c.deref.result.now ≡ c.in_ok-recovery.recovery.items = search rules in
    let enough = enough-coded s c.requires.set_up marks (length c.in_ok-wanted.wanted.items)
    c.surplus_count-surplus.result c.in_ok-recovery.ensures.marks c.in_ok-wanted.ensures.made.number
    c.surplus_count-surplus.ensures in
    subst (λ (m : List Bool). length c.deref_mut.result.now ≤ how_many (length m) (is_marked m)) (sym given)
    (omega (arith, rows, enough))

pub locate_base-requires : goal.locate_base-requires
locate_base-requires g c =
    (distinct_rows_of c.counts-counts.result.framed c.counts-counts.result.supported).few

pub make_strips-requires-clause-can : goal.make_strips-requires-clause-can
make_strips-requires-clause-can g c =
    let s : DecoderState = g.S.Pieces.received c.args.store.now in
    let lent : c.as_slice-wanted.result.now ≡ c.in_ok-wanted.wanted.items = search rules in
    record {
      set_up = c.requires.set_up;
      enough = c.requires.enough;
      can = subst (λ (l : List ShardIndex). All (CanBeRebuilt (g.S.Pieces.received c.args.store.now)) l) (sym lent)
          (missing-rebuilt s c.in_ok-wanted.wanted.items c.in_ok-wanted.ensures.made.each);
    }

-- Four sums over a whole strip fit into the array.
all-fit : (n size : ℕ) → chunks_of_sums n (min 2048 size) ≤ 144
all-fit n size =
    let count : max 1 (min 4 n) ≤ 4 = search rules in
    let strip : min 2048 size ≤ 2048 = search rules in
    let width : row_len (min 2048 size) ≤ 32 = omega (arith, strip) in
    let stride : sum_stride (min 2048 size) ≤ 36 = omega (arith, width) in
    mul-le-mul count stride

pub make_strips-requires-clause-ready : goal.make_strips-requires-clause-ready
make_strips-requires-clause-ready g c =
    let s : DecoderState = g.S.Pieces.received c.args.store.now in
    let is = c.requires.set_up in
    let marks : List Bool = c.in_ok-recovery.recovery.items in
    let all : List Bool = c.in_ok-all.all.items in
    let end = c.list_base-end.result in
    let exact = c.in_ok-recovery.ensures.marks in
    let given : c.deref.result.now ≡ c.in_ok-recovery.recovery.items = search rules in
    let lent : c.deref-2.result.now ≡ c.in_ok-recovery.recovery.items = search rules in
    let kept : c.deref-3.result.now ≡ c.in_ok-all.all.items = search rules in
    let rows : length c.list_base-end.new.rows ≡ length c.in_ok-wanted.wanted.items = search rules in
    let locator : c.deref-5.result.now ≡ c.in_ok-factors.factors.locator.items = search rules in
    let frame = frame_same s is c.counts-counts.result.framed c.counts-counts.ensures.originals
    c.counts-counts.ensures.recovery in
    let adds : AddsOriginals (g.S.Pieces.received c.args.store.now)
    (take c.list_base-end.result c.in_ok-recovery.recovery.items) c.in_ok-all.all.items =
    subst (λ (m : List Bool). AddsOriginals (g.S.Pieces.received c.args.store.now) (take end m) c.in_ok-all.all.items)
    lent c.in_ok-all.ensures.marks in
    let listed = subst (λ (m : List Bool). ListsMarked (take end m) (length m) c.list_base-end.new.rows) given
    c.list_base-end.ensures.listed in
    let count = ap (λ n. how_many n (is_marked (take c.list_base-end.result c.in_ok-recovery.recovery.items)))
    (sym exact.count) ∙ sym listed.count ∙ rows in
    record {
      ready = search rules;
      based = record {
        all = all;
        marked = all-base s is marks all end exact adds (length c.in_ok-wanted.wanted.items)
            c.in_ok-wanted.ensures.made.number count;
        located = subst (λ (l : List ℕ). IsLocatorOf (frame_at (g.S.Pieces.received c.args.store.now).configuration)
            c.in_ok-all.all.items l) (sym locator)
            (subst (λ (f : Frame). IsLocatorOf f c.in_ok-all.all.items c.in_ok-factors.factors.locator.items) frame
            (subst (λ (m : List Bool). IsLocatorOf c.counts-counts.result.frame m
            c.in_ok-factors.factors.locator.items) kept
            c.in_ok-factors.ensures.located));
        adds = c.in_ok-all.ensures.marks;
        only = subst (λ (m : List Bool). OnlyCoded (frame_at (g.S.Pieces.received c.args.store.now).configuration)
            (g.S.Pieces.received c.args.store.now).configuration.recovery_count (take end m)) (sym lent)
            (marks-only s is marks all end exact adds);
        first = subst (λ (m : List Bool). (i : ℕ)
            → i < (g.S.Pieces.received c.args.store.now).configuration.recovery_count
            → recovery_row (frame_at (g.S.Pieces.received c.args.store.now).configuration) i < length (take end m)
            → is_marked (take end m) (recovery_row (frame_at (g.S.Pieces.received c.args.store.now).configuration) i)
            ≡ is_some ((g.S.Pieces.received c.args.store.now).recovery i)) (sym lent)
            (λ i hi early. first-same marks end (recovery_row (frame_at s.configuration) i) early ∙ exact.coded i hi);
      };
      names = search rules;
      surplus_is = c.surplus_count-surplus.ensures;
      few = omega arith;
      enough = all-fit (length c.as_slice-wanted.result.now) s.configuration.shard_bytes;
    }

pub make_strips-requires-clause-rooms : goal.make_strips-requires-clause-rooms
make_strips-requires-clause-rooms g c =
    let names = (names-all (g.S.Pieces.received c.args.store.now)).number in
    let lent : c.as_slice-wanted.result.now ≡ c.in_ok-wanted.wanted.items = search rules in
    let long = ap length lent in
    record {
      number = omega (arith, names, long, c.in_ok-wanted.ensures.made.number, c.requires.rooms.number);
      fit = c.requires.rooms.fit;
    }

pub returns-clause-made : goal.returns-clause-made
returns-clause-made g c = search (rules, makes-missing)
