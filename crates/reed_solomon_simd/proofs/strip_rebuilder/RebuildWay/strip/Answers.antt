use Rattle.std.proofs.Common.{◌≡◌, List, map, Some, sym, ap, ◌∙◌, inr}
use Rattle.std.proofs.lemmas.Result.{on_ok_weaker}
use Rattle.rs_field.specs.code.Code.{AreRecovery}
use Rattle.rs_field.specs.code.Column.{Shard}
use Rattle.rs_field.specs.code.Decoder.{DecoderState, IsAgreeing}
use Rattle.rs_field.specs.code.Given.{Shards}
use Rattle.rs_field.specs.code.PieceStates.{state_of_pieces}
use Rattle.rs_field.proofs.code_lemmas.Unique.{recovery_unique}
use Rattle.rs_rate.specs.rows.DecoderView.{restored_by_rows}
use Rattle.rs_rate.specs.objects.ResultView.{restored_originals}
use Rattle.reed_solomon_simd.specs.Reconstructed.{lent_at}
use Rattle.reed_solomon_simd.specs.Rounds.{lent_by}
use Rattle.reed_solomon_simd.proofs.ConsistentStrips.{even-strip, few-originals}
use Rattle.reed_solomon_simd.proofs.RebuiltStrips.{named_shards, named-sized, can-pieces, lent-named, some-same}
use Rattle.reed_solomon_simd.proofs.RoundLemmas.{decode-shorter, encode-shorter, some-weaker, lent-some}
use Rattle.reed_solomon_simd.proofs.RoundLemmas.{matched, ok-anyway}
use Rattle.reed_solomon_simd.proofs.strip_rebuilder.RebuildWay.strip.Given.{Over}
use Rattle.reed_solomon_simd.proofs.strip_rebuilder.RebuildWay.strip.Goals.{After-encode_if_made}
use Rattle.reed_solomon_simd.proofs.strip_rebuilder.RebuildWay.strip.Goals as goal

pub decode-requires-clause-ready : goal.decode-requires-clause-ready
decode-requires-clause-ready g c =
    let (n, most, (rounds, wants, encoder)) = c.requires.ready in decode-shorter most rounds

pub encode_if_made-requires-clause-ready : goal.encode_if_made-requires-clause-ready
encode_if_made-requires-clause-ready g c =
    let (n, most, (rounds, wants, encoder)) = c.requires.ready in
    some-weaker c.args.self.now.encoder (λ e. encode-shorter most) encoder

-- The lent pieces are the wanted pieces of the message.
named : (g : Over) (c : After-encode_if_made g) → let restored = c.in_ok-restored_count.ensures.restored in
    map (lent_at (restored_originals c.restored-restored.result)
    (lent_by c.encode_if_made.new.encoder)) c.args.self.now.wanted.now
    ≡ map (λ x. Some x) (named_shards restored.message restored.agrees.coded.0 c.args.self.now.wanted.now)
named g c =
    let x : DecoderState = g.S.Pieces.received c.args.store.now in
    let t : DecoderState = state_of_pieces c.args.start c.args.end x in
    let restored = c.in_ok-restored_count.ensures.restored in
    let can = c.requires.can in
    let (n, most, (rounds, wants, encoder)) = c.requires.ready in
    let coded = c.encode_if_made.ensures in
    ap (λ (o : Shards). map (lent_at o (lent_by c.encode_if_made.new.encoder))
    c.args.self.now.wanted.now) c.restored-restored.ensures
    ∙ lent-named t (restored_by_rows c.decode.new.self.decoder.rows)
    (lent_by c.encode_if_made.new.encoder) restored.message restored.agrees restored
    c.args.self.now.wanted.now (can-pieces x c.args.start c.args.end c.args.self.now.wanted.now can.can)
    (λ wanted. recovery_unique (few-originals x can.set_up)
    (even-strip x can.set_up c.args.start c.args.end c.requires.strip)
    (lent-some (λ (l : List Shard). (message : List Shard)
    → IsAgreeing (state_of_pieces c.args.start c.args.end (g.S.Pieces.received c.args.store.now)) message
    → AreRecovery (state_of_pieces c.args.start c.args.end (g.S.Pieces.received c.args.store.now)).configuration message
    l) c.encode_if_made.new.encoder (coded.same ∙ sym wants ∙ wanted) coded.coded restored.message restored.agrees)
    restored.agrees.coded.1)

pub put_wanted-requires-clause-pieces : goal.put_wanted-requires-clause-pieces
put_wanted-requires-clause-pieces g c =
    let x : DecoderState = g.S.Pieces.received c.args.store.now in
    let restored = c.in_ok-restored_count.ensures.restored in (
      named_shards restored.message restored.agrees.coded.0 c.args.self.now.wanted.now,
      named g (goal.at.put_wanted-requires-clause-pieces g c).After-encode_if_made,
      named-sized (state_of_pieces c.args.start c.args.end x) restored.message restored.agrees
          c.args.self.now.wanted.now
          (can-pieces x c.args.start c.args.end c.args.self.now.wanted.now c.requires.can.can),
    )

pub returns-clause-made : goal.returns-clause-made
returns-clause-made g c =
    let restored = c.in_ok-restored_count.ensures.restored in
    matched _ _ _ c.put_wanted.result (on_ok_weaker c.put_wanted.result (λ all. (
      all.0,
      record {
        message = restored.message;
        agrees = restored.agrees;
        only = restored.only;
        named = some-same all.0 _ (sym all.1 ∙ named g (goal.at.returns-clause-made g c).After-encode_if_made);
      },
      all.2,
    )) c.put_wanted.ensures.put) c.put_wanted.ensures.refused
    (λ e short. inr short)

pub returns-clause-ready : goal.returns-clause-ready
returns-clause-ready g c =
    let (n, most, (rounds, wants, encoder)) = c.requires.ready in
    let coded = c.encode_if_made.ensures in
    ok-anyway _ c.put_wanted.result
    (c.in_ok-restored_count.ensures.ready, wants ∙ sym coded.same, coded.ready)
