use Rattle.std.proofs.Common.{◌≡◌, ◌<◌, ◌+◌, ◌++◌, refl, List, length, ap, ◌∙◌, arith, take, get_or, sym, subst}
use Rattle.std.proofs.lemmas.List.{length-set, take_all}
use Rattle.reed_solomon_simd.specs.Given.{Shards}
use Rattle.reed_solomon_simd.specs.Column.{Shard, shard_at}
use Rattle.rs_volumes.specs.declared.placement.Place.{Place}
use Rattle.rs_volumes.specs.Laid.{bytes_in}
use Rattle.rs_examples.specs.Blocks.{contents}
use Rattle.rs_examples.specs.Files.{bytes_of, AreCut}
use Rattle.rs_examples.proofs.FilesBack.{cut-none, cut-more, block-known, length-bytes}
use Rattle.rs_examples.proofs.file_round_trip.cut_files.Goals as goal

pub loop-place-init : goal.loop-place-init
loop-place-init c =
    let none = cut-none c.args.count (contents c.args.blocks.now) (bytes_of c.in_ok-files.field-0.blocks.items)
    c.in_ok-files.ensures in
    record {
      number = sym (length-bytes c.in_ok-files.field-0.blocks.items) ∙ none.number;
      kept = refl;
      are = λ within. none;
    }

pub append_piece-requires : goal.append_piece-requires
append_piece-requires c =
    let d : Place = record { block = 0; at = 0; file = 0; offset = 0; bytes = 0 } in
    let inside = c.requires.inside c.loop-place.place-index d c.loop-place-test.true in
    let number = c.loop-place.invariant.number in
    omega (arith, inside, number)

pub returns-in-Err-clause-memory : goal.returns-in-Err-clause-memory
returns-in-Err-clause-memory c within =
    let d : Place = record { block = 0; at = 0; file = 0; offset = 0; bytes = 0 } in
    let place : Place = get_or c.args.places.now c.loop-place.place-index d in
    let known = block-known (contents c.args.blocks.now) c.args.places.now c.loop-place.place-index d within
    c.loop-place-test.true in
    c.in-Err.ensures.fails (shard_at (contents c.args.blocks.now) place.block)
    (ap (λ (f : Shards). f place.block) c.loop-place.invariant.kept ∙ known.0) known.1

pub loop-place-preserved : goal.loop-place-preserved
loop-place-preserved c =
    let d : Place = record { block = 0; at = 0; file = 0; offset = 0; bytes = 0 } in
    let place : Place = get_or c.args.places.now c.loop-place.place-index d in
    let named : place.file < c.args.count = c.requires.inside c.loop-place.place-index d c.loop-place-test.true in
    let files : List Shard = bytes_of c.loop-place.files.items in
    let blocks : List Shard = contents c.args.blocks.now in
    let more = rw c.as_slice.ensures.value at c.in_ok-append_piece-in-Ok.ensures in
    record {
      number = sym (length-bytes c.append_piece.new.files.items) ∙ ap (λ (fs : List Shard). length fs) more
          ∙ length-set files place.file (shard_at files place.file ++ c.in-Ok.piece.items)
          ∙ length-bytes c.loop-place.files.items ∙ c.loop-place.invariant.number;
      kept = c.in-Ok.ensures.kept ∙ c.loop-place.invariant.kept;
      are = λ within.
          let known = block-known blocks c.args.places.now c.loop-place.place-index d within c.loop-place-test.true in
          let bytes : c.in-Ok.piece.items ≡ bytes_in blocks place =
          c.in-Ok.ensures.bytes (shard_at blocks place.block)
          (ap (λ (f : Shards). f place.block) c.loop-place.invariant.kept ∙ known.0) in
          subst (AreCut c.args.count (take (c.loop-place.place-index + 1) c.args.places.now) blocks) (sym more)
          (cut-more c.args.count c.args.places.now blocks files c.loop-place.place-index d c.in-Ok.piece.items
          (c.loop-place.invariant.are within) c.loop-place-test.true named bytes);
    }

pub returns-clause-are : goal.returns-clause-are
returns-clause-are c within =
    subst (λ (ps : List Place). AreCut c.args.count ps (contents c.args.blocks.now) (bytes_of c.loop-place.files.items))
    (take_all c.loop-place.place-index c.args.places.now c.loop-place-test.false) (c.loop-place.invariant.are within)
