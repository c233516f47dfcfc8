use Rattle.std.proofs.Common.{rules, ◌<◌, append_assoc, arith}
use Rattle.rs_volumes.specs.Data.{blocks_of}
use Rattle.std.proofs.lemmas.List.{append-nil}
use Rattle.rs_volumes.proofs.PlaceLemmas.{block_has_bytes, run_none, run_further, less_blocks}
use Rattle.rs_volumes.proofs.placement.push_places.Goals as goal

pub loop-block-init : goal.loop-block-init
loop-block-init c = search (rules, run_none, append-nil)

pub place_in-requires-clause-fits : goal.place_in-requires-clause-fits
place_in-requires-clause-fits c =
    let inside : c.loop-block.block < blocks_of c.args.block_bytes c.args.extent.now.end = search rules in
    let h = block_has_bytes c.args.block_bytes c.args.extent.now.start c.args.extent.now.end c.loop-block.block
    c.requires.block c.requires.some c.loop-block.invariant.order inside in
    let begins = h.begins in
    omega (arith, begins, c.requires.block_fits, c.requires.end_fits)

pub place_in-requires-clause-begins : goal.place_in-requires-clause-begins
place_in-requires-clause-begins c =
    let inside : c.loop-block.block < blocks_of c.args.block_bytes c.args.extent.now.end = search rules in
    let h = block_has_bytes c.args.block_bytes c.args.extent.now.start c.args.extent.now.end c.loop-block.block
    c.requires.block c.requires.some c.loop-block.invariant.order inside in
    h.ends

pub place_in-requires-clause-ends : goal.place_in-requires-clause-ends
place_in-requires-clause-ends c =
    let inside : c.loop-block.block < blocks_of c.args.block_bytes c.args.extent.now.end = search rules in
    let h = block_has_bytes c.args.block_bytes c.args.extent.now.start c.args.extent.now.end c.loop-block.block
    c.requires.block c.requires.some c.loop-block.invariant.order inside in
    h.begins

pub loop-block-preserved : goal.loop-block-preserved
loop-block-preserved c = search (rules, run_further, append_assoc)

pub returns : goal.returns
returns c = search (rules, less_blocks)
