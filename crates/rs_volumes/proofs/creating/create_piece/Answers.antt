use Rattle.std.proofs.Common.{ℕ, ◌-◌, List}
use Rattle.std.specs.Prelude.{map}
use Rattle.std.specs.Global.{Vec}
use Rattle.rs_field.specs.code.Column.{Shard}
use Rattle.rs_volumes.proofs.Coded.{coded_sized, puts_from, put_both}
use Rattle.rs_volumes.proofs.Hashes.{emptied-none}
use Rattle.rs_volumes.proofs.creating.create_piece.Goals as goal

pub returns-clause-made : goal.returns-clause-made
returns-clause-made g c =
    let size : ℕ = c.args.end - c.args.start in
    let pieces : List Shard = map (λ (p : Vec ℕ). p.items) c.in_ok-pieces.pieces.items in
    let made : List Shard = map (λ (p : Vec ℕ). p.items) c.in_ok-made.made.items in
    let coded = rw c.as_slice.ensures.value at c.in_ok-made.ensures.coded in
    let both = coded_sized size coded c.in_ok-pieces.ensures.are.sized in
    let first = rw c.as_slice-4.ensures.value at
    (puts_from c.as_slice-4.result.now c.in_ok-put_pieces.ensures.put c.put_pieces.ensures.others) in
    let second = rw c.as_slice-5.ensures.value at
    (puts_from c.as_slice-5.result.now c.in_ok-put_pieces-2.ensures.put c.put_pieces-2.ensures.others) in
    record {
      pieces = pieces;
      made = made;
      shards = both.0;
      coded = both.1;
      read = c.in_ok-pieces.ensures.are.bytes;
      hashed = λ blocks is. rw c.as_slice-2.ensures.value at (c.absorb.ensures.hashed blocks is);
      recovery_hashed = λ blocks is. rw (emptied-none made) at
          (rw c.as_slice-3.ensures.value at (c.absorb-2.ensures.hashed blocks is));
      put = put_both both.0.length_is both.1.shards.length_is first second;
    }
