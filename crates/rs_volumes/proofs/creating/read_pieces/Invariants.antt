use Rattle.std.proofs.Common.{◌≡◌, ℕ, ◌-◌, ◌<◌, Some, length, get_or}
use Rattle.std.specs.Prelude.{map}
use Rattle.std.specs.List.{between}
use Rattle.std.specs.Global.{Vec}
use Rattle.rs_field.specs.code.Column.{Shard, shard_at}
use Rattle.rs_volumes.proofs.creating.read_pieces.Given as goal

abbrev pub invariant-loop-index : goal.invariant-loop-index
invariant-loop-index g l =
    record {
      number : length l.pieces.items ≡ l.index;
      sized : (k : ℕ) (d : Vec ℕ) → k < l.index → length (get_or l.pieces.items k d).items ≡ l.end - l.start;
      bytes : (i : ℕ) (block : Shard) → i < l.index → g.S.BlockSource.blocks l.fn.source i ≡ Some block
          → shard_at (map (λ piece. piece.items) l.pieces.items) i ≡ between l.start l.end block;
      kept : g.S.BlockSource.blocks l.source ≡ g.S.BlockSource.blocks l.fn.source;
    }
