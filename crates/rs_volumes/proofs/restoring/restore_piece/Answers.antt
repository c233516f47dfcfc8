use Rattle.std.proofs.Common.{◌<◌, ◌++◌, length, inl, inr, ap, ◌∙◌, append_assoc, arith}
use Rattle.std.proofs.lemmas.Grind.{common_steps}
use Rattle.std.proofs.lemmas.Result.{err_from_is_err_and, on_ok_weaker}
use Rattle.rs_field.specs.code.Column.{Shard}
use Rattle.rs_field.specs.code.Given.{Shards}
use Rattle.rs_field.specs.code.OneCall.{Items, shards_in}
use Rattle.rs_volumes.specs.Restoring.{items_of, bytes_of, piece_of}
use Rattle.rs_volumes.proofs.Originals.{piece_of-one, both_pieces}
use Rattle.rs_volumes.proofs.restoring.restore_piece.Goals as goal

pub returns-then-is_empty-clause-back : goal.returns-then-is_empty-clause-back
returns-then-is_empty-clause-back g c held before are =
    let read : Items = items_of c.args.pieces.now.originals.items in
    let put = rw c.as_slice.ensures.value at c.in_ok-put_read.ensures.put in
    let step = put held before are in (
      step.0,
      step.1,
      λ size message all shards coded left got i is covered.
          elim covered [
            | inl own ↦
                step.2 i is
                ∙ ap (λ (p : Shard). held i ++ p) (piece_of-one left i own)
            | inr some ↦ absurd (grind (arith, common_steps))
          ],
    )

pub returns-clause-back : goal.returns-clause-back
returns-clause-back g c =
    let read : Items = items_of c.args.pieces.now.originals.items in
    let received : Items = items_of c.args.pieces.now.recovery.items in
    let some : 0 < length received = grind (arith, common_steps) in
    let answers = rw (c.as_slice-2.ensures.value, c.as_slice-3.ensures.value, c.in_ok-restored.was) at
    c.decode_slice.ensures.answer in
    let put = rw c.as_slice.ensures.value at c.in_ok-put_read.ensures.put in
    let out : Shards = shards_in c.in_ok-restored.restored in
    on_ok_weaker c.put_restored.result (λ restored held before are.
    let first = put held before are in
    let second = restored first.0 before first.1 in (
      second.0,
      second.1,
      λ size message all shards coded left got i is covered.
          second.2 i is ∙ ap (λ (s : Shard). s ++ bytes_of (out i)) (first.2 i is)
          ∙ append_assoc (held i) (piece_of i read) (bytes_of (out i))
          ∙ ap (λ (p : Shard). held i ++ p) (both_pieces shards coded left got some answers i),
    ))
    c.put_restored.ensures.put

pub returns-in_err-restored-clause-fails : goal.returns-in_err-restored-clause-fails
returns-in_err-restored-clause-fails g c =
    let received : Items = items_of c.args.pieces.now.recovery.items in
    let some : 0 < length received = grind (arith, common_steps) in
    let answers = rw (c.as_slice-2.ensures.value, c.as_slice-3.ensures.value, c.in_err-restored.was) at
    c.decode_slice.ensures.answer in
    let p = err_from_is_err_and c.from_residual-in_err-restored.result c.from_residual-in_err-restored.ensures.1 in
    rw (p.1, p.2) (λ held before are. (some, answers))
