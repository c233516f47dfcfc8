use Rattle.std.proofs.Common.{rules, ◌≡◌, List, Ok, Err, sym, ◌∙◌, refl}
use Rattle.rs_field.specs.declared.code.error.Error.TheVariants.{OutOfMemory}
use Rattle.rs_field.specs.code.Column.{Shard}
use Rattle.rs_rate.proofs.objects_lemmas.OneCall.{encoding-uncounted, encoding-refused}
use Rattle.reed_solomon_simd.specs.Rooms.{shards_of, bytes_in}
use Rattle.reed_solomon_simd.proofs.Checking.{checked-valid, checked-made, checked-encodes}
use Rattle.reed_solomon_simd.proofs.RoomFits.{fills}
use Rattle.reed_solomon_simd.proofs.into.encode_into.Goals as goal

pub returns-in_err-counts-clause-answer : goal.returns-in_err-counts-clause-answer
returns-in_err-counts-clause-answer g c =
    let k = c.args.original_count in let r = c.args.recovery_count in
    let e = c.in_err-counts.field-0.0 in
    let shards = shards_of c.args.original.now in (
      Err e,
      encoding-refused k r shards e (encoding-uncounted k r shards e c.in_err-counts.ensures),
      (search rules, refl),
    )

pub returns-in_err-shard_bytes-clause-answer : goal.returns-in_err-shard_bytes-clause-answer
returns-in_err-shard_bytes-clause-answer g c =
    let e = c.in_err-shard_bytes.field-0.0 in (
      Err e,
      rw (c.in_ok-counts.ensures.0, c.in_ok-counts.ensures.1) at c.in_err-shard_bytes.ensures,
      (search rules, refl),
    )

pub returns-in_err-check_rooms-clause-answer : goal.returns-in_err-check_rooms-clause-answer
returns-in_err-check_rooms-clause-answer g c =
    let is = rw (c.in_ok-counts.ensures.0, c.in_ok-counts.ensures.1) at c.in_ok-shard_bytes.ensures in
    let made = checked-made c.args.original_count c.args.recovery_count c.in_ok-shard_bytes.shard_bytes
    (shards_of c.args.original.now) is in
    let old = bytes_in c.args.recovery.now in (
      Ok made.0,
      checked-encodes c.args.original_count c.args.recovery_count c.in_ok-shard_bytes.shard_bytes
          (shards_of c.args.original.now) is (Ok made.0) made.1,
      fills made.0 old old _ (Err c.in_err-check_rooms.field-0.0)
          (c.in_err-check_rooms.ensures.answer made.0 made.1.shards.length_is
          (λ i d h. (made.1.shards.each i d h).length_is)) (search rules, refl),
    )

pub encode_lent-requires-clause-originals : goal.encode_lent-requires-clause-originals
encode_lent-requires-clause-originals g c = c.in_ok-shard_bytes.ensures.number

pub encode_lent-requires-clause-number : goal.encode_lent-requires-clause-number
encode_lent-requires-clause-number g c = c.in_ok-check_rooms.ensures.number ∙ sym c.in_ok-counts.ensures.1

pub encode_lent-requires-clause-valid : goal.encode_lent-requires-clause-valid
encode_lent-requires-clause-valid g c = checked-valid _ _ _ _ c.in_ok-shard_bytes.ensures

pub encode_lent-requires-clause-sized : goal.encode_lent-requires-clause-sized
encode_lent-requires-clause-sized g c = λ i d h. (c.in_ok-shard_bytes.ensures.sized i d h).length_is

pub returns-in_err-encode_lent-clause-answer : goal.returns-in_err-encode_lent-clause-answer
returns-in_err-encode_lent-clause-answer g c =
    let is = rw (c.in_ok-counts.ensures.0, c.in_ok-counts.ensures.1) at c.in_ok-shard_bytes.ensures in
    let e = c.in_err-encode_lent.field-0.0 in
    let lacks : c.in_err-encode_lent.field-0.0 ≡ OutOfMemory =
    (let refused = c.in_err-encode_lent.ensures.refused in cc) in
    let same = c.in_err-encode_lent.ensures.untouched in (
      Err e,
      checked-encodes c.args.original_count c.args.recovery_count c.in_ok-shard_bytes.shard_bytes
          (shards_of c.args.original.now) is (Err e) lacks,
      (search rules, search rules),
    )

pub returns-clause-answer : goal.returns-clause-answer
returns-clause-answer g c =
    let is = rw (c.in_ok-counts.ensures.0, c.in_ok-counts.ensures.1) at c.in_ok-shard_bytes.ensures in
    let made : List Shard = bytes_in c.encode_lent.new.recovery in
    let coded = rw (c.in_ok-counts.ensures.0, c.in_ok-counts.ensures.1) at c.in_ok-encode_lent.ensures.coded in
    let old = bytes_in c.args.recovery.now in (
      Ok made,
      checked-encodes c.args.original_count c.args.recovery_count c.in_ok-shard_bytes.shard_bytes
          (shards_of c.args.original.now) is (Ok made) coded,
      fills made old _ _ (Ok tt)
          (c.in_ok-check_rooms.ensures.answer made coded.shards.length_is
          (λ i d h. (coded.shards.each i d h).length_is)) (search rules, search rules),
    )
