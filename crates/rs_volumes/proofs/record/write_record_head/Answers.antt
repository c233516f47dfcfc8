use Rattle.std.proofs.Common.{refl}
use Rattle.rs_volumes.proofs.record.write_record_head.Goals as goal

pub returns : goal.returns
returns c =
    rw (
      c.in_ok-extend_from_slice.ensures.items,
      c.check_of-check.ensures,
      c.as_slice.ensures.value,
      c.in_ok-put_front.ensures,
      c.new-out.ensures.items,
    ) refl
