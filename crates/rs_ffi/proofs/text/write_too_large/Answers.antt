use Rattle.reed_solomon_simd.specs.declared.shard_index.ShardIndex.{ShardIndex}
use Rattle.rs_ffi.specs.declared.fault.Fault.TheVariants.{WantedIndexTooLarge}
use Rattle.rs_ffi.specs.FaultTexts.{text_of}
use Rattle.rs_ffi.proofs.TextLemmas.{ended-at}
use Rattle.rs_ffi.proofs.text.write_too_large.Goals as goal

pub returns-in-Original : goal.returns-in-Original
returns-in-Original c =
    ended-at (λ (w : ShardIndex). text_of (WantedIndexTooLarge w c.args.count)) c.args.room.now c.in-Original.is
    c.write_two.ensures

pub returns-in-Recovery : goal.returns-in-Recovery
returns-in-Recovery c =
    ended-at (λ (w : ShardIndex). text_of (WantedIndexTooLarge w c.args.count)) c.args.room.now c.in-Recovery.is
    c.write_two-in-Recovery.ensures
