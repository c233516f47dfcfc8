use Rattle.std.proofs.Common.{get_or, sym, ap, ◌∙◌}
use Rattle.std.proofs.lemmas.Simd.{put_chunk_whole}
use Rattle.rs_field.proofs.words.walsh_lanes.put_lanes.Goals as goal

pub returns : goal.returns
returns c i h = ap (λ l. get_or l i 0) (put_chunk_whole c.args.entries.now c.args.v (c.requires ∙ sym c.fits-v.0))
