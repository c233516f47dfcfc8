use Rattle.std.proofs.Common.{sym, ◌∙◌}
use Rattle.std.proofs.lemmas.Simd.{put_chunk_whole}
use Rattle.rs_field.proofs.rows.layout.store_32.Goals as goal

pub returns : goal.returns
returns c = put_chunk_whole c.args.places.now c.args.v (c.requires ∙ sym c.fits-v.0)
