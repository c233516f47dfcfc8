use Rattle.std.proofs.Common.{rules}
use Rattle.rs_field.specs.code.DirectLaws.{entry_in, given_at}
use Rattle.reed_solomon_simd.proofs.BaseLemmas.{decoder_frame, frame_same}
use Rattle.reed_solomon_simd.proofs.strip_summer.piece_in_row.Goals as goal

pub returns-in-Some : goal.returns-in-Some
unfolding given_at entry_in
returns-in-Some g c = search (rules, frame_same)

pub returns-in-Some-index_of : goal.returns-in-Some-index_of
unfolding given_at entry_in
returns-in-Some-index_of g c = search (rules, decoder_frame, frame_same)

pub returns : goal.returns
unfolding given_at entry_in
returns g c = search (rules, frame_same)
