use Rattle.std.proofs.Common.{rules, set}
use Rattle.std.proofs.lemmas.Bool.{cases_eq}
use Rattle.std.proofs.lemmas.List.{get_or-set_same, get_or-set_other}
use Rattle.reed_solomon_simd.proofs.BaseLemmas.{decoder_frame, frame_same, some-pieces}
use Rattle.reed_solomon_simd.proofs.BaseMarks.{some-copied}
use Rattle.reed_solomon_simd.proofs.strip_summer.received_marks.Goals as goal

pub row_count-row_count-requires : goal.row_count-row_count-requires
row_count-row_count-requires g c = search (rules, decoder_frame)

pub loop-row-preserved : goal.loop-row-preserved
loop-row-preserved g c = search (rules, some-pieces, some-copied, cases_eq, set, get_or-set_same, get_or-set_other)

pub returns-clause-marks : goal.returns-clause-marks
returns-clause-marks g c = search (rules, frame_same)
