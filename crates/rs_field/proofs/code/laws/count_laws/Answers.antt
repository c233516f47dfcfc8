use Rattle.rs_field.proofs.code_lemmas.SupportedRanges.{half_supported, few_originals as few_own}
use Rattle.rs_field.proofs.code_lemmas.SupportedRanges.{few_recovery as few_coded}
use Rattle.rs_field.proofs.code_lemmas.SupportedRanges.{no_other_counts}
use Rattle.rs_field.proofs.code.laws.count_laws.Goals as goal

pub returns : goal.returns
returns c = record {
  half = half_supported;
  few_originals = few_own;
  few_recovery = few_coded;
  no_others =
      no_other_counts;
}
