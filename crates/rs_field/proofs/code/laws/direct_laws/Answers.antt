use Rattle.rs_field.proofs.code_lemmas.AnyShards.{one_codeword}
use Rattle.rs_field.proofs.code_lemmas.BaseShards.{summed_directly, consistent_by_base}
use Rattle.rs_field.proofs.code.laws.direct_laws.Goals as goal

pub returns : goal.returns
returns c = record { message = one_codeword; sums = summed_directly; base = consistent_by_base }
