use Rattle.rs_field.proofs.code_lemmas.RoundTrip.{restores_lost, restores_encoded}
use Rattle.rs_field.proofs.code_lemmas.OneRoundTrip.{restores_left, codes_in_one_call, encodes_in_one_call}
use Rattle.rs_field.proofs.code_lemmas.OneRoundTrip.{restores_in_one_call}
use Rattle.rs_field.proofs.code_lemmas.OnlyMessage.{restores_only}
use Rattle.rs_field.proofs.code.laws.round_trip_laws.Goals as goal

pub returns : goal.returns
returns c = record {
  lost = restores_lost;
  encoded = restores_encoded;
  left = restores_left;
  one_encode =
      codes_in_one_call;
  one_encode_whole = encodes_in_one_call;
  one_call = restores_in_one_call;
  only = restores_only;
}
