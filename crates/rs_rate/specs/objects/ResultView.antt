-- The shards that a result lends.
use Rattle.std.specs.Prelude.{List, Result}
use Rattle.std.specs.Result.{result_map_both}
use Rattle.rs_field.specs.code.Column.{Shard}
use Rattle.rs_field.specs.code.Given.{Shards}
use Rattle.rs_field.specs.declared.code.error.Error.{Error}
use Rattle.rs_rate.specs.declared.objects.encoder_result.EncoderResult.{EncoderResult}
use Rattle.rs_rate.specs.declared.objects.decoder_result.DecoderResult.{DecoderResult}
use Rattle.rs_rate.specs.rows.EncoderView.{lent_shards}
use Rattle.rs_rate.specs.rows.DecoderView.{restored_by_rows}

-- the recovery shards of a result, in order of index
abbrev pub recovery_shards : EncoderResult → List Shard
recovery_shards result = lent_shards result.rows.now

-- the recovery shards of a result, or the error
abbrev pub answered_shards : Result EncoderResult Error → Result (List Shard) Error
answered_shards result = result_map_both recovery_shards (λ e. e) result

-- the restored originals of a result, by their index
abbrev pub restored_originals : DecoderResult → Shards
restored_originals result = restored_by_rows result.rows.now

-- the restored originals of a result, or the error
abbrev pub answered_originals : Result DecoderResult Error → Result Shards Error
answered_originals result = result_map_both restored_originals (λ e. e) result
