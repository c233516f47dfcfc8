-- The abstract state, the engine and the room of a plain encoder.
use mir.Syntax.{named}
use Rattle.std.specs.Prelude.{◌≡◌, ℕ, []}
use Rattle.std.specs.Borrow.{MutBor, Fml}
use Rattle.std.specs.Vec.{vec_capacity}
use Rattle.rs_field.specs.code.Counts.{default_rate}
use Rattle.rs_field.specs.code.Encoder.{EncoderState, after_encode}
use Rattle.rs_engines.specs.declared.engine_default.DefaultEngine.{DefaultEngine}
use Rattle.rs_rate.specs.rows.EncoderView.{encoder_state}
use Rattle.rs_rate.specs.objects.Loan.{AfterLoan}
use Rattle.reed_solomon_simd.specs.contracts.encoder.ReedSolomonEncoder.{the_row}
use Rattle.reed_solomon_simd.specs.declared.encoder.ReedSolomonEncoder.{ReedSolomonEncoder}

-- the configuration of an encoder, and the originals that were added in the current round
abbrev pub state_of : ReedSolomonEncoder → EncoderState
state_of object = encoder_state default_rate object.encoder.rows

-- the engine of an encoder
abbrev pub engine_of : ReedSolomonEncoder → DefaultEngine
engine_of object = object.encoder.engine

-- the number of chunks for which an encoder has room
abbrev pub room_of : ReedSolomonEncoder → ℕ
room_of object = vec_capacity object.encoder.rows.chunks

-- when the loan of the recovery shards ends, the encoder has the state after an encode, and its engine and its room are
-- unchanged
abbrev pub EndsEncode : MutBor ReedSolomonEncoder → ReedSolomonEncoder → Fml
EndsEncode object old =
    AfterLoan (the_row (record { mir = named 1; lft = [] })) object
    (λ now. (state_of now ≡ after_encode (state_of old)) × (engine_of now ≡ engine_of old)
    × (room_of now ≡ room_of old))
