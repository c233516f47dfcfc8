use Rattle.std.proofs.Common.{inl, inr, refl}
use Rattle.rs_field.specs.words.Search.{first_below}
use Rattle.rs_field.specs.code.Counts.{next_power, exponent_of, supports, is_low}
use Rattle.rs_field.specs.code.Frame.{encoder_rows, frame_of, low_frame, high_frame}
use Rattle.rs_field.specs.code.Given.{with_entry, count_below}
use Rattle.rs_field.specs.worked.Calls.{EncodeOrder, DecodeOrder, NoRecoveryOrder, EncoderRound, DecoderRound}
use Rattle.rs_field.specs.worked.Calls.{LargestIndex, MemoryOrder}
use Rattle.rs_field.proofs.worked.refusals.Goals as goal

encode : EncodeOrder
unfolding supports encoder_rows is_low next_power exponent_of first_below
encode = (refl, refl, refl, refl, refl, refl, refl)

decode : DecodeOrder
unfolding with_entry count_below supports frame_of low_frame high_frame is_low next_power exponent_of first_below
decode = (refl, refl, refl, refl, refl, refl, refl, refl)

no_recovery : NoRecoveryOrder
unfolding supports next_power exponent_of first_below
no_recovery result = (λ h. h, λ h. h, λ h. h, λ h. h)

encoder : EncoderRound
unfolding supports next_power exponent_of first_below
encoder = (refl, refl, refl, refl, refl, refl)

decoder : DecoderRound
unfolding with_entry count_below
decoder = (refl, refl, refl, refl, refl)

index : LargestIndex
index = (refl, refl)

memory : MemoryOrder
unfolding supports next_power exponent_of first_below
memory = (
  λ h. elim h [ inl e ↦ cc | inr later ↦ cc ],
  inr (refl, refl),
  λ h. elim h [ inl e ↦ cc | inr later ↦ cc ],
  λ h. elim h [ inl e ↦ cc | inr later ↦ cc ],
  λ h. elim h [ inl e ↦ cc | inr later ↦ cc ],
  inr (refl, refl),
  λ h. elim h [ inl e ↦ cc | inr later ↦ cc ],
  λ h. elim h [ inl e ↦ cc | inr later ↦ cc ],
  inr (refl, refl),
)

pub returns : goal.returns
returns c = record {
  encode = encode;
  decode = decode;
  no_recovery = no_recovery;
  encoder = encoder;
  decoder =
      decoder;
  index = index;
  memory = memory;
}
