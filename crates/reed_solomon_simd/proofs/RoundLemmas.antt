-- Rounds over strips: encoders and decoders that are ready for a strip, and the result of a strip.
use Rattle.std.proofs.Common.{◌≡◌, ℕ, ◌≤◌, List, Result, Ok, Err, true, arith}
use Rattle.std.specs.Prelude.{Option, Some, None, OnOk, IfErr, IfSome, MatchResult, is_some}
use Rattle.rs_field.specs.declared.code.error.Error.{Error}
use Rattle.rs_field.specs.code.Column.{Shard}
use Rattle.rs_field.specs.code.Decoder.{DecoderState}
use Rattle.rs_rate.specs.declared.objects.strip_encoder.StripEncoder.{StripEncoder}
use Rattle.rs_rate.specs.objects.StripView.{coded_shards}
use Rattle.reed_solomon_simd.specs.declared.strip_rounds.Rounds.{Rounds}
use Rattle.reed_solomon_simd.specs.Rounds.{IsReadyToDecode, IsReadyToEncode, lent_by}

-- What is ready for strips of n bytes is ready for shorter strips.
pub decode-shorter : {rounds : Rounds} {s : DecoderState} {m n : ℕ} → m ≤ n → IsReadyToDecode rounds s n
    → IsReadyToDecode rounds s m
decode-shorter most ready = record {
  size = ready.size;
  room = let room = ready.room in omega (arith, room, most);
  fresh = ready.fresh;
  located = ready.located;
}

pub encode-shorter : {encoder : StripEncoder} {s : DecoderState} {m n : ℕ} → m ≤ n → IsReadyToEncode encoder s n
    → IsReadyToEncode encoder s m
encode-shorter most ready = record {
  size = ready.size;
  room = let room = ready.room in omega (arith, room, most);
  code = ready.code;
  whole = ready.whole;
}

-- A weaker fact about a value that may be there.
pub some-weaker : {A : Type 0} {P Q : A → Type 0} (o : Option A) → ((x : A) → P x → Q x) → IfSome o P → IfSome o Q
some-weaker (Some x) weaker h = weaker x h
some-weaker None weaker h = h

-- If there is an encoder, the recovery shards in it are lent.
pub lent-some : (P : List Shard → Type 0) (o : Option StripEncoder) → is_some o ≡ true
    → IfSome o (λ e. P (coded_shards e)) → P (lent_by o)
lent-some P (Some e) is h = h
lent-some P None is h = absurd (let no : ⊥ = cc in no)

-- The two cases of a result.
pub matched : (P : Type 0) (Q R : Error → Type 0) (result : Result (Unit {0}) Error) → OnOk result P
    → IfErr result Q → ((e : Error) → Q e → R e) → MatchResult result (λ _. P) R
matched P Q R (Ok u) ok err weaker = ok
matched P Q R (Err e) ok err weaker = weaker e err

pub ok-anyway : (P : Type 0) (result : Result (Unit {0}) Error) → P → OnOk result P
ok-anyway P (Ok u) fact = fact
ok-anyway P (Err e) fact = tt
