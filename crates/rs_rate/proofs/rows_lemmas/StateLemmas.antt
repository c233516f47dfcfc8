-- Outcomes of setting up an encoder and of the calls on it.
use Rattle.std.proofs.Common.{rules, ◌≡◌, ℕ, ◌<◌, ◌≤◌, ◌*◌, ◌^◌, ◌++◌, ◌∷◌, [], length, refl, sym, ap, ◌∙◌, subst, Bool}
use Rattle.std.proofs.Common.{true, cond}
use Rattle.std.specs.Prelude.{Result, Ok, Err, OnOk, OnErr, List, is_ok, IsOkAnd, MatchResult}
use Rattle.std.proofs.lemmas.Bool.{lt-leb, eq-eqb}
use Rattle.rs_field.specs.declared.code.error.Error.{Error}
use Rattle.rs_field.specs.declared.code.error.Error.TheVariants.{OutOfMemory}
use Rattle.rs_field.specs.code.Column.{Shard}
use Rattle.rs_field.specs.code.Counts.{Rate, supports}
use Rattle.rs_field.specs.code.Outcome.{answer_of, state_after}
use Rattle.rs_field.specs.code.Configuration.{Configuration as AsDefined, validation_outcome, start_outcome}
use Rattle.rs_field.specs.code.Encoder.{EncoderState, fresh_encoder, with_shard, message_of, EncodeAnswers}
use Rattle.rs_field.specs.code.Encoder.{after_encode}
use Rattle.rs_field.specs.code.Code.{AreRecovery}
use Rattle.rs_rate.specs.declared.rows.encoder_work.EncoderRows.{EncoderRows}
use Rattle.rs_rate.specs.declared.values.configuration.Configuration.{Configuration}
use Rattle.rs_rate.specs.values.Configured.{configuration_at}
use Rattle.rs_rate.specs.rows.EncoderView.{encoder_state}
use Rattle.rs_rate.specs.values.ChunkCounts.{memory_outcome, chunk_count}
use Rattle.rs_rate.proofs.values_lemmas.ConfiguredLemmas.{start_outcome-by}

-- If an encoder has room, a shard of the size is added.
pub with_shard-added : (s : EncoderState) (shard : Shard) → length s.given < s.configuration.original_count
    → length shard ≡ s.configuration.shard_bytes
    → state_after s (with_shard s shard) ≡ record s { given = s.given ++ shard ∷ [] }
with_shard-added s shard room same =
    rw (
      lt-leb s.configuration.original_count (length s.given) room,
      eq-eqb
          (length shard) s.configuration.shard_bytes same,
    ) refl

-- If the size of chunks in bytes fits a `usize`, the outcome of allocating them is a success.
pub memory_outcome-fits : (chunks : ℕ) → chunks * 64 < 2 ^ 64 → memory_outcome chunks ≡ Ok tt
memory_outcome-fits chunks fits =
    ap (λ (b : Bool). cond b (Err OutOfMemory) (Ok tt)) (lt-leb (2 ^ 64) (chunks * 64) fits)

pub start_outcome-roomy : (rows : ℕ) (c : AsDefined) → validation_outcome c ≡ Ok tt
    → chunk_count rows c.shard_bytes * 64 < 2 ^ 64 → start_outcome rows c ≡ Ok tt
start_outcome-roomy rows c valid fits = start_outcome-by rows c (chunk_count rows c.shard_bytes) valid refl
    ∙ memory_outcome-fits (chunk_count rows c.shard_bytes) fits

pub memory_outcome-made : (chunks : ℕ) (result : Result (Unit {0}) Error) → chunks * 64 < 2 ^ 64
    → result ≡ memory_outcome chunks → result ≡ Err OutOfMemory → ⊥
memory_outcome-made chunks result fits is short = let no = sym short ∙ is ∙ memory_outcome-fits chunks fits in cc

-- A property that holds for each rate after a success or an error holds for one rate.
pub on_ok-at : {S : Type 0} (rate : Rate) (result : Result S Error) (P : Rate → Type 0)
    → OnOk result ((each : Rate) → P each) → OnOk result (P rate)
on_ok-at rate (Ok x) P h = h rate
on_ok-at rate (Err e) P h = tt

pub on_err-at : {S : Type 0} (rate : Rate) (result : Result S Error) (P : Rate → Type 0)
    → OnErr result ((each : Rate) → P each) → OnErr result (P rate)
on_err-at rate (Ok x) P h = tt
on_err-at rate (Err e) P h = h rate

-- A valid configuration has counts that its rate supports.
pub valid-supported : (c : AsDefined) → validation_outcome c ≡ Ok tt
    → supports c.rate c.original_count c.recovery_count ≡ true
valid-supported c valid = search rules

-- If originals are missing, encoding does not change the state of the encoder.
pub after_encode-refused : (s : EncoderState) (e : Error) → Err e ≡ answer_of (message_of s) → s ≡ after_encode s
after_encode-refused s e refused = search rules

-- The result of `encode` for the message that an encoder holds.
abbrev AnswersOf : EncoderState → Result (List Shard) Error → Result (List Shard) Error → Type 0
AnswersOf s m result =
    MatchResult m (λ message. IsOkAnd result (AreRecovery s.configuration message)) (λ e. result ≡ Err e)

-- If originals are missing, `encode` returns the error of `message_of`.
pub encode_answers-refused : (s : EncoderState) (e : Error) → Err e ≡ answer_of (message_of s) → EncodeAnswers s (Err e)
encode_answers-refused s e refused = search rules

-- An encoder that can encode holds a whole message.
pub message-whole : (s : EncoderState) → Ok tt ≡ answer_of (message_of s)
    → (s.configuration.original_count ≤ length s.given) × (message_of s ≡ Ok s.given)
message-whole s made = search rules

-- After a round, an encoder holds no shards.
pub after_encode-made : (s : EncoderState) → Ok tt ≡ answer_of (message_of s)
    → after_encode s ≡ fresh_encoder s.configuration
after_encode-made s made =
    ap (λ (m : Result (List Shard) Error). cond (is_ok m) (fresh_encoder s.configuration) s) (message-whole s made).1

-- If an encoder holds a whole message, `encode` returns the recovery shards of the message.
pub encode_answers-made : (s : EncoderState) (recovery : List Shard) → Ok tt ≡ answer_of (message_of s)
    → AreRecovery s.configuration s.given recovery → EncodeAnswers s (Ok recovery)
encode_answers-made s recovery made right =
    subst (λ (m : Result (List Shard) Error). AnswersOf s m (Ok recovery))
    (sym (message-whole s made).1) right

-- An encoder to whose rows no original was added is a fresh encoder.
pub encoder_state-fresh : (rate : Rate) (rows : EncoderRows) (c : Configuration) → rows.configuration ≡ c
    → rows.originals_given ≡ 0 → encoder_state rate rows ≡ fresh_encoder (configuration_at rate c)
encoder_state-fresh rate rows c same none = search rules
