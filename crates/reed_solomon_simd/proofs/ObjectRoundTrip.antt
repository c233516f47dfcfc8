-- The round trip with an encoder and a decoder: shards are added one after another, some are lost, and exactly the lost
-- originals are restored.
use Rattle.std.proofs.Common.{rules, ◌≡◌, ℕ, ◌+◌, ◌≤◌, ◌&&◌, ◌++◌, ◌∷◌, [], Bool, cond, List, All, length, refl, sym}
use Rattle.std.proofs.Common.{ap, subst, ◌∙◌, nat_lt, Some, None, Result, Ok, Err, IfOk, arith, append_assoc}
use Rattle.std.proofs.Common.{append-nil, length-append}
use Rattle.std.specs.List.{AllByRecursion}
use Rattle.std.proofs.lemmas.Bool.{lt-leb, eq-eqb}
use Rattle.std.proofs.lemmas.List.Elements.{recursion_from_All}
use Rattle.std.proofs.Math.Path.{fun_ext}
use Rattle.rs_field.specs.declared.code.error.Error.{Error}
use Rattle.rs_field.specs.code.Code.{AreRecovery}
use Rattle.rs_field.specs.code.Column.{Shard, AreShards, shard_at}
use Rattle.rs_field.specs.code.Counts.{Rate}
use Rattle.rs_field.specs.code.Configuration.{Configuration, start_outcome}
use Rattle.rs_field.specs.code.Decoder.{DecoderState, fresh_decoder, DecodeAnswers}
use Rattle.rs_field.specs.code.Encoder.{EncoderState, IsEncoder, fresh_encoder, with_shard, EncodeAnswers}
use Rattle.rs_field.specs.code.Given.{Shards, Lists}
use Rattle.rs_field.specs.code.OneCall.{Items, with_shards, with_originals, with_recoveries}
use Rattle.rs_field.specs.code.Outcome.{result_and_then}
use Rattle.rs_field.specs.code.RoundTrip.{GivesBack}
use Rattle.rs_rate.specs.objects.Giving.{Reaches}
use Rattle.rs_rate.proofs.objects_lemmas.Giving.{reached-err}
use Rattle.rs_field.proofs.code_lemmas.Left.{kept_of, kept-left, just-lost}
use Rattle.rs_field.proofs.code_lemmas.OneRoundTrip.{encoded_all, all_taken, taken_gives_back}

-- If a fresh encoder took all shards and encoded them, the shards are a message and the result is its recovery shards.
pub codes-given : (rate : Rate) (c : Configuration) (shards recovery : List Shard) (new_encoder encoder : EncoderState)
    → new_encoder ≡ fresh_encoder c → with_shards new_encoder shards ≡ Ok encoder
    → IsEncoder rate encoder → EncodeAnswers encoder (Ok recovery) → AreShards c.original_count c.shard_bytes shards
    × AreRecovery c shards recovery
codes-given rate c shards recovery new_encoder encoder fresh given is encoded =
    encoded_all rate c shards recovery encoder is (ap (λ s. with_shards s shards) (sym fresh) ∙ given) encoded

-- If a fresh decoder took all shards that are not lost, its result satisfies `GivesBack`.
pub gives-back : (c : Configuration) (shards recovery : List Shard) (lost recovery_lost : ℕ → Bool)
    (new_decoder half decoder : DecoderState) (result : Result Shards Error)
    → AreShards c.original_count c.shard_bytes shards × AreRecovery c shards recovery → new_decoder ≡ fresh_decoder c
    → with_originals new_decoder (kept_of shards lost) ≡ Ok half
    → with_recoveries half (kept_of recovery recovery_lost) ≡ Ok decoder → DecodeAnswers decoder result
    → GivesBack shards (kept_of shards lost) (kept_of recovery recovery_lost) result
gives-back c shards recovery lost recovery_lost new_decoder half decoder result all start_outcome own coded answers =
    taken_gives_back c shards recovery (kept_of shards lost) (kept_of recovery recovery_lost) decoder result all.0 all.1
    (kept-left shards lost) (kept-left recovery recovery_lost)
    (
    ap (λ s. result_and_then (λ now. with_recoveries now (kept_of recovery recovery_lost))
    (with_originals s (kept_of shards lost))) (sym start_outcome)
    ∙ ap (result_and_then (λ now. with_recoveries now (kept_of recovery recovery_lost))) own
    ∙ coded
    )
    answers

-- Copies of the restored originals are copies of the lost originals.
pub copies-lost : {V : Type 0} (shards : List Shard) (lost : ℕ → Bool) (received : Items) (out : Shards)
    (result : Result V Error) (items : V → List (ℕ × Shard))
    → GivesBack shards (kept_of shards lost) received (Ok out) → IfOk result (λ v. Lists out (items v))
    → IfOk result (λ v. Lists (λ i. cond (nat_lt i (length shards) && lost i) (Some (shard_at shards i)) None)
    (items v))
copies-lost shards lost received out result items back copies =
    subst (λ (given : Shards). IfOk result (λ v. Lists given (items v)))
    (fun_ext (just-lost shards lost (Ok out) back.restored)) copies

-- ---- calls that do not fail

-- An encoder takes shards of its size, as long as it has room for them.
pub takes-all : (shards : List Shard) (s : EncoderState)
    → length s.given + length shards ≤ s.configuration.original_count
    → AllByRecursion (λ x. length x ≡ s.configuration.shard_bytes) shards
    → with_shards s shards ≡ Ok (record s { given = s.given ++ shards })
takes-all [] s room sized = ap (λ given. Ok (record s { given = given })) (sym (append-nil s.given))
takes-all (x ∷ xs) s room sized =
    let first : with_shard s x ≡ Ok (record s { given = s.given ++ x ∷ [] }) =
    rw (
      lt-leb s.configuration.original_count (length s.given) (omega arith),
      eq-eqb
          (length x) s.configuration.shard_bytes sized.0,
    ) refl in
    let long : length (s.given ++ x ∷ []) ≡ length s.given + 1 = length-append s.given (x ∷ []) in
    ap (result_and_then (λ next. with_shards next xs)) first
    ∙ takes-all xs (record s { given = s.given ++ x ∷ [] }) (omega (arith, long)) sized.1
    ∙ ap (λ given. Ok (record s { given = given })) (append_assoc s.given (x ∷ []) xs)

module _ (c : Configuration) (shards : List Shard) (new_encoder : EncoderState) (fresh : new_encoder ≡ fresh_encoder c)
    (count : length shards ≡ c.original_count)
    (sized : All (λ shard. length shard ≡ c.shard_bytes) shards) where
  -- A fresh encoder takes a whole message.
  pub takes-message : with_shards new_encoder shards ≡ Ok (record { configuration = c; given = shards })
  takes-message = search (rules, takes-all, recursion_from_All)

  -- Adding a message to a fresh encoder does not fail.
  pub gives-all : (P : EncoderState → Type 0) (e : Error) → Reaches (with_shards new_encoder shards) (Err e) P → ⊥
  gives-all P e reached = let taken = takes-message in let refused =
      reached-err (with_shards new_encoder shards) P e reached in cc

  -- Encoding a whole message does not fail.
  pub encodes : (encoder : EncoderState) (e : Error) → with_shards new_encoder shards ≡ Ok encoder
      → EncodeAnswers encoder (Err e) → ⊥
  encodes encoder e given answers = search (rules, takes-message)

module _ (c : Configuration) (shards recovery : List Shard) (lost recovery_lost : ℕ → Bool) (new_decoder : DecoderState)
    (fresh : new_decoder ≡ fresh_decoder c)
    (all : AreShards c.original_count c.shard_bytes shards × AreRecovery c shards recovery) where
  -- Adding the originals that are not lost to a fresh decoder does not fail.
  pub gives-kept : (P : DecoderState → Type 0) (e : Error)
      → Reaches (with_originals new_decoder (kept_of shards lost)) (Err e) P → ⊥
  gives-kept P e reached =
      let refused = reached-err (with_originals new_decoder (kept_of shards lost)) P e reached in
      let both = ap (λ s. with_originals s (kept_of shards lost)) (sym fresh) ∙ refused in
      let taken = sym (ap (result_and_then (λ now. with_recoveries now (kept_of recovery recovery_lost))) both)
      ∙ all_taken c shards recovery (kept_of shards lost) (kept_of recovery recovery_lost) all.0 all.1
      (kept-left shards lost) (kept-left recovery recovery_lost) in
      cc

  -- Adding the recovery shards that are not lost to the decoder does not fail.
  pub gives-received : (half : DecoderState) (P : DecoderState → Type 0) (e : Error)
      → with_originals new_decoder (kept_of shards lost) ≡ Ok half
      → Reaches (with_recoveries half (kept_of recovery recovery_lost)) (Err e) P → ⊥
  gives-received half P e given reached =
      let refused = reached-err (with_recoveries half (kept_of recovery recovery_lost)) P e reached in
      let both = ap (λ s. with_originals s (kept_of shards lost)) (sym fresh) ∙ given in
      let taken = sym (ap (result_and_then (λ now. with_recoveries now (kept_of recovery recovery_lost))) both
      ∙ refused)
      ∙ all_taken c shards recovery (kept_of shards lost) (kept_of recovery recovery_lost) all.0 all.1
      (kept-left shards lost) (kept-left recovery recovery_lost) in
      cc
