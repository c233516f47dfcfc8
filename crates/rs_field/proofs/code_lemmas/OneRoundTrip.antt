-- The shards that one-call `encode` coded, and what one-call `decode` restores from them.
use Rattle.std.proofs.Common.{rules, ◌≡◌, ℕ, ◌+◌, ◌<◌, ◌≤◌, ◌++◌, ◌∷◌, ◌^◌, [], Bool, true, false, cond, not, ◌&&◌}
use Rattle.std.proofs.Common.{List, length, refl, sym, ap, subst, ◌∙◌, inl, inr, arith, append_assoc, append-nil}
use Rattle.std.proofs.Common.{length-append, All, nat_eq, add-zero, zero-add}
use Rattle.std.specs.Prelude.{Result, Ok, Err, Some, None, IfOk, IfErr, IsOkAnd, MatchResult, nat_le, nat_lt}
use Rattle.std.specs.List.{AllByRecursion, IsDistinct, list_any}
use Rattle.std.proofs.lemmas.Bool.{lt-leb, eqb-false, eq-eqb, ne_eqb, ltb-true, or_from}
use Rattle.std.proofs.lemmas.List.Elements.{All-nil, All-cons, recursion_from_All}
use Rattle.std.proofs.lemmas.Map.Keys.{IsDistinct-head, IsDistinct-tail}
use Rattle.std.proofs.lemmas.Grind.{common_steps}
use Rattle.rs_field.specs.declared.code.error.Error.{Error}
use Rattle.rs_field.specs.declared.code.error.Error.TheVariants.{UnsupportedShardCount, TooFewOriginalShards}
use Rattle.rs_field.specs.declared.code.error.Error.TheVariants.{OutOfMemory}
use Rattle.rs_field.specs.code.Column.{Shard, IsShard, AreShards, shard_at}
use Rattle.rs_field.specs.code.Counts.{Rate, default_rate, supports}
use Rattle.rs_field.specs.code.Frame.{encoder_rows, decoder_rows}
use Rattle.rs_field.specs.code.Outcome.{result_and_then}
use Rattle.rs_field.specs.code.Configuration.{Configuration, validation_outcome, bytes_of_rows, start_outcome}
use Rattle.rs_field.specs.code.Code.{AreRecovery}
use Rattle.rs_field.specs.code.Given.{Shards, nothing, with_entry, count_below}
use Rattle.rs_field.specs.code.Encoder.{EncoderState, IsEncoder, fresh_encoder, with_shard, EncodeAnswers}
use Rattle.rs_field.specs.code.Decoder.{DecoderState, fresh_decoder, with_original, with_recovery, missing_of}
use Rattle.rs_field.specs.code.Decoder.{DecodeAnswers}
use Rattle.rs_field.specs.code.OneCall.{Items, default_of, counts_outcome, one_by_one, with_shards, with_originals}
use Rattle.rs_field.specs.code.OneCall.{with_recoveries, with_both, encoding_outcome, note_outcome, originals_alone}
use Rattle.rs_field.specs.code.OneCall.{OneEncodeAnswers, OneDecodes, OneDecodeAnswers}
use Rattle.rs_field.specs.code.RoundTrip.{AreCoded, AreLeft, enough_left, lost_of, GivesBack, OneBringsBack}
use Rattle.rs_field.proofs.code_lemmas.Given.{nothing_among}
use Rattle.rs_field.proofs.code_lemmas.Entries.{entered_all, count-nothing, AreFree, indexes, free-next}
use Rattle.rs_field.proofs.code_lemmas.Entries.{count-entered_all}
use Rattle.rs_field.proofs.code_lemmas.Entries.{among-entered_all, some-entered_all, all_some}
use Rattle.rs_field.proofs.code_lemmas.RoundTrip.{answered, restores_lost}
use Rattle.rs_field.proofs.code_lemmas.SupportedCounts.{default_fits}

-- If the second of two calls succeeds, the first call succeeded with some value.
pub then_ok : {S T : Type 0} (f : S → Result T Error) (o : Result S Error) (t : T) → result_and_then f o ≡ Ok t →
    (s : S) × (o ≡ Ok s) × (f s ≡ Ok t)
then_ok {S} {T} f o t h1 = search rules

-- ---- what was coded

-- If an encoder takes a shard, the shard has its size and there was room for the shard.
one_taken : (s : EncoderState) (x : Shard) (t : EncoderState) → with_shard s x ≡ Ok t
    → (t ≡ record s { given = s.given ++ x ∷ [] }) × (length x ≡ s.configuration.shard_bytes)
    × (length s.given < s.configuration.original_count)
one_taken s x t is = grind (arith, common_steps)

-- The state of an encoder after it took some shards, and facts about the shards.
record AreTaken (s : EncoderState) (shards : List Shard) (t : EncoderState) : Type 0 where
  pub of : t.configuration ≡ s.configuration
  pub given : t.given ≡ s.given ++ shards
  pub sized : All (λ x. length x ≡ s.configuration.shard_bytes) shards
  pub few : length s.given ≤ s.configuration.original_count → length t.given ≤ s.configuration.original_count

taken : (shards : List Shard) (s t : EncoderState) → with_shards s shards ≡ Ok t → AreTaken s shards t
taken [] s t is = search (rules, append-nil, All-nil)
taken (x ∷ xs) s t is =
    let first = then_ok (λ next. one_by_one with_shard next xs) (with_shard s x) t is in
    let one = one_taken s x first.0 first.1 in
    let more = taken xs first.0 t first.2 in
    let same : first.0.configuration ≡ s.configuration = ap (λ (u : EncoderState). u.configuration) one.0 in
    let now : first.0.given ≡ s.given ++ x ∷ [] = ap (λ (u : EncoderState). u.given) one.0 in
    let count : first.0.configuration.original_count ≡ s.configuration.original_count =
    ap (λ (c : Configuration). c.original_count) same in
    record {
      of = more.of ∙ same;
      given = more.given ∙ ap (λ ys. ys ++ xs) now ∙ append_assoc s.given (x ∷ []) xs;
      sized = All-cons (λ y. length y ≡ s.configuration.shard_bytes) x xs one.1
          (subst (λ (c : Configuration). All (λ y. length y ≡ c.shard_bytes) xs) same more.sized);
      few = λ h.
          let long : length first.0.given ≡ length s.given + 1 = ap length now ∙ length-append s.given (x ∷ []) in
          omega arith;
    }

pub codes_in_one_call : (k r : ℕ) (originals recovery : List Shard) → All (All (λ b. b < 256)) originals
    → OneEncodeAnswers k r originals (Ok recovery) → AreCoded k r originals recovery
codes_in_one_call k r originals recovery bytes (inr lacks) = absurd (let e = lacks.1 in let no : ⊥ = cc in no)
codes_in_one_call k r originals recovery bytes (inl answers) =
    by_outcome originals bytes (encoding_outcome k r originals) refl answers
  where
    by_shards : (shards : List Shard) → All (All (λ b. b < 256)) shards → (s : EncoderState)
        → encoding_outcome k r shards ≡ Ok s → EncodeAnswers s (Ok recovery) → AreCoded k r shards recovery
    by_shards [] small s same h =
        let e = (then_ok (λ _. Err (TooFewOriginalShards k 0)) (counts_outcome k r) s same).2 in
        absurd (let no : ⊥ = cc in no)
    by_shards (x ∷ xs) small s same h =
        let c = default_of k r (length x) in
        let begun = then_ok (λ _. with_shards (fresh_encoder c) (x ∷ xs))
        (start_outcome (encoder_rows default_rate k r) c) s same in
        let valid = then_ok _ (validation_outcome c) begun.0 begun.1 in
        let all = taken (x ∷ xs) (fresh_encoder c) s begun.2 in
        let out = answered s recovery h in
        let least : k ≤ length s.given =
        subst (λ (d : Configuration). d.original_count ≤ length s.given) all.of out.0 in
        let long : length s.given ≡ length (x ∷ xs) = ap length all.given in
        record {
          size = length x;
          valid = valid.1;
          shards = record {
            length_is = omega arith;
            each = λ i d inside.
                record { length_is = all.sized i d inside; bytes = small i d inside };
          };
          coded = subst (λ (d : Configuration). AreRecovery d (x ∷ xs) recovery) all.of
              (subst (λ (m : List Shard). AreRecovery s.configuration m recovery) all.given out.1);
        }

    by_outcome : (shards : List Shard) → All (All (λ b. b < 256)) shards → (o : Result EncoderState Error)
        → encoding_outcome k r shards ≡ o
        → MatchResult o (λ s. EncodeAnswers s (Ok recovery)) (λ e. Ok recovery ≡ Err e) → AreCoded k r shards recovery
    by_outcome shards small (Err e) same h = absurd (let no : ⊥ = cc in no)
    by_outcome shards small (Ok s) same h = by_shards shards small s same h

-- A success without a value.
abbrev made : Result (Unit {0}) Error
made = Ok tt

-- The counts of a valid configuration are supported.
supported_valid : (k r size : ℕ) → validation_outcome (default_of k r size) ≡ Ok tt → supports default_rate k r ≡ true
supported_valid k r size valid = grind (arith, common_steps)

counted_valid : (k r size : ℕ) → validation_outcome (default_of k r size) ≡ Ok tt → counts_outcome k r ≡ Ok tt
counted_valid k r size valid =
    ap (λ (b : Bool). cond b made (Err (UnsupportedShardCount k r))) (supported_valid k r size valid)

-- An encoder takes shards of its size, as long as it has room for them.
all_given : (shards : List Shard) (s : EncoderState) → length s.given + length shards ≤ s.configuration.original_count
    → AllByRecursion (λ x. length x ≡ s.configuration.shard_bytes) shards
    → with_shards s shards ≡ Ok (record s { given = s.given ++ shards })
all_given [] s room sized = ap (λ given. Ok (record s { given = given })) (sym (append-nil s.given))
all_given (x ∷ xs) s room sized =
    let first : with_shard s x ≡ Ok (record s { given = s.given ++ x ∷ [] }) =
    rw (
      lt-leb s.configuration.original_count (length s.given) (omega arith),
      eq-eqb
          (length x) s.configuration.shard_bytes sized.0,
    ) refl in
    let long : length (s.given ++ x ∷ []) ≡ length s.given + 1 = length-append s.given (x ∷ []) in
    ap (result_and_then (λ next. with_shards next xs)) first
    ∙ all_given xs (record s { given = s.given ++ x ∷ [] }) (omega arith) sized.1
    ∙ ap (λ given. Ok (record s { given = given })) (append_assoc s.given (x ∷ []) xs)

module _ (k r size : ℕ) (shards : List Shard) (result : Result (List Shard) Error)
    (valid : validation_outcome (default_of k r size) ≡ Ok tt) (count : length shards ≡ k)
    (sized : All (λ shard. length shard ≡ size) shards) where
  -- The property of a result, for each outcome of setting up an encoder.
  abbrev Set : Result (Unit {0}) Error → Type 0
  Set set = MatchResult (result_and_then (λ _. with_shards (fresh_encoder (default_of k r size)) shards) set)
      (λ s. EncodeAnswers s result) (λ e. result ≡ Err e)

  whole_by_start : Set (start_outcome (encoder_rows default_rate k r) (default_of k r size))
      → IfErr result (λ e. e ≡ OutOfMemory)
  whole_by_start answers = search (rules, all_given, recursion_from_All)

pub encodes_in_one_call : (k r size : ℕ) (originals : List Shard) (result : Result (List Shard) Error)
    → validation_outcome (default_of k r size) ≡ Ok tt
    → length originals ≡ k → All (λ shard. length shard ≡ size) originals → OneEncodeAnswers k r originals result
    → IfErr result (λ e. e ≡ OutOfMemory)
encodes_in_one_call k r size originals result valid count sized (inr lacks) =
    subst (λ (o : Result (List Shard) Error). IfErr o (λ e. e ≡ OutOfMemory)) (sym lacks.1) refl
encodes_in_one_call k r size [] result valid count sized (inl answers) =
    absurd (let no : ⊥ = omega (arith, (default_fits k r (supported_valid k r size valid)).0) in no)
encodes_in_one_call k r size (x ∷ xs) result valid count sized (inl answers) =
    whole_by_start k r size (x ∷ xs) result valid count sized
    (subst (λ (n : ℕ). MatchResult
    (result_and_then (λ _. with_shards (fresh_encoder (default_of k r n)) (x ∷ xs))
    (start_outcome (encoder_rows default_rate k r) (default_of k r n)))
    (λ s. EncodeAnswers s result) (λ e. result ≡ Err e)) (sized 0 x (omega arith)) answers)

-- Shards that an encoder took one after another are a message, and the result of encoding is its recovery shards.
pub encoded_all : (rate : Rate) (c : Configuration) (shards recovery : List Shard) (s : EncoderState) → IsEncoder rate s
    → with_shards (fresh_encoder c) shards ≡ Ok s
    → EncodeAnswers s (Ok recovery) → AreShards c.original_count c.shard_bytes shards × AreRecovery c shards recovery
encoded_all rate c shards recovery s is made h =
    let all = taken shards (fresh_encoder c) s made in
    let out = answered s recovery h in
    let given : s.given ≡ shards = all.given in
    let least : c.original_count ≤ length s.given =
    subst (λ (d : Configuration). d.original_count ≤ length s.given) all.of out.0 in
    let long : length s.given ≡ length shards = ap length given in (
      record {
        length_is = omega arith;
        each = subst (λ (m : List Shard). All (IsShard c.shard_bytes) m) given
            (subst (λ (d : Configuration). All (IsShard d.shard_bytes) s.given) all.of is.sized);
      },
      subst (λ (d : Configuration). AreRecovery d shards recovery) all.of
          (subst (λ (m : List Shard). AreRecovery s.configuration m recovery) given out.1),
    )

-- If an encoder of the default rate codes shards, one call codes them, with the size of the first shard.
pub coded_by : (k r : ℕ) (x : Shard) (xs recovery : List Shard) (s : EncoderState) → IsEncoder default_rate s
    → with_shards (fresh_encoder (default_of k r (length x))) (x ∷ xs) ≡ Ok s
    → EncodeAnswers s (Ok recovery) → AreCoded k r (x ∷ xs) recovery
coded_by k r x xs recovery s is made h =
    let all = encoded_all default_rate (default_of k r (length x)) (x ∷ xs) recovery s is made h in
    record {
      size = length x;
      valid = subst (λ (d : Configuration). validation_outcome d ≡ Ok tt)
          (taken (x ∷ xs) (fresh_encoder (default_of k r (length x))) s made).of is.valid;
      shards = all.0;
      coded = all.1;
    }

-- ---- what a decoder takes

-- Items that a decoder takes: their indexes are below its count, and the shards have its size.
abbrev AreFitting : ℕ → ℕ → Items → Type 0
AreFitting count size items = AllByRecursion (λ item. (item.0 < count) × (length item.1 ≡ size)) items

original_taken : (s : DecoderState) (i : ℕ) (x : Shard) → i < s.configuration.original_count
    → length x ≡ s.configuration.shard_bytes → s.originals i ≡ None
    → with_original s i x ≡ Ok (record s { originals = with_entry s.originals i x })
original_taken s i x inside same free = search (rules, lt-leb, eq-eqb)

recovery_taken : (s : DecoderState) (i : ℕ) (x : Shard) → i < s.configuration.recovery_count
    → length x ≡ s.configuration.shard_bytes → s.recovery i ≡ None
    → with_recovery s i x ≡ Ok (record s { recovery = with_entry s.recovery i x })
recovery_taken s i x inside same free = search (rules, lt-leb, eq-eqb)

originals_taken : (items : Items) (s : DecoderState)
    → AreFitting s.configuration.original_count s.configuration.shard_bytes items → AreFree s.originals items
    → IsDistinct nat_eq (indexes items)
    → with_originals s items ≡ Ok (record s { originals = entered_all s.originals items })
originals_taken [] s fit free once = refl
originals_taken (item ∷ items) s fit free once =
    ap (result_and_then (λ next. with_originals next items)) (original_taken s item.0 item.1 fit.0.0 fit.0.1 free.0)
    ∙ originals_taken items (record s { originals = with_entry s.originals item.0 item.1 }) fit.1
    (free-next s.originals item items once free) (IsDistinct-tail nat_eq item.0 (indexes items) once)

recoveries_taken : (items : Items) (s : DecoderState)
    → AreFitting s.configuration.recovery_count s.configuration.shard_bytes items → AreFree s.recovery items
    → IsDistinct nat_eq (indexes items)
    → with_recoveries s items ≡ Ok (record s { recovery = entered_all s.recovery items })
recoveries_taken [] s fit free once = refl
recoveries_taken (item ∷ items) s fit free once =
    ap (result_and_then (λ next. with_recoveries next items)) (recovery_taken s item.0 item.1 fit.0.0 fit.0.1 free.0)
    ∙ recoveries_taken items (record s { recovery = with_entry s.recovery item.0 item.1 }) fit.1
    (free-next s.recovery item items once free) (IsDistinct-tail nat_eq item.0 (indexes items) once)

all_free : (items : Items) → AreFree nothing items
all_free [] = tt
all_free (item ∷ items) = (refl, all_free items)

left_count : (count : ℕ) (shards : List Shard) (items : Items) → length shards ≡ count → AreLeft shards items
    → count_below count (entered_all nothing items) ≡ length items
left_count count shards items long left =
    search (rules, count-entered_all, recursion_from_All, all_free, count-nothing, zero-add)

-- ---- what a decoder restores

-- An index that was noted is not the index of any later item.
absent_next : (k : ℕ) (given : List ℕ) (items : Items) → AllByRecursion (λ i. nat_eq k i ≡ false) (indexes items)
    → AllByRecursion (λ item. list_any (nat_eq item.0) given ≡ false) items
    → AllByRecursion (λ item. list_any (nat_eq item.0) (k ∷ given) ≡ false) items
absent_next k given [] apart absent = tt
absent_next k given (item ∷ items) apart absent =
    search (rules, or_from, ne_eqb, eqb-false, absent_next k given items apart.1 absent.1)

-- Distinct indexes below k are all noted.
all_noted : (k : ℕ) (items : Items) (given : List ℕ) → AllByRecursion (λ item. item.0 < k) items
    → AllByRecursion (λ item. list_any (nat_eq item.0) given ≡ false) items
    → IsDistinct nat_eq (indexes items) → (all : List ℕ)
    × (one_by_one (λ so_far item. note_outcome k so_far item.0) given items ≡ Ok all)
    × (length all ≡ length given + length items)
all_noted k [] given below absent once = (given, refl, sym (add-zero (length given)))
all_noted k (item ∷ items) given below absent once =
    let rest = all_noted k items (item.0 ∷ given) below.1
    (absent_next item.0 given items (IsDistinct-head nat_eq item.0 (indexes items) once) absent.1)
    (IsDistinct-tail nat_eq item.0 (indexes items) once) in
    let first : note_outcome k given item.0 ≡ Ok (item.0 ∷ given) = rw (lt-leb k item.0 below.0, absent.0) refl in (
      rest.0,
      ap (result_and_then (λ next. one_by_one (λ so_far one. note_outcome k so_far one.0) next items)) first
          ∙ rest.1,
      omega (arith, rest.2),
    )

none_noted : (items : Items) → AllByRecursion (λ item. list_any (nat_eq item.0) [] ≡ false) items
none_noted [] = tt
none_noted (item ∷ items) = (refl, none_noted items)

-- If there are no recovery shards, the check of the originals alone is the check that k originals are left.
given_left : (k : ℕ) (items : Items) → AllByRecursion (λ item. item.0 < k) items → IsDistinct nat_eq (indexes items)
    → originals_alone k items ≡ enough_left k items []
given_left k items below once =
    let all = all_noted k items [] below (none_noted items) once in
    cc (add-zero (length items), zero-add (length items))

-- If all originals are left, none is lost.
none_lost : (originals : List Shard) (kept : Items) → AreLeft originals kept → length originals ≤ length kept → (i : ℕ)
    → lost_of originals kept i ≡ None
unfolding lost_of
none_lost originals kept left many i = by_test (nat_lt i (length originals)) refl
  where
    by_test : (inside : Bool) → nat_lt i (length originals) ≡ inside
        → cond (inside && not (list_any (λ item. nat_eq i item.0) kept)) (Some (shard_at originals i)) None ≡ None
    by_test false e = refl
    by_test true e =
        let count = left_count (length originals) originals kept refl left in
        let there = all_some (length originals) (entered_all nothing kept) (omega arith) i
        (ltb-true i (length originals) e) in
        ap (λ b. cond (not b) (Some (shard_at originals i)) None) (sym (some-entered_all kept nothing i) ∙ there)

-- The state of a decoder that has exactly the shards that are left.
abbrev pub left_with : Configuration → Items → Items → DecoderState
left_with c kept received =
    record { configuration = c; originals = entered_all nothing kept; recovery = entered_all nothing received }

if_ok-refused : (result : Result Shards Error) (e : Error) (P : Shards → Type 0) → result ≡ Err e → IfOk result P
if_ok-refused result e P is = subst (λ (r : Result Shards Error). IfOk r P) (sym is) tt

module _ (c : Configuration) (message recovery : List Shard) (kept received : Items)
    (are : AreShards c.original_count c.shard_bytes message) (coded : AreRecovery c message recovery)
    (left : AreLeft message kept) (got : AreLeft recovery received) where
  -- A decoder takes all shards that are left.
  pub all_taken : with_both (fresh_decoder c) kept received ≡ Ok (left_with c kept received)
  all_taken = search (rules, originals_taken, recursion_from_All, all_free, recoveries_taken)

  -- A decoder with all shards that are left restores the lost originals.
  pub gives_back : (result : Result Shards Error) → DecodeAnswers (left_with c kept received) result
      → GivesBack message kept received result
  unfolding missing_of lost_of
  gives_back result answers =
      search (rules, restores_lost, among-entered_all, recursion_from_All, nothing_among, left_count, some-entered_all)

  pub restores_left : IsOkAnd (with_both (fresh_decoder c) kept received)
      (λ s. (result : Result Shards Error) → DecodeAnswers s result → GivesBack message kept received result)
  restores_left = search (rules, all_taken, gives_back)

-- A decoder that took all shards that are left restores the lost originals.
pub taken_gives_back : (c : Configuration) (message recovery : List Shard) (kept received : Items) (s : DecoderState)
    (result : Result Shards Error)
    → AreShards c.original_count c.shard_bytes message → AreRecovery c message recovery → AreLeft message kept
    → AreLeft recovery received
    → with_both (fresh_decoder c) kept received ≡ Ok s → DecodeAnswers s result → GivesBack message kept received result
taken_gives_back c message recovery kept received s result are coded left got is answers =
    subst (λ (o : Result DecoderState Error).
    IsOkAnd o (λ s. (result : Result Shards Error) → DecodeAnswers s result
    → GivesBack message kept received result)) is
    (restores_left c message recovery kept received are coded left got) result answers

module _ {k r : ℕ} {originals recovery : List Shard} {kept : Items} (was : AreCoded k r originals recovery)
    (left : AreLeft originals kept) where
  -- The property of a result, for each outcome of setting up a decoder.
  abbrev Begun : Items → Result Shards Error → Result (Unit {0}) Error → Type 0
  Begun received result begun =
      MatchResult (result_and_then (λ _. with_both (fresh_decoder (default_of k r was.size)) kept received) begun)
      (λ s. DecodeAnswers s result) (λ e. result ≡ Err e)

  -- If the decoder can be set up, one call restores the lost originals.
  by_start : (received : Items) (result : Result Shards Error) → AreLeft recovery received
      → Begun received result (start_outcome (decoder_rows default_rate k r) (default_of k r was.size))
      → OneBringsBack originals kept received result
  by_start received result got answers =
      by_bytes (nat_le (2 ^ 64) (bytes_of_rows (decoder_rows default_rate k r) was.size))
      (subst (Begun received result)
      (ap (result_and_then
      (λ _. cond (nat_le (2 ^ 64) (bytes_of_rows (decoder_rows default_rate k r) was.size)) (Err OutOfMemory)
      (Ok tt))) was.valid) answers)
    where
      by_bytes : (full : Bool) → Begun received result (cond full (Err OutOfMemory) (Ok tt))
          → OneBringsBack originals kept received result
      by_bytes true h = record { answer = inr h; restored = if_ok-refused result OutOfMemory _ h }
      by_bytes false h =
          let c = default_of k r was.size in
          let all = all_taken c originals recovery kept received was.shards was.coded left got in
          let back = gives_back c originals recovery kept received was.shards was.coded left got result
          (subst (λ (o : Result DecoderState Error). MatchResult o (λ s. DecodeAnswers s result) (λ e. result ≡ Err e))
          all h) in
          record { answer = inl back.answer; restored = back.restored }

  -- If no recovery shard is left, one call restores the lost originals, of which there are none.
  by_indexes : (result : Result Shards Error) → OneDecodes k r kept [] result → OneBringsBack originals kept [] result
  by_indexes result answers = search (rules, counted_valid, given_left, recursion_from_All, none_lost, if_ok-refused)

  by_answer : (received : Items) (result : Result Shards Error) → AreLeft recovery received
      → OneDecodeAnswers k r kept received result → OneBringsBack originals kept received result
  by_answer received result got (inr lacks) =
      record { answer = inr lacks.1; restored = if_ok-refused result OutOfMemory _ lacks.1 }
  by_answer [] result got (inl answers) = by_indexes result answers
  by_answer (first ∷ rest) result got (inl answers) =
      let own = got.own 0 first (omega arith) in
      let size : length first.1 ≡ was.size =
      sym (ap length own.1) ∙ (was.coded.shards.each first.0 [] own.0).length_is in
      by_start (first ∷ rest) result got
      (subst (λ (n : ℕ). MatchResult
      (result_and_then (λ _. with_both (fresh_decoder (default_of k r n)) kept (first ∷ rest))
      (start_outcome (decoder_rows default_rate k r) (default_of k r n)))
      (λ s. DecodeAnswers s result) (λ e. result ≡ Err e)) size answers)

pub restores_in_one_call : (k r : ℕ) (originals recovery : List Shard) (kept received : Items)
    (result : Result Shards Error)
    → AreCoded k r originals recovery → AreLeft originals kept → AreLeft recovery received
    → OneDecodeAnswers k r kept received result → OneBringsBack originals kept received result
restores_in_one_call k r originals recovery kept received result was left got answers =
    by_answer was left received result got answers
