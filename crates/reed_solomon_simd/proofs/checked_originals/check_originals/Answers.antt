use Rattle.std.proofs.Common.{rules, ◌≡◌, ℕ, ◌<◌, ◌≤◌, List, [], length, take, get_or, All, Bor, Err, refl, sym, ap}
use Rattle.std.proofs.Common.{subst, arith}
use Rattle.std.proofs.lemmas.List.{get_or-map, get_or_default, length-map, length-take-le}
use Rattle.rs_field.specs.declared.code.error.Error.TheVariants.{TooFewOriginalShards}
use Rattle.rs_field.specs.code.Column.{Shard, IsShard}
use Rattle.rs_field.specs.code.Encoder.{with_shard}
use Rattle.rs_field.specs.code.OneCall.{default_of, OneEncodeAnswers}
use Rattle.rs_field.specs.code.Outcome.{answer_of}
use Rattle.reed_solomon_simd.specs.Rooms.{shards_of}
use Rattle.reed_solomon_simd.proofs.Checking.{checked-refused, checked-few, are-checked}
use Rattle.reed_solomon_simd.proofs.checked_originals.check_originals.Goals as goal

-- The bytes of the original with index i are element i of `shards_of`.
at : (xs : List (Bor (List ℕ))) (i : ℕ) (d : Bor (List ℕ)) → i < length xs
    → get_or (shards_of xs) i [] ≡ (get_or xs i d).now
at xs i d inside = get_or-map (λ (x : Bor (List ℕ)). x.now) xs i d [] inside

number : (xs : List (Bor (List ℕ))) → length (shards_of xs) ≡ length xs
number xs = length-map xs (λ (x : Bor (List ℕ)). x.now)

-- If each element below the length is a shard of the size, all elements are.
all-long : (size n : ℕ) (shards : List Shard) → length shards ≤ n
    → ((j : ℕ) → j < n → IsShard size (get_or shards j [])) → All (IsShard size) shards
all-long size n shards most each j d h =
    subst (IsShard size) (sym (get_or_default shards j d [] h)) (each j (omega (arith, h, most)))

pub returns-in_err-check_original : goal.returns-in_err-check_original
returns-in_err-check_original c =
    let xs : List (Bor (List ℕ)) = c.args.originals.now in
    let d : Bor (List ℕ) = record { ref_ptr = (0, 0); now = [] } in
    let k : ℕ = c.args.counts.original_count in let r : ℕ = c.args.counts.recovery_count in
    let size : ℕ = length (get_or c.args.originals.now 0 d).now in
    let i : ℕ = c.loop-index.index in
    let e = c.in_err-check_original.field-0.0 in
    let inside : c.loop-index.index < length c.args.originals.now = c.loop-index-test.true in
    let some : 0 < length c.args.originals.now = omega (arith, inside) in
    let all = number xs in
    let few : c.loop-index.index ≤ c.args.counts.original_count = c.loop-index.invariant.few in
    let told : Err c.in_err-check_original.field-0.0
    ≡ answer_of (with_shard (record { configuration = default_of k r size; given = take i (shards_of xs) })
    (get_or xs i d).now) =
    c.in_err-check_original.ensures.answer
    (record { configuration = default_of k r size; given = take i (shards_of xs) }) refl refl
    (length-take-le i (shards_of xs) (omega (arith, inside, all))) in
    let fact = checked-refused k r size (shards_of xs) (omega (arith, some, all))
    (ap length (at xs 0 d some)) c.in_ok-check_encoder_rows.ensures i e (omega (arith, inside, all)) few
    (λ j h. (c.loop-index.invariant.sized j h).length_is)
    (subst (λ (s : Shard).
    Err c.in_err-check_original.field-0.0
    ≡ answer_of (with_shard (record { configuration = default_of k r size; given = take i (shards_of xs) }) s))
    (sym (at xs i d inside)) told) in
    search rules

pub loop-index-preserved : goal.loop-index-preserved
loop-index-preserved c = search (rules, at)

pub returns-then-originals-original_count : goal.returns-then-originals-original_count
returns-then-originals-original_count c =
    let xs : List (Bor (List ℕ)) = c.args.originals.now in
    let d : Bor (List ℕ) = record { ref_ptr = (0, 0); now = [] } in
    let k : ℕ = c.args.counts.original_count in let r : ℕ = c.args.counts.recovery_count in
    let size : ℕ = length (get_or c.args.originals.now 0 d).now in
    let some : 0 < length c.args.originals.now = search rules in
    let all = number xs in let done = c.loop-index-test.false in
    let less : length c.args.originals.now < c.args.counts.original_count = c.if-originals-original_count.true in
    let sized = all-long size c.loop-index.index (shards_of xs)
    (omega (arith, all, done)) c.loop-index.invariant.sized in
    subst (λ (n : ℕ). OneEncodeAnswers c.args.counts.original_count c.args.counts.recovery_count
    (shards_of c.args.originals.now) (Err (TooFewOriginalShards c.args.counts.original_count n))) all
    (checked-few k r size (shards_of xs) (omega (arith, some, all))
    (ap length (at xs 0 d some)) c.in_ok-check_encoder_rows.ensures
    (omega (arith, all, less)) (λ j f h. (sized j f h).length_is) (omega (arith, all, less)))

pub returns : goal.returns
returns c =
    let xs : List (Bor (List ℕ)) = c.args.originals.now in
    let d : Bor (List ℕ) = record { ref_ptr = (0, 0); now = [] } in
    let k : ℕ = c.args.counts.original_count in let r : ℕ = c.args.counts.recovery_count in
    let size : ℕ = length (get_or c.args.originals.now 0 d).now in
    let some : 0 < length c.args.originals.now = search rules in
    let all = number xs in let done = c.loop-index-test.false in
    let few = c.loop-index.invariant.few in
    let enough = c.if-originals-original_count.false in
    let sized = all-long size c.loop-index.index (shards_of xs)
    (omega (arith, all, done)) c.loop-index.invariant.sized in
    are-checked k r size (shards_of xs) (omega (arith, some, all, done, few))
    (omega (arith, all, done, few, enough)) sized c.in_ok-check_encoder_rows.ensures
