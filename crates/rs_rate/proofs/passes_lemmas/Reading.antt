-- Originals that are read where they are: their words, and blocks of them.
use Rattle.std.proofs.Common.{◌≡◌, ℕ, zero, suc, ◌+◌, ◌*◌, ◌/◌, ◌%◌, ◌^◌, ◌<◌, ◌≤◌, List, [], length, ◌++◌, All}
use Rattle.std.proofs.Common.{inl, inr}
use Rattle.std.proofs.Common.{Bool, true, false}
use Rattle.std.proofs.Common.{refl, ap, ap₂, subst, ◌∙◌, arith, pow-suc}
use Rattle.std.proofs.lemmas.Bool.{cases_lt}
use Rattle.std.proofs.lemmas.Grind.{common_steps}
use Rattle.std.proofs.lemmas.List.Elements.{All-get_or}
use Rattle.std.specs.Simd.{first_chunks}
use Rattle.rs_field.specs.code.Column.{Shard, column, shard_at}
use Rattle.rs_field.specs.rows.Rows.{Chunks, chunk, symbol, word_in}
use Rattle.rs_field.specs.words.Search.{first_below}
use Rattle.rs_field.specs.words.StepBounds.{log2, transform_steps}
use Rattle.rs_field.proofs.rows_lemmas.LayoutLemmas.{symbol_of_chunk}
use Rattle.rs_field.proofs.rows_lemmas.RowOffsets.{row_within}
use Rattle.rs_rate.specs.declared.values.configuration.Configuration.{Configuration}
use Rattle.rs_rate.specs.passes.Coding.{SumsBlocks}
use Rattle.rs_rate.specs.passes.Reading.{CanRead, message_word, rows_to_read, strip_rows}
use Rattle.rs_rate.specs.values.Configured.{IsConfigured, block_of}
use Rattle.rs_rate.proofs.values_lemmas.ConfiguredLemmas.{configuration-by}
use Rattle.rs_rate.proofs.values_lemmas.HighCounts.{rows-fit}

-- The symbols of the chunks of an original are its words.
pub read_word : (n k s i : ℕ) (piece : Shard) (shards : List Shard) → piece ≡ shard_at shards i → i < length shards
    → All (λ shard. length shard ≡ n * 64) shards → k < n → s < 32
    → symbol (chunk (first_chunks 64 (length piece / 64) piece) k) s ≡ message_word shards k s i
read_word n k s i piece shards is few sized inside symbols =
    let long : length piece ≡ n * 64 =
    ap length is ∙ All-get_or (λ shard. length shard ≡ n * 64) shards i [] few sized in
    let chunk_at : k ≡ (k * 32 + s) / 32 = omega (arith, symbols) in
    let symbol_at : s ≡ (k * 32 + s) % 32 = omega (arith, symbols) in
    ap₂ (λ (a b : ℕ). symbol (chunk (first_chunks 64 (length piece / 64) piece) a) b) chunk_at symbol_at
    ∙ symbol_of_chunk (length piece / 64) (k * 32 + s) piece (omega (arith, long, inside, symbols)) (omega arith)
    ∙ ap (column (k * 32 + s)) is

-- A power of two above one is even.
power_even : (block : ℕ) → 1 < block → (d : ℕ) × (block ≡ 2 ^ d) → block % 2 ≡ 0
power_even block some (zero, is) = absurd (let no : ⊥ = omega (arith, some, is) in no)
power_even block some (suc d, is) = let p = pow-suc 2 d in omega (arith, is, p)

-- A power of two above four is a multiple of eight, by a power of two.
pub many_rows : (block : ℕ) → 4 < block → (d : ℕ) × (block ≡ 2 ^ d) → (d : ℕ) × (block ≡ 8 * 2 ^ d)
many_rows block more (zero, is) = absurd (let no : ⊥ = omega (arith, more, is) in no)
many_rows block more (suc zero, is) = absurd (let no : ⊥ = omega (arith, more, is) in no)
many_rows block more (suc (suc zero), is) = absurd (let no : ⊥ = omega (arith, more, is) in no)
many_rows block more (suc (suc (suc d)), is) =
    let once = pow-suc 2 d in
    let twice = pow-suc 2 (suc d) in
    let thrice = pow-suc 2 (suc (suc d)) in
    (d, omega (arith, is, once, twice, thrice))

few_steps : (transform_steps 2 ≡ 1) × (transform_steps 4 ≡ 4)
unfolding transform_steps log2 first_below
few_steps = (refl, refl)

-- The transform of a block of two or four rows takes at most a step for each row.
pub block_steps : (block : ℕ) → 1 < block → block ≤ 4 → (d : ℕ) × (block ≡ 2 ^ d) → transform_steps block ≤ block
block_steps block some few power =
    let even = power_even block some power in
    elim (cases_lt block 3) [
      | inl less ↦
          let two : 2 ≡ block = omega (arith, some, less) in
          subst (λ (n : ℕ). transform_steps n ≤ n) two (omega (arith, few_steps.0))
      | inr more ↦
          let four : 4 ≡ block = omega (arith, more, few, even) in
          subst (λ (n : ℕ). transform_steps n ≤ n) four (omega (arith, few_steps.1))
    ]

-- The rows to read are those of a block, or more.
pub rows_of_block : (block k : ℕ) → block ≤ rows_to_read block k
unfolding rows_to_read
rows_of_block block k = grind (arith, common_steps)

-- If there are further blocks of more than four rows, there are spare rows for one block.
pub spare_rows : (block k : ℕ) → 4 < block → block < k → rows_to_read block k ≡ 2 * block
unfolding rows_to_read
spare_rows block k many further = grind (arith, common_steps)

-- The words of the rows at the front of chunks are those of these rows alone.
pub front_word : (front back : Chunks) (block len k s q : ℕ) → block * len ≤ length front → q < block → k < len
    → word_in (front ++ back) len k s q ≡ word_in front len k s q
front_word front back block len k s q long few inside =
    let at : q * len + k < length front = omega (arith, row_within q block k len few inside, long) in
    ap (λ c. symbol c s) (get_or_front front back (q * len + k) at)
  where
    get_or_front : (front back : Chunks) (i : ℕ) → i < length front → chunk (front ++ back) i ≡ chunk front i
    get_or_front front back i at = grind (arith, common_steps)

-- Sums of blocks in the rows at the front of chunks.
pub front_sums : (front back : Chunks) (block n count len k s : ℕ) (old : ℕ → ℕ) → block * len ≤ length front → k < len
    → SumsBlocks block n count old (word_in front len k s)
    → SumsBlocks block n count old (word_in (front ++ back) len k s)
front_sums front back block n count len k s old long inside (combinations, values, sums) =
    (combinations, values, λ q few. front_word front back block len k s q long few inside ∙ sums q few)

-- Shorter shards without tails can be read, too.
pub reads_shorter : {c : Configuration} → CanRead c → (bytes : ℕ) → bytes ≤ c.shard_bytes → bytes % 64 ≡ 0
    → CanRead (record c { shard_bytes = bytes })
reads_shorter can bytes less whole = record {
  high = can.high;
  some = can.some;
  whole = whole;
  short = omega (arith, less, can.short);
}

-- There are rows for the recovery shards.
pub recovery_fits : (reads : Bool) (own : Configuration) → IsConfigured own → (reads ≡ true → CanRead own)
    → own.recovery_count ≤ strip_rows reads own
recovery_fits true own configured can =
    let by = configuration-by configured (can refl).high in
    let rows = rows-fit false own.original_count own.recovery_count by.0 in
    let enough = rows_of_block (block_of own) own.original_count in
    omega (arith, rows.block, by.1, enough)
recovery_fits false own configured can = configured.recovery
