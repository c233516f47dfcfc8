use Rattle.std.proofs.Common.{rules, ◌≡◌, ℕ, ◌+◌, ◌*◌, ◌%◌, ◌≤◌, All, false, length, drop, ◌++◌, refl}
use Rattle.std.proofs.Common.{sym, ap, ap₂, ◌∙◌, subst}
use Rattle.std.proofs.Common.{arith, zero-add}
use Rattle.std.proofs.Math.Nat.{mul-le-mul_right}
use Rattle.std.proofs.lemmas.Grind.{common_steps}
use Rattle.std.proofs.lemmas.List.{length-take-le}
use Rattle.rs_field.specs.code.Counts.{next_power}
use Rattle.rs_field.specs.code.Frame.{encoder_rows}
use Rattle.rs_field.specs.rows.Layout.{row_len}
use Rattle.rs_field.specs.rows.Rows.{Chunks, word_in}
use Rattle.rs_field.specs.rows.View.{word}
use Rattle.rs_field.specs.words.Transform.{forward}
use Rattle.rs_field.proofs.code_lemmas.NextPower.{power_is_own}
use Rattle.rs_field.proofs.code_lemmas.SupportedCounts.{high_fits}
use Rattle.rs_field.proofs.rows_lemmas.RowOffsets.{word_of}
use Rattle.rs_field.proofs.words_lemmas.Combination.{forward-same}
use Rattle.rs_rate.specs.passes.Coding.{SumsBlocks}
use Rattle.rs_rate.specs.passes.Reading.{message_word, read_rows, rows_to_read}
use Rattle.rs_rate.specs.values.ChunkCounts.{chunk_count}
use Rattle.rs_rate.specs.declared.values.configuration.Configuration.{Configuration}
use Rattle.rs_rate.specs.values.Configured.{low_or_high, block_of}
use Rattle.rs_rate.proofs.passes_lemmas.EncodeCounting.{counts_both, high_total}
use Rattle.rs_rate.proofs.passes_lemmas.HighCoding.{high_coded}
use Rattle.rs_rate.proofs.passes_lemmas.Reading.{front_sums, rows_of_block}
use Rattle.rs_rate.proofs.values_lemmas.ConfiguredLemmas.{configuration-by}
use Rattle.rs_rate.proofs.values_lemmas.HighCounts.{rows-fit}
use Rattle.rs_rate.proofs.values_lemmas.PowerLemmas.{next_block}
use Rattle.rs_rate.proofs.passes.read_encoding.code_read.Goals as goal

-- The chunks have room for the rows that are read.
roomy : (own : Configuration) (chunks : Chunks) (rows len : ℕ) → rows ≡ read_rows own → len ≡ row_len own.shard_bytes
    → chunk_count (read_rows own) own.shard_bytes ≤ length chunks → rows * len ≤ length chunks
unfolding chunk_count
roomy own chunks rows len is same room =
    subst (λ (m : ℕ). m * len ≤ length chunks) (sym is)
    (subst (λ (n : ℕ). read_rows own * n ≤ length chunks) (sym same) room)

pub invariant_of-message : goal.invariant_of-message
invariant_of-message g c =
    let own = c.args.configuration in
    let can = c.requires.can in
    let by = configuration-by c.requires.configured can.high in
    let rows = rows-fit false own.original_count own.recovery_count by.0 in
    let is : c.block_rows-block.result ≡ block_of c.args.configuration = c.block_rows-block.ensures in
    let block : c.block_rows-block.result ≡ next_power c.args.configuration.recovery_count = is ∙ by.1 in
    let len : c.row_len-len.result ≡ row_len c.args.configuration.shard_bytes = c.row_len-len.ensures in
    let size : c.args.configuration.shard_bytes ≡ c.row_len-len.result * 64 = omega (arith, len, can.whole) in
    record {
      some = omega (arith, is, can.some);
      power = subst (λ (m : ℕ). next_power m ≡ m) (sym block)
          (power_is_own (next_power own.recovery_count) rows.power.0 rows.power.1 (omega (arith, rows.points)));
      number = c.requires.number;
      sized = subst (λ (n : ℕ). All (λ shard. length shard ≡ n) (g.M.StripMessage.shards c.args.message.now)) size
          c.requires.sized;
      blank = c.zero_row.ensures;
      originals = (high_fits own.original_count own.recovery_count by.0).0;
      points = λ start aligned few.
          let next = next_block start (encoder_rows (low_or_high false) own.original_count own.recovery_count)
          (next_power own.recovery_count) (omega (arith, few, rows.enough))
          (subst (λ (m : ℕ). start % m ≡ 0) block aligned) rows.whole in
          omega (arith, next, rows.points, block);
    }

pub overflow_mul-room : goal.overflow_mul-room
overflow_mul-room g c =
    let room = roomy c.args.configuration _ _ _ c.read_rows.ensures c.row_len-len.ensures c.requires.room in
    omega (arith, room)

pub slice_bounds-sum_in-end : goal.slice_bounds-sum_in-end
slice_bounds-sum_in-end g c =
    roomy c.args.configuration _ _ _ c.read_rows.ensures c.row_len-len.ensures c.requires.room

pub slice_bounds-sum_in-end-2 : goal.slice_bounds-sum_in-end-2
slice_bounds-sum_in-end-2 g c =
    sym (length-take-le _ c.args.chunks.now
    (roomy c.args.configuration _ _ _ c.read_rows.ensures c.row_len-len.ensures c.requires.room))

-- The rows that are read are those of a block, or more.
enough : (own : Configuration) (block rows len : ℕ) → block ≡ block_of own → rows ≡ read_rows own
    → block * len ≤ rows * len
enough own block rows len is same =
    mul-le-mul_right len (let more = rows_of_block (block_of own) own.original_count in omega (arith, is, same, more))

pub sum_in-requires : goal.sum_in-requires
sum_in-requires g c =
    let own = c.args.configuration in
    let rows : c.read_rows.result ≡ rows_to_read c.block_rows-block.result c.args.configuration.original_count =
    c.read_rows.ensures ∙ ap (λ b. rows_to_read b own.original_count) (sym c.block_rows-block.ensures) in
    record {
      room = length-take-le _ c.args.chunks.now
          (roomy c.args.configuration _ _ _ c.read_rows.ensures c.row_len-len.ensures c.requires.room)
          ∙ ap (λ v. v * c.row_len-len.result) rows;
    }

-- Chunks whose front has room have room.
front_room : (front back : Chunks) (count : ℕ) → count ≤ length front → count ≤ length (front ++ back)
front_room front back count long = grind (arith, common_steps)

pub new-rows-requires : goal.new-rows-requires
new-rows-requires g c =
    let taken = length-take-le _ c.args.chunks.now
    (roomy c.args.configuration c.args.chunks.now _ _ c.read_rows.ensures c.row_len-len.ensures c.requires.room) in
    let more = enough c.args.configuration _ _ c.row_len-len.result c.block_rows-block.ensures c.read_rows.ensures in
    front_room c.sum_in.new.chunks _ _ (omega (arith, c.sum_in.ensures.length, taken, more))

pub fft-requires-clause-fits : goal.fft-requires-clause-fits
fft-requires-clause-fits g c =
    let taken = length-take-le _ c.args.chunks.now
    (roomy c.args.configuration c.args.chunks.now _ _ c.read_rows.ensures c.row_len-len.ensures c.requires.room) in
    let more = enough c.args.configuration _ _ c.row_len-len.result c.block_rows-block.ensures c.read_rows.ensures in
    subst (λ (n : ℕ). n ≤ length c.new-rows.result.chunks.now)
    (sym (ap₂ (λ (a b : ℕ). a * b) c.new-rows.ensures.count c.new-rows.ensures.len_64))
    (subst (λ (xs : Chunks). c.block_rows-block.result * c.row_len-len.result ≤ length xs)
    (sym c.new-rows.ensures.chunks)
    (front_room c.sum_in.new.chunks _ _ (omega (arith, c.sum_in.ensures.length, taken, more))))

pub fft-requires-clause-power : goal.fft-requires-clause-power
fft-requires-clause-power g c =
    let own = c.args.configuration in
    let by = configuration-by c.requires.configured c.requires.can.high in
    let rows = rows-fit false own.original_count own.recovery_count by.0 in
    (rows.power.0, c.block_rows-block.ensures ∙ by.1 ∙ rows.power.1)

pub fft-requires-clause-truncated : goal.fft-requires-clause-truncated
fft-requires-clause-truncated g c =
    let own = c.args.configuration in
    let by = configuration-by c.requires.configured c.requires.can.high in
    let rows = rows-fit false own.original_count own.recovery_count by.0 in
    omega (arith, rows.block, c.block_rows-block.ensures, by.1)

pub returns-clause-words : goal.returns-clause-words
returns-clause-words g c k s inside symbols =
    let own = c.args.configuration in
    let by = configuration-by c.requires.configured c.requires.can.high in
    let block : c.block_rows-block.result ≡ next_power c.args.configuration.recovery_count =
    c.block_rows-block.ensures ∙ by.1 in
    let n : ℕ = row_len own.shard_bytes in
    let len : c.new-rows.result.shard_len_64 ≡ row_len c.args.configuration.shard_bytes =
    c.new-rows.ensures.len_64 ∙ c.row_len-len.ensures in
    let len_too : c.fft.new.data.shard_len_64 ≡ row_len c.args.configuration.shard_bytes =
    c.fft.ensures.extent.len_64 ∙ len in
    let taken = length-take-le _ c.args.chunks.now
    (roomy c.args.configuration c.args.chunks.now _ _ c.read_rows.ensures c.row_len-len.ensures
    c.requires.room) in
    let sums = c.sum_in.ensures.sums in
    let old = message_word (g.M.StripMessage.shards c.args.message.now) k s in
    let front = c.sum_in.new.chunks in
    let more = enough c.args.configuration _ _ c.row_len-len.result c.block_rows-block.ensures c.read_rows.ensures in
    let back = drop (c.read_rows.result * c.row_len-len.result) c.args.chunks.now in
    let mid = word_in (front ++ back) n k s in
    let new = word_in c.chunks-2-1.given.0 n k s in
    high_coded own.original_count own.recovery_count sums.0 old mid new by.0
    (subst (λ (m : ℕ). c.args.configuration.original_count ≤ sums.0 * m) block sums.1)
    (subst (λ (m : ℕ). sums.0 * m + m ≤ 65536) block sums.2)
    (subst (λ (m : ℕ). SumsBlocks m sums.0 c.args.configuration.original_count old mid) block
    (subst (λ (m : ℕ). SumsBlocks c.block_rows-block.result sums.0 c.args.configuration.original_count old
    (word_in (front ++ back) m k s)) c.row_len-len.ensures
    (front_sums front back c.block_rows-block.result sums.0 c.args.configuration.original_count c.row_len-len.result k s
    old (omega (arith, c.sum_in.ensures.length, taken, more)) (omega (arith, inside, c.row_len-len.ensures))
    (sums.3 k s (omega (arith, inside, c.row_len-len.ensures)) symbols))))
    (λ i few.
    word_of c.fft.new.data c.chunks-2-1.given.0 n k s i len_too (search rules)
    ∙ ap (word c.fft.new.data k s) (sym (zero-add i))
    ∙ c.fft.ensures.values k s i (omega (arith, inside, len)) symbols few
    ∙ forward-same c.block_rows-block.result 0 (λ q. word c.new-rows.result k s (0 + q)) mid i
    (λ q hq. ap (word c.new-rows.result k s) (zero-add q)
    ∙ sym (word_of c.new-rows.result (front ++ back) n k s q len (sym c.new-rows.ensures.chunks)))
    ∙ ap (λ m. forward m 0 mid i) block)

pub returns-clause-counts : goal.returns-clause-counts
returns-clause-counts g c =
    let own = c.args.configuration in
    let by = configuration-by c.requires.configured c.requires.can.high in
    let rows = rows-fit false own.original_count own.recovery_count by.0 in
    let block : c.block_rows-block.result ≡ next_power c.args.configuration.recovery_count =
    c.block_rows-block.ensures ∙ by.1 in
    let all = high_total own.original_count own.recovery_count c.block_rows-block.result
    (encoder_rows (low_or_high false) own.original_count own.recovery_count) by.0 block refl in
    counts_both (omega (arith, all))
    (c.sum_in.ensures.counts (encoder_rows (low_or_high false) own.original_count own.recovery_count) rows.enough
    (subst (λ (m : ℕ). encoder_rows (low_or_high false) own.original_count own.recovery_count % m ≡ 0) (sym block)
    rows.whole)) c.fft.ensures.counts
