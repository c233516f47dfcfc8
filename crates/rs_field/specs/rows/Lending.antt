-- Rows that are lent: where the bytes that a caller writes to them are after the loan.
use Rattle.std.specs.Prelude.{ℕ, ◌+◌, ◌-◌, ◌*◌, ◌++◌, [], take, drop}
use Rattle.std.specs.Borrow.{Lends, LendsBoth, MutBor, RattleType, Fml, fsep, u8, Array}
use base.Fml.{fall, fres, fwand}
use denote.MutBor.{at_last}
use mir.Syntax.{named}
use Rattle.rs_field.specs.rows.Rows.{Chunks}
use Rattle.rs_field.specs.declared.rows.shards.ShardsRefMut.{ShardsRefMut}
use Rattle.rs_field.specs.contracts.rows.shards.ShardsRefMut.{the_row}

-- the list with other chunks instead of the n chunks from a on
abbrev pub with_run : Chunks → ℕ → ℕ → Chunks → Chunks
with_run chunks a n run = take a chunks ++ (run ++ drop n (drop a chunks))

-- the chunks from a to b - 1
abbrev pub between : ℕ → ℕ → Chunks → Chunks
between a b chunks = take (b - a) (drop a chunks)

-- the list with other chunks instead of the n chunks from a on and of the m chunks from b on
abbrev pub with_two : Chunks → ℕ → ℕ → ℕ → ℕ → Chunks → Chunks → Chunks
with_two chunks a n b m first second =
    take a chunks ++ (first ++ (between (a + n) b chunks ++ (second ++ drop (b + m) chunks)))

-- the list with other chunks instead of the n chunks from each of four places on
abbrev pub with_four : Chunks → ℕ → ℕ → ℕ → ℕ → ℕ → Chunks → Chunks → Chunks → Chunks → Chunks
with_four chunks a b c d n first second third fourth =
    take a chunks ++ (first ++ (between (a + n) b chunks ++ (second ++ (between (b + n) c chunks
    ++ (third ++ (between (c + n) d chunks ++ (fourth ++ drop (d + n) chunks)))))))

-- the rows with other chunks in the same memory
abbrev pub with_chunks : ShardsRefMut → Chunks → ShardsRefMut
with_chunks rows chunks = record rows { chunks = at_last rows.chunks chunks }

-- all chunks are lent: afterwards the rows hold the last value that was written
abbrev pub LendsAll : MutBor ShardsRefMut → MutBor Chunks → Fml
LendsAll rows lent =
    Lends (the_row (record { mir = named 1; lft = [] })) (Array (Array u8 64) 0) rows lent (with_chunks rows.now)

-- the n chunks from a on are lent: afterwards they hold what was last written, and all other chunks are as before
abbrev pub LendsRun : MutBor ShardsRefMut → ℕ → ℕ → MutBor Chunks → Fml
LendsRun rows a n lent =
    Lends (the_row (record { mir = named 1; lft = [] })) (Array (Array u8 64) 0) rows lent
    (λ run. with_chunks rows.now (with_run rows.now.chunks.now a n run))

-- row i is lent: afterwards it holds what was last written, and all other chunks are as before
abbrev pub LendsRow : MutBor ShardsRefMut → ℕ → MutBor Chunks → Fml
LendsRow rows i lent = LendsRun rows (i * rows.now.shard_len_64) rows.now.shard_len_64 lent

-- the n chunks from a on are lent from a list of chunks: afterwards they hold what was last written, and all other
-- chunks are as before
abbrev pub LendsChunks : MutBor Chunks → ℕ → ℕ → MutBor Chunks → Fml
LendsChunks chunks a n lent =
    Lends (Array (Array u8 64) 0) (Array (Array u8 64) 0) chunks lent (with_run chunks.now a n)

-- the n chunks from a on and the m chunks from b on are lent from a list of chunks: afterwards they hold what was
-- written to them, and all other chunks are as before
abbrev pub LendsParts : MutBor Chunks → ℕ → ℕ → ℕ → ℕ → MutBor Chunks × MutBor Chunks → Fml
LendsParts chunks a n b m lent =
    LendsBoth (Array (Array u8 64) 0) (Array (Array u8 64) 0) (Array (Array u8 64) 0) chunks lent
    (with_two chunks.now a n b m)

-- the n chunks from a on and the m chunks from b on are lent: afterwards they hold what was written to them, and all
-- other chunks are as before
abbrev pub LendsTwoRuns : MutBor ShardsRefMut → ℕ → ℕ → ℕ → ℕ → MutBor Chunks × MutBor Chunks → Fml
LendsTwoRuns rows a n b m lent =
    LendsBoth (the_row (record { mir = named 1; lft = [] })) (Array (Array u8 64) 0) (Array (Array u8 64) 0) rows lent
    (λ first second. with_chunks rows.now (with_two rows.now.chunks.now a n b m first second))

-- rows i and j are lent: afterwards they hold what was written to them, and all other chunks are as before
abbrev pub LendsTwoRows : MutBor ShardsRefMut → ℕ → ℕ → MutBor Chunks × MutBor Chunks → Fml
LendsTwoRows rows i j lent = let n = rows.now.shard_len_64 in LendsTwoRuns rows (i * n) n (j * n) n lent

-- the rows before row mid and the rows from row mid on are lent as two lists: afterwards the rows hold what was written
-- to these lists
abbrev pub LendsHalves : MutBor ShardsRefMut → ℕ → ShardsRefMut × ShardsRefMut → Fml
LendsHalves rows mid lent =
    let n = rows.now.shard_len_64 in
    LendsTwoRuns rows 0 (mid * n) (mid * n) ((rows.now.shard_count - mid) * n) (lent.0.chunks, lent.1.chunks)

-- s ends as F v w x y, where v, w, x and y are the last values of the four parts of r: `LendsBoth` for four parts
abbrev pub LendsFour : (R T : RattleType) → MutBor R.Denot → MutBor T.Denot × MutBor T.Denot × MutBor T.Denot
    × MutBor T.Denot
    → (T.Denot → T.Denot → T.Denot → T.Denot → R.Denot) → Fml
LendsFour R T s r F =
    let ends = λ (x : MutBor T.Denot) (last : T.Denot). fres x.ghost_name (T.coded.code last) in
    fall (T.Denot × T.Denot × T.Denot × T.Denot) (λ v.
    fwand (fsep (fsep (ends r.0 v.0) (ends r.1 v.1)) (fsep (ends r.2 v.2) (ends r.3 v.3)))
    (fres s.ghost_name (R.coded.code (F v.0 v.1 v.2 v.3))))

-- four runs of n chunks are lent, one from each of four places on: afterwards the chunks hold what was written to these
-- runs
abbrev pub LendsFourRuns : MutBor ShardsRefMut → ℕ → ℕ → ℕ → ℕ → ℕ → MutBor Chunks × MutBor Chunks × MutBor Chunks
    × MutBor Chunks → Fml
LendsFourRuns rows a b c d n lent =
    LendsFour (the_row (record { mir = named 1; lft = [] })) (Array (Array u8 64) 0) rows lent
    (λ first second third fourth.
    with_chunks rows.now (with_four rows.now.chunks.now a b c d n first second third fourth))

-- rows i, j, k and l are lent: afterwards the rows hold what was written to the lent chunks
abbrev pub LendsFourRows : MutBor ShardsRefMut → ℕ → ℕ → ℕ → ℕ → MutBor Chunks × MutBor Chunks × MutBor Chunks
    × MutBor Chunks → Fml
LendsFourRows rows i j k l lent = let n = rows.now.shard_len_64 in
    LendsFourRuns rows (i * n) (j * n) (k * n) (l * n) n lent
