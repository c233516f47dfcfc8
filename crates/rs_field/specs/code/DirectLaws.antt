-- Laws about shards that were not received: each of their words is a direct sum over the received shards.
use Rattle.std.specs.Prelude.{◌≡◌, ◌↔◌, ℕ, ◌+◌, ◌-◌, ◌/◌, ◌%◌, ◌<◌, ◌≤◌, false, true, List, Option, Some, None}
use Rattle.std.specs.Prelude.{is_some, nat_le, nat_lt, ◌&&◌, ◌||◌, if◌then◌else◌}
use Rattle.rs_field.specs.words.Locator.{log_sum}
use Rattle.rs_field.specs.words.DirectSum.{direct_sum}
use Rattle.rs_field.specs.code.Column.{Shard, shard_at, column}
use Rattle.rs_field.specs.code.Counts.{supports}
use Rattle.rs_field.specs.declared.code.frame.Frame.{Frame}
use Rattle.rs_field.specs.code.Frame.{frame_at, row_count, original_row, recovery_row}
use Rattle.rs_field.specs.code.Configuration.{Configuration}
use Rattle.rs_field.specs.code.Decoder.{DecoderState}
use Rattle.rs_field.specs.code.Given.{Shards, count_below, AreWithin, Agrees, Consistent}

-- the given shard at a point of n shards, which have the points from `from` on; at other points another entry
unfoldable pub entry_in : ℕ → ℕ → Shards → Option Shard → ℕ → Option Shard
entry_in from n given other x = if nat_le from x && nat_lt x (from + n) then given (x - from) else other

-- the given shard at a point of a frame, if there is one
unfoldable pub given_at : Frame → ℕ → ℕ → Shards → Shards → ℕ → Option Shard
given_at frame k r originals recovery x =
    entry_in frame.originals_from k originals (entry_in frame.recovery_from r recovery None x) x

-- the shard that a decoder received in a row, if there is one
abbrev pub shard_in_row : DecoderState → ℕ → Option Shard
shard_in_row s x =
    given_at (frame_at s.configuration) s.configuration.original_count s.configuration.recovery_count s.originals
    s.recovery x

-- word j of a shard, or 0 if there is no shard
unfoldable pub word_of : ℕ → Option Shard → ℕ
word_of j None = 0
word_of j (Some shard) = column j shard

-- word j of the given shard at a point, or 0 if there is none
unfoldable pub word_at : Frame → ℕ → ℕ → Shards → Shards → ℕ → ℕ → ℕ
word_at frame k r originals recovery j x = word_of j (given_at frame k r originals recovery x)

-- 1 at an erased point: no shard is given there, and it is no zero point; 0 at any other point
unfoldable pub mark_at : Frame → ℕ → ℕ → Shards → Shards → ℕ → ℕ
mark_at frame k r originals recovery x =
    if is_some (given_at frame k r originals recovery x) || (nat_le frame.zeros_from x && nat_lt x frame.zeros_to)
    then 0 else 1

-- the locator of the erased points among the rows of a frame
unfoldable pub locator_at : Frame → ℕ → ℕ → Shards → Shards → ℕ → ℕ
locator_at frame k r originals recovery x = log_sum (row_count frame) (mark_at frame k r originals recovery) x % 65535

-- the direct sum over the words j of the given shards, at a point
unfoldable pub summed_word : Configuration → Shards → Shards → ℕ → ℕ → ℕ
summed_word c originals recovery j =
    let k = c.original_count in
    let r = c.recovery_count in
    let frame = frame_at c in
    direct_sum (row_count frame) (λ x. is_some (given_at frame k r originals recovery x))
    (locator_at frame k r originals recovery) (word_at frame k r originals recovery j)

-- any k shards of one size, with different indexes, belong to exactly one message
abbrev pub HasOneMessage : Type 0
HasOneMessage =
    (c : Configuration) (originals recovery : Shards) → supports c.rate c.original_count c.recovery_count ≡ true
    → c.shard_bytes % 2 ≡ 0
    → AreWithin c.original_count c.shard_bytes originals → AreWithin c.recovery_count c.shard_bytes recovery
    → count_below c.original_count originals + count_below c.recovery_count recovery ≡ c.original_count
    → (message : List Shard) × Agrees c originals recovery message
    × ((other : List Shard) → Agrees c originals recovery other → other ≡ message)

-- if at least k shards are given and a message agrees with them, each word of an original that is not given is the
-- direct sum at its point, and so is each word of a recovery shard that is not given
abbrev pub IsSummedDirectly : Type 0
IsSummedDirectly =
    (c : Configuration) (originals recovery : Shards) (message : List Shard) (i j : ℕ)
    → supports c.rate c.original_count c.recovery_count ≡ true
    → AreWithin c.original_count c.shard_bytes originals → AreWithin c.recovery_count c.shard_bytes recovery
    → c.original_count ≤ count_below c.original_count originals + count_below c.recovery_count recovery
    → (agrees : Agrees c originals recovery message) → j < c.shard_bytes / 2
    → (i < c.original_count → is_some (originals i) ≡ false
    → summed_word c originals recovery j (original_row (frame_at c) i)
    ≡ column j (shard_at message i))
    × (i < c.recovery_count → is_some (recovery i) ≡ false
    → summed_word c originals recovery j (recovery_row (frame_at c) i)
    ≡ column j (shard_at agrees.coded.0 i))

-- each entry of a map is an entry of another map
pub record IsPartOf (part all : Shards) : Type 0 where
  pub entries : (i : ℕ) (shard : Shard) → part i ≡ Some shard → all i ≡ Some shard

-- the words of each given shard outside the base are the direct sums over the shards of the base
pub record AreSummed (c : Configuration) (originals recovery base_originals base_recovery : Shards) : Type 0 where
  pub own : (i : ℕ) (shard : Shard) (j : ℕ) → originals i ≡ Some shard → is_some (base_originals i) ≡ false
      → j < c.shard_bytes / 2
      → summed_word c base_originals base_recovery j
      (original_row (frame_at c) i) ≡ column j shard
  pub coded : (i : ℕ) (shard : Shard) (j : ℕ) → recovery i ≡ Some shard → is_some (base_recovery i) ≡ false
      → j < c.shard_bytes / 2
      → summed_word c base_originals base_recovery j
      (recovery_row (frame_at c) i) ≡ column j shard

-- take any k of the given shards as the base: some message agrees with all given shards if and only if the words of all
-- others are the direct sums over the base
abbrev pub IsDecidedByBase : Type 0
IsDecidedByBase =
    (c : Configuration) (originals recovery base_originals base_recovery : Shards)
    → supports c.rate c.original_count c.recovery_count ≡ true → c.shard_bytes % 2 ≡ 0
    → AreWithin c.original_count c.shard_bytes originals → AreWithin c.recovery_count c.shard_bytes recovery
    → IsPartOf base_originals originals → IsPartOf base_recovery recovery
    → count_below c.original_count base_originals + count_below c.recovery_count base_recovery ≡ c.original_count
    → Consistent c originals recovery ↔ AreSummed c originals recovery base_originals base_recovery
