-- A set that is created piece by piece.
use Rattle.std.proofs.Common.{rules, ◌≡◌, ℕ, zero, suc, ◌+◌, ◌-◌, ◌<◌, ◌≤◌, ◌⊎◌, List, [], ◌++◌, length, take, Some}
use Rattle.std.proofs.Common.{refl, sym, ap, ◌∙◌, inl, inr, arith}
use Rattle.std.specs.Prelude.{Option, Bool, Result, Ok, Err, IfOk}
use Rattle.std.specs.declared.io.Error.{Error}
use Rattle.std.proofs.lemmas.Grind.{common_steps}
use Rattle.std.specs.List.{flat_map}
use Rattle.std.proofs.lemmas.List.{take_all, get_or-append_right}
use Rattle.std.proofs.Math.ListN.{get_or-append}
use Rattle.sha2.specs.Sha256.{sha256}
use Rattle.sha2.specs.declared.Sha256.{Sha256}
use Rattle.rs_field.specs.code.Column.{Shard, AreShards, shard_at}
use Rattle.rs_field.specs.code.Given.{Shards}
use Rattle.rs_field.specs.code.OneCall.{default_of}
use Rattle.rs_field.specs.code.Pieces.{IsStrip}
use Rattle.rs_field.proofs.code_lemmas.Pieces.{strips-join}
use Rattle.rs_volumes.specs.declared.coding_error.CodingError.{CodingError}
use Rattle.rs_volumes.specs.declared.coding_error.CodingError.TheVariants as errors
use Rattle.rs_volumes.specs.declared.creating.Shape.{Shape}
use Rattle.rs_volumes.specs.Creating.{CreatingFails, IsCreated, IsCreatedExcept, MakesPiece, PieceFails}
use Rattle.rs_volumes.specs.Hashing.{AreHashed, joined, emptied, empty_blocks}
use Rattle.rs_volumes.proofs.Hashes.{length-joined, shard_at-joined, joined-emptied, emptied-empty, emptied-none}
use Rattle.rs_volumes.proofs.Strips.{take-further, shards-joined, IsCodedTo, coded-none, coded-more}

-- the first `start` bytes of each block were read, coded, hashed and written; nothing of a marked original block was
-- hashed
pub record IsCreatedTo (marks : List Bool) (shape : Shape) (start : ℕ) (known before now : Shards)
    (hashers recovery_hashers : List Sha256) : Type 0 where
  pub originals : List Shard
  pub recovery : List Shard
  pub shards : AreShards shape.original_count start originals
  pub made : AreShards shape.recovery_count start recovery
  pub coded : IsCodedTo shape.original_count shape.recovery_count shape.block_bytes start originals recovery
  pub read : (i : ℕ) (block : Shard) → i < shape.original_count → known i ≡ Some block
      → shard_at originals i ≡ take start block
  pub hashed : AreHashed hashers (emptied marks originals)
  pub recovery_hashed : AreHashed recovery_hashers recovery
  pub written : (i : ℕ) → i < shape.original_count + shape.recovery_count → before i ≡ Some []
      → now i ≡ Some (shard_at (originals ++ recovery) i)

pub length-empty : (n : ℕ) → length (empty_blocks n) ≡ n
length-empty zero = refl
length-empty (suc n) = ap suc (length-empty n)

shard_at-empty : (n i : ℕ) → shard_at (empty_blocks n) i ≡ []
shard_at-empty zero i = refl
shard_at-empty (suc n) zero = refl
shard_at-empty (suc n) (suc i) = shard_at-empty n i

empty_shards : (n : ℕ) → AreShards n 0 (empty_blocks n)
empty_shards n = grind (arith, common_steps)

-- block i of two lists, of which the first has n blocks
split_at : (n : ℕ) (xs ys : List Shard) (i : ℕ) → length xs ≡ n → ((i < n) × (shard_at (xs ++ ys) i ≡ shard_at xs i))
    ⊎ ((n ≤ i) × (shard_at (xs ++ ys) i ≡ shard_at ys (i - n)))
split_at n xs ys i len = search (rules, get_or-append, get_or-append_right)

empty_block : (k r i : ℕ) → shard_at (empty_blocks k ++ empty_blocks r) i ≡ []
empty_block k r i = search (rules, split_at, shard_at-empty)

-- Before the first piece, nothing was read, coded, hashed or written.
pub created_none : {marks : List Bool} {shape : Shape} {known before : Shards} {hashers recovery_hashers : List Sha256}
    → AreHashed hashers (empty_blocks shape.original_count)
    → AreHashed recovery_hashers (empty_blocks shape.recovery_count)
    → IsCreatedTo marks shape 0 known before before hashers recovery_hashers
created_none {marks = marks} {shape = shape} one two =
    let k : ℕ = shape.original_count in
    let r : ℕ = shape.recovery_count in
    record {
      originals = empty_blocks k;
      recovery = empty_blocks r;
      shards = empty_shards k;
      made = empty_shards r;
      coded = coded-none k r shape.block_bytes (empty_blocks k) (empty_blocks r);
      read = λ i block lt is. shard_at-empty k i;
      hashed = rw (sym (emptied-empty marks k)) at one;
      recovery_hashed = two;
      written = λ i lt is. is ∙ ap Some (sym (empty_block k r i));
    }

-- each block of two lists has as many bytes as each block of one of them
sized_both : (k r n : ℕ) (xs ys : List Shard) (i : ℕ) → AreShards k n xs → AreShards r n ys → i < k + r
    → n ≡ length (shard_at (xs ++ ys) i)
sized_both k r n xs ys i one two lt =
    elim (split_at k xs ys i one.length_is) [
      | inl first ↦ rw first.1 (sym (one.each i [] (omega (arith, first.0, one.length_is))).length_is)
      | inr second ↦
          rw second.1 (sym (two.each (i - k) [] (omega (arith, second.0, lt, two.length_is))).length_is)
    ]

-- the blocks of two joined lists
joined_block : (k r : ℕ) (xs ys ps qs : List Shard) (i : ℕ) → length xs ≡ k → length ys ≡ r → length ps ≡ k
    → length qs ≡ r → i < k + r
    → shard_at (joined xs ps ++ joined ys qs) i ≡ shard_at (xs ++ ys) i ++ shard_at (ps ++ qs) i
joined_block k r xs ys ps qs i a b c d lt =
    search (rules, split_at, length-joined, get_or-append, shard_at-joined, get_or-append_right)

module _ {marks : List Bool} {shape : Shape} {start end : ℕ} {known before now after : Shards}
    {h h' r r' : List Sha256} where
  -- If the first `start` bytes of each block were read, coded, hashed and written, and then the piece from `start` to
  -- `end`, the same is true of the first `end` bytes.
  pub created_more : IsStrip start end shape.block_bytes
      → IsCreatedTo marks shape start known before now h r → MakesPiece marks shape start end known now after h h' r r'
      → IsCreatedTo marks shape end known before after h' r'
  created_more strip old new =
      let sum : start + (end - start) ≡ end = omega (arith, strip.order) in
      record {
        originals = joined old.originals new.pieces;
        recovery = joined old.recovery new.made;
        shards = rw sum at (shards-joined old.shards new.shards);
        made = rw sum at (shards-joined old.made new.coded.shards);
        coded = coded-more strip old.shards old.made new.shards new.coded old.coded;
        read = λ i block lt is.
            let one : i < length old.originals = omega (arith, lt, old.shards.length_is) in
            let two : i < length new.pieces = omega (arith, lt, new.shards.length_is) in
            shard_at-joined old.originals new.pieces i one two
            ∙ rw (old.read i block lt is, new.read i block lt is) (take-further start end block strip.order);
        hashed = rw (joined-emptied marks old.originals new.pieces) at
            (new.hashed (emptied marks old.originals) old.hashed);
        recovery_hashed = new.recovery_hashed old.recovery old.recovery_hashed;
        written = λ i lt is.
            new.put i (shard_at (old.originals ++ old.recovery) i) lt (old.written i lt is)
            (sized_both shape.original_count shape.recovery_count start old.originals old.recovery i old.shards old.made
            lt)
            ∙ ap Some (sym (joined_block shape.original_count shape.recovery_count old.originals old.recovery new.pieces
            new.made i old.shards.length_is old.made.length_is new.shards.length_is new.coded.shards.length_is lt));
      }

module _ {marks : List Bool} {shape : Shape} (reads writes : Option Shard → ℕ → Error → Type 0) {start end : ℕ}
    {known before now : Shards} {h r : List Sha256} where
  -- If the next piece of each block fails with an error, the creation may fail with this error.
  pub creating_fails : (e : CodingError) → start < end → IsStrip start end shape.block_bytes
      → IsCreatedTo marks shape start known before now h r → PieceFails shape reads writes start end known now e
      → CreatingFails shape reads writes known before e
  creating_fails errors.Memory order strip old fails = tt
  creating_fails (errors.Read i e) order strip old fails = (fails.0, (end, strip.inside, fails.1))
  creating_fails (errors.Write i e) order strip old fails = (
    fails.0,
    record {
      held = now i;
      start = start;
      next = λ none. (
        shard_at (old.originals ++ old.recovery) i,
        old.written i fails.0 none,
        sized_both shape.original_count shape.recovery_count start old.originals old.recovery i old.shards old.made
            fails.0,
      );
      fails = fails.1;
    },
  )
  creating_fails (errors.Code e) order strip old fails =
      record {
        start = start;
        end = end;
        pieces = fails.0;
        order = order;
        strip = strip;
        are = fails.1;
        answers = fails.2;
      }
  creating_fails (errors.Missing n) order strip old fails = fails
  creating_fails (errors.NotFound i) order strip old fails = fails
  creating_fails (errors.Digest i) order strip old fails = fails

module _ {marks : List Bool} {shape : Shape} {start : ℕ} {known before now : Shards} {h r : List Sha256}
    {digests : List ℕ} where
  -- If all bytes of each block were read, coded, hashed and written, the set is created.
  pub created_all : start ≡ shape.block_bytes
      → IsCreatedTo marks shape start known before now h r
      → ((blocks : List Shard) → AreHashed h blocks → (others : List Shard) → AreHashed r others
      → digests ≡ flat_map sha256 blocks ++ flat_map sha256 others)
      → IsCreatedExcept marks shape known before now digests
  created_all ends done hashed =
      let shards = rw ends at done.shards in
      record {
        originals = done.originals;
        recovery = done.recovery;
        shards = shards;
        coded = strips-join (default_of shape.original_count shape.recovery_count shape.block_bytes) done.originals
            done.recovery shards (rw ends at done.made)
            (λ byte lt. let is = done.coded.strips byte (rw ends lt) in
            (is.0, is.1, is.2, is.3, is.4, is.6));
        read = λ i block lt is len. done.read i block lt is ∙ take_all start block (omega (arith, ends, len));
        digests_are = hashed (emptied marks done.originals) done.hashed done.recovery done.recovery_hashed;
        written = done.written;
      }

-- Without marks, the digests of all blocks are computed.
pub created_whole : {shape : Shape} {known before now : Shards} {digests : List ℕ}
    → IsCreatedExcept [] shape known before now digests → IsCreated shape known before now digests
created_whole {digests = digests} done =
    record {
      originals = done.originals;
      recovery = done.recovery;
      shards = done.shards;
      coded = done.coded;
      read = done.read;
      digests_are = done.digests_are
          ∙ ap (λ (bs : List Shard). flat_map sha256 bs ++ flat_map sha256 done.recovery)
          (emptied-none done.originals);
      written = done.written;
    }

-- If P implies Q for each value, and P is true of the value of a result, Q is true of this value.
pub of_value : {T E : Type 0} {P Q : T → Type 0} (r : Result T E) → ((v : T) → P v → Q v) → IfOk r P → IfOk r Q
of_value (Ok v) more is = more v is
of_value (Err e) more is = tt
